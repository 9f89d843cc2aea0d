-- `finished`: the rest is all zero, or not.
use mathlib.Core.Path.{refl, sym, ◌∙◌}
use Rattle.log_judge.specs.Rest.{rest_found}
use Rattle.log_judge.proofs.finished.Goals as goal

pub returns-then-not-clear : goal.returns-then-not-clear
returns-then-not-clear c =
    let a = c.args in
    let q = c.requires in
    sym (rest_found _ a.i a.m a.log.now q.0.0 q.1 c.is_zero-clear.ensures) ∙ c.if-not-clear.true

pub returns : goal.returns
returns c =
    let a = c.args in
    let q = c.requires in
    (sym (rest_found _ a.i a.m a.log.now q.0.0 q.1 c.is_zero-clear.ensures) ∙ c.if-not-clear.false, refl, refl)
