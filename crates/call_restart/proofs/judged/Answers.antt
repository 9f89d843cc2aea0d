-- `judged`: the pages' layouts, the log, and the pages' log numbers.
use mathlib.Core.Path.{sym, subst, ◌∙◌}
use borrow.Author.Tests.{not-true, not-false}
use Rattle.std.proofs.lemmas.Result.{err_from_is_err_and}
use Rattle.law_bytes.specs.LogAreas.{slots_of}
use Rattle.log_judge.specs.Judging.{Judgement}
use Rattle.call_restart.specs.Image.{pages_broken, log_broken, numbers_high, image_known}
use Rattle.call_restart.specs.Redoing.{why_refused}
use Rattle.call_restart.proofs.judged.Goals as goal

pub returns-then-not-layouts_ok : goal.returns-then-not-layouts_ok
returns-then-not-layouts_ok c =
    let a = c.args in
    let q = c.requires in
    pages_broken a.n a.m a.sp.now a.sl.now q.0 q.2 c.layouts_ok.ensures (not-true _ c.if-not-layouts_ok.true-raw)

pub returns-in_err-said : goal.returns-in_err-said
returns-in_err-said c =
    let a = c.args in
    let q = c.requires in
    let o = c.in_err-said.ensures in
    let why = why_refused _ _ _ o.value o.ok_part in
    let p = err_from_is_err_and c.from_residual.result c.from_residual.ensures.1 in
    rw (p.1, p.2, why)
    (log_broken a.n a.m a.sp.now a.sl.now q.0 q.2 (sym c.layouts_ok.ensures ∙ not-false _ c.if-not-layouts_ok.false-raw) (subst (Judgement a.n (slots_of a.m a.sl.now)) o.ok_part c.judge_log.ensures))

pub returns-then-not-numbers_ok : goal.returns-then-not-numbers_ok
returns-then-not-numbers_ok c =
    let a = c.args in
    let q = c.requires in
    let j = subst (Judgement a.n (slots_of a.m a.sl.now)) c.in_ok-said.ensures.ok_part c.judge_log.ensures in
    numbers_high a.n a.m a.sp.now a.sl.now q.0 q.2 (sym c.layouts_ok.ensures ∙ not-false _ c.if-not-layouts_ok.false-raw) _ j.1 c.numbers_ok.ensures (not-true _ c.if-not-numbers_ok.true-raw)

pub returns : goal.returns
returns c =
    let a = c.args in
    let q = c.requires in
    let j = subst (Judgement a.n (slots_of a.m a.sl.now)) c.in_ok-said.ensures.ok_part c.judge_log.ensures in
    image_known a.n a.m a.sp.now a.sl.now q.0 q.2 (sym c.layouts_ok.ensures ∙ not-false _ c.if-not-layouts_ok.false-raw) _ j.0 j.1 (λ i. (c.type_inv.sl i).fits) q.3 c.numbers_ok.ensures (not-false _ c.if-not-numbers_ok.false-raw)
