-- `numbers_ok`: no page before p has too high a number, so the answer is the answer for the rest.
use native.Mathlib.Omega.{arith}
use mathlib.Core.Path.{refl, sym, ◌∙◌}
use Rattle.sound_parts.specs.Passes.{numbered, too_high, numbered_none}
use Rattle.sound_parts.proofs.numbers_ok.Goals as goal

pub loop-p-init : goal.loop-p-init
loop-p-init c = refl

pub returns-then-last-get32 : goal.returns-then-last-get32
returns-then-last-get32 c =
    let l = c.loop-p in
    let a = c.args in
    sym (l.invariant ∙ too_high a.n l.p a.last _ a.pages.now c.get32.ensures (omega arith) c.if-last-get32.true)

pub loop-p-preserved : goal.loop-p-preserved
loop-p-preserved c =
    let l = c.loop-p in
    let a = c.args in
    l.invariant ∙ numbered a.n l.p a.last _ a.pages.now c.get32.ensures (omega arith) c.if-last-get32.false

pub returns : goal.returns
returns c =
    let l = c.loop-p in
    let a = c.args in
    sym (l.invariant ∙ numbered_none a.n l.p a.last a.pages.now (omega arith))
