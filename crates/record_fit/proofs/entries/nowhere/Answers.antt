-- `nowhere`: the key stands at no place before i, so the answer is the answer for the rest.
use native.Mathlib.Omega.{arith}
use mathlib.Core.Path.{refl, sym, ◌∙◌}
use Rattle.record_fit.specs.Order.{nowhere_more, nowhere_here, nowhere_none}
use Rattle.record_fit.proofs.entries.nowhere.Goals as goal

pub loop-i-init : goal.loop-i-init
loop-i-init c = refl

pub returns-then-es-i : goal.returns-then-es-i
returns-then-es-i c =
    let a = c.args in
    let l = c.loop-i in
    sym (l.invariant ∙ nowhere_here a.es a.n a.k l.i (omega arith) c.if-es-i.true)

pub loop-i-preserved : goal.loop-i-preserved
loop-i-preserved c =
    let a = c.args in
    let l = c.loop-i in
    l.invariant ∙ nowhere_more a.es a.n a.k l.i (omega arith) c.if-es-i.false

pub returns : goal.returns
returns c =
    let a = c.args in
    let l = c.loop-i in
    sym (l.invariant ∙ nowhere_none a.es a.n a.k l.i (omega arith))
