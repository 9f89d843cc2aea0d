-- `rises`: no key before i is too low, so the answer is the answer for the rest.
use mathlib.Core.Path.{refl, sym, ◌∙◌}
use Rattle.tree_check.specs.Nodes.{rising_more, rising_off, rising_none}
use Rattle.tree_check.proofs.rises.Goals as goal

pub loop-i-init : goal.loop-i-init
loop-i-init c = refl

pub returns-then-k-least : goal.returns-then-k-least
returns-then-k-least c =
    let a = c.args in
    let l = c.loop-i in
    sym (l.invariant ∙ rising_off a.es a.m l.i l.least c.loop-i-test.true c.if-k-least.true)

pub loop-i-preserved : goal.loop-i-preserved
loop-i-preserved c =
    let a = c.args in
    let l = c.loop-i in
    l.invariant ∙ rising_more a.es a.m l.i l.least c.loop-i-test.true c.if-k-least.false

pub returns : goal.returns
returns c =
    let a = c.args in
    let l = c.loop-i in
    sym (l.invariant ∙ rising_none a.es a.m l.i l.least c.loop-i-test.false)
