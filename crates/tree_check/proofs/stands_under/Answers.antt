-- `stands_under`: no entry, the page that is due, or the entry's child.
use mathlib.Core.Path.{sym}
use Rattle.def_base.specs.Tests.{clash}
use Rattle.tree_check.specs.Above.{stands_none, stands_due, stands_other, stands_child}
use Rattle.tree_check.proofs.stands_under.Goals as goal

pub returns-then-c : goal.returns-then-c
returns-then-c c = let a = c.args in (stands_none a.c a.p a.high c.if-c.true, λ e. clash (sym e))

pub returns-then-c-2 : goal.returns-then-c-2
returns-then-c-2 c =
    let a = c.args in
    let e = c.entry_of-e in
    let q = c.if-c.false in
    (stands_due a.c a.p a.high e.result e.ensures q c.if-c-2.true, λ t. q)

pub returns-then-e-p : goal.returns-then-e-p
returns-then-e-p c =
    let a = c.args in
    let e = c.entry_of-e in
    (stands_other a.c a.p a.high e.result e.ensures c.if-c.false c.if-c-2.false c.if-e-p.true, λ t. clash (sym t))

pub returns : goal.returns
returns c =
    let a = c.args in
    let e = c.entry_of-e in
    let q = c.if-c.false in
    (stands_child a.c a.p a.high e.result e.ensures q c.if-c-2.false c.if-e-p.false, λ t. q)
