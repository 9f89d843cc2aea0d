-- `file_slide`: three ways to leave the page alone, and the entry put in.
use borrow.Author.Rules.{rules}
use mathlib.Core.Path.{refl, sym, ◌∙◌}
use borrow.Author.Tests.{not-false}
use Rattle.def_base.specs.Tests.{clash}
use Rattle.record_leaf.specs.Leaves.{filed}
use Rattle.record_leaf.proofs.file_slide.Goals as goal

pub returns-then-w-ne1 : goal.returns-then-w-ne1
returns-then-w-ne1 c = ((λ e. refl), λ x r eb f ek ev q. clash (sym q))

pub returns-then-n-ge-ROOM : goal.returns-then-n-ge-ROOM
returns-then-n-ge-ROOM c = ((λ e. refl), λ x r eb f ek ev q. clash (sym q))

pub returns-then-not-s : goal.returns-then-not-s
returns-then-not-s c = ((λ e. refl), λ x r eb f ek ev q. clash (sym q))

pub returns : goal.returns
returns c =
    let a = c.args in
    let w = c.get32-w in
    let s = c.seek-s in (
      (λ e. clash e),
      λ x r eb f ek ev q.
          filed a.own a.k a.v w.result _ s.result.place a.b.now _ _ w.ensures (search rules) refl (search rules) (sym s.ensures.missing ∙ not-false _ c.if-not-s.false) s.ensures.place s.ensures.within
          c.put_in.ensures c.stamp.ensures x r eb f ek ev,
    )
