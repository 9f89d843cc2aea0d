-- `strike_slide`: five ways to leave the page alone, and the entry taken out.
use borrow.Author.Rules.{rules}
use mathlib.Core.Path.{◌≡◌, refl, ap, sym, ◌∙◌}
use native.Mathlib.Omega.{arith}
use Rattle.def_base.specs.Tests.{clash}
use Prim.Native.Nat.{◌+◌, ◌*◌, ◌<◌}
use Rattle.def_layout.specs.Numbers.{be32}
use Rattle.record_leaf.specs.Keys.{key_shown, val_shown}
use Rattle.record_leaf.specs.Leaves.{struck}
use Rattle.record_leaf.proofs.strike_slide.Goals as goal

pub returns-then-w-ne1 : goal.returns-then-w-ne1
returns-then-w-ne1 c = ((λ e. refl), λ x r eb f ek ev q. clash (sym q))

pub returns-then-n-gt-ROOM : goal.returns-then-n-gt-ROOM
returns-then-n-gt-ROOM c = ((λ e. refl), λ x r eb f ek ev q. clash (sym q))

pub returns-then-i-n : goal.returns-then-i-n
returns-then-i-n c = ((λ e. refl), λ x r eb f ek ev q. clash (sym q))

pub returns-then-get32-k : goal.returns-then-get32-k
returns-then-get32-k c = ((λ e. refl), λ x r eb f ek ev q. clash (sym q))

pub returns-then-get32-v : goal.returns-then-get32-v
returns-then-get32-v c = ((λ e. refl), λ x r eb f ek ev q. clash (sym q))

pub returns : goal.returns
returns c =
    let a = c.args in
    let w = c.get32-w in
    let s = c.seek-i in
    let z : 20 + 8 * s.result.place ≡ 16 + 8 * s.result.place + 4 = omega arith in
    let few : s.result.place < 14 = omega (arith, c.if-i-n.false, c.if-n-gt-ROOM.false) in (
      (λ e. clash e),
      λ x r eb f ek ev q.
          struck a.own a.k a.v w.result _ s.result.place a.b.now _ _ w.ensures c.if-w-ne1.false refl s.ensures.place (search rules)
          (key_shown a.b.now s.result.place few ∙ sym c.get32.ensures ∙ c.if-get32-k.false)
          (val_shown a.b.now s.result.place few ∙ ap (be32 a.b.now) (sym z) ∙ sym c.get32-2.ensures ∙ c.if-get32-v.false) c.if-n-gt-ROOM.false
          c.take_out.ensures c.stamp.ensures x r eb f ek ev,
    )
