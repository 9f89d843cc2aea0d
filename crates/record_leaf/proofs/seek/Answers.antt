-- `seek`: of the entries from i on the place and whether one has the key are known, and entry i - 1 is next.
use borrow.Author.Rules.{rules}
use Prim.Native.Nat.{◌-◌}
use mathlib.Core.Path.{◌≡◌, refl}
use lib.Dec.{ltb}
use Rattle.def_base.specs.Tests.{pick}
use Rattle.record_leaf.specs.Keys.{pick_here, pick_kept, pick_within, place_turn, nowhere_turn, place_start, nowhere_start, place_end, nowhere_end}
use Rattle.record_leaf.proofs.seek.Goals.{then-x-k, else-x-k}
use Rattle.record_leaf.proofs.seek.Goals as goal

pub loop-i-init : goal.loop-i-init
loop-i-init c =
    let a = c.args in
    record { within = search rules; place_known = place_start a.b.now a.n a.k; missing_known = nowhere_start a.b.now a.n a.k }

pub loop-i-preserved : goal.loop-i-preserved
loop-i-preserved c =
    let a = c.args in
    let l = c.loop-i in
    let x = c.get32-x in
    let p : c.if-x-k.place ≡ pick (ltb x.result a.k) l.place (l.i - 1) =
    elim c.if-x-k.branch [
      | then-x-k w ↦ pick_kept x.result a.k l.place (l.i - 1) _ w.place-is w.if-x-k.true
      | else-x-k w ↦ pick_here x.result a.k l.place (l.i - 1) _ w.place-is w.if-x-k.false
    ]
    in
    record {
      within = pick_within (ltb x.result a.k) l.place (l.i - 1) a.n _ l.invariant.within (search rules) p;
      place_known = place_turn a.b.now a.n a.k l.i (l.i - 1) x.result (search rules) (search rules) (search rules) (search rules) l.place _ l.invariant.place_known p;
      missing_known = nowhere_turn a.b.now a.n a.k l.i (l.i - 1) x.result (search rules) (search rules) (search rules) (search rules) l.missing _ l.invariant.missing_known refl;
    }

pub returns : goal.returns
returns c =
    let a = c.args in
    let l = c.loop-i in
    let z : l.i ≡ 0 = search rules in
    record {
      place = place_end a.b.now a.n a.k l.i _ z l.invariant.place_known;
      missing = nowhere_end a.b.now a.n a.k l.i _ z l.invariant.missing_known;
      within = l.invariant.within;
    }
