-- Entries that rise, as those of a tree do: a key that the search does not find stands nowhere, and what follows in the chain stands after.
use Rattle.std.specs.Prelude.{ℕ, suc, ◌≤◌, ◌<◌, ◌≡◌, refl, Bool, true, List, [], ◌∷◌, ◌++◌, ltb, eqb}
use Rattle.std.proofs.Common.{sym, arith}
use Rattle.std.proofs.Math.Option.{none, some}
use Rattle.def_base.specs.Tests.{Case, yes!, no!, case, none_some, lt_false, false_lt, true_eq, eq_true, neq_false, le_true}
use Rattle.def_layout.specs.declared.Entry.{Entry}
use Rattle.def_layout.specs.Entries.{look}
use Rattle.def_model.specs.Fit.{after, nowhere, in_order}
use Rattle.def_model.specs.TreeRules.{Node}
use Rattle.theory_tree.specs.Order.Keys.{Rising, after_append, after_mono}
use Rattle.theory_tree.specs.Shape.Levels.{ChainOk, chain_cut, ends_le}

-- Entries from above the key on.
nowhere_above : (k from : ℕ) (es : List Entry) → k < from → Rising from es → nowhere k es ≡ true
unfolding nowhere Rising
nowhere_above k from [] h r = refl
nowhere_above k from (e ∷ es) h r =
    let l = r.0 in
    let n : e.key ≡ k → ⊥ = λ q. omega arith in
    rw (neq_false n) (nowhere_above k (suc e.key) es (omega arith) r.1)

pub nowhere_looked : (k from : ℕ) (es : List Entry) → Rising from es → look k es ≡ none → nowhere k es ≡ true
unfolding nowhere Rising look
nowhere_looked k from [] r a = refl
nowhere_looked k from (e ∷ es) r a = go (case (eqb e.key k)) (case (ltb e.key k)) a (nowhere_looked k (suc e.key) es r.1)
  where
    go : Case (eqb e.key k) → Case (ltb e.key k) → look k (e ∷ es) ≡ none → (look k es ≡ none → nowhere k es ≡ true) → nowhere k (e ∷ es) ≡ true
    go (yes! q) t a again =
        let w = true_eq e.key k q in
        let s : some e.val ≡ none = rw (lt_false e.key k (omega arith), eq_true k e.key (sym w)) at a in
        none_some (sym s)
    go (no! q) (yes! t) a again =
        let a' : look k es ≡ none = rw t at a in
        rw q (again a')
    go (no! q) (no! t) a again =
        let l = false_lt e.key k t in
        rw q (nowhere_above k (suc e.key) es (omega arith) r.1)

pub in_order_rising : (xs : List Entry) (from : ℕ) (es : List Entry) → after 0 xs ≤ from → Rising from es → in_order xs es ≡ true
unfolding in_order Rising
in_order_rising xs from [] h r = refl
in_order_rising xs from (e ∷ es) h r = let l = r.0 in le_true (after 0 xs) e.key (omega arith)

-- The last of a list is the last of what it ends.
pub after_part : (a b : List Entry) → after 0 b ≤ after 0 (a ++ b)
after_part a b = let e = after_append 0 a b in let m = after_mono 0 (after 0 a) b (omega arith) in omega arith

-- Of two nodes side by side the first one's entries end where the second's cover begins, or before.
pub side_by_side_rises : (b : Bool) (from : ℕ) (xs : List Node) (q r : Node) (ys : List Node) (to : ℕ) → ChainOk b from (xs ++ q ∷ r ∷ ys) to
    → (after 0 q.items ≤ suc q.high) × Rising (suc q.high) r.items
unfolding ChainOk
side_by_side_rises b from xs q r ys to h =
    let c = chain_cut b from xs (q ∷ r ∷ ys) to h in
    let e = ends_le b (after c.mid q.items) q.high c.right.0.ends in
    let m = after_mono 0 c.mid q.items (omega arith) in
    (omega arith, c.right.1.0.rises)
