-- The leaf that covers a key: what is looked up, filed or removed in it is so in the whole level.
use Rattle.std.specs.Prelude.{ℕ, suc, ◌≤◌, ◌≡◌, Bool, true, List, ◌∷◌, ◌++◌}
use Rattle.std.proofs.Common.{sym, ap, ◌∙◌, arith}
use Rattle.std.proofs.Math.Option.{none}
use Rattle.def_layout.specs.Entries.{top, look, insert_sorted, remove_key}
use Rattle.def_model.specs.Fit.{after}
use Rattle.def_model.specs.TreeRules.{Node, flat}
use Rattle.theory_tree.specs.Order.Sorted.{rising_insert, rising_remove, insert_after, remove_after, look_skip, insert_skip, remove_skip, look_stay, insert_stay, remove_stay}
use Rattle.theory_tree.specs.Shape.Levels.{flat_append, NodeOk, ChainOk, chain_rising, chain_append, chain_cut, after_flat, from_of, chain_from_of}
use Rattle.theory_tree.specs.Change.Edit.{with_items}

-- Node p covers k: the nodes before it end at or before k, and it ends after.
pub record Covers (k : ℕ) (b : Bool) (from : ℕ) (xs : List Node) (p : Node) (ys : List Node) (to : ℕ) : Type 0 where
  pub start : ℕ
  pub before : ChainOk b from xs start
  pub node : NodeOk b start p
  pub beyond : ChainOk b (suc p.high) ys to
  pub above : start ≤ k
  pub within : k ≤ p.high

pub insert_leaf : (k v from : ℕ) (xs : List Node) (p p' : Node) (ys : List Node) (to : ℕ) → Covers k true from xs p ys to
    → p'.items ≡ insert_sorted k v p.items → flat (xs ++ p' ∷ ys) ≡ insert_sorted k v (flat (xs ++ p ∷ ys))
unfolding flat
insert_leaf k v from xs p p' ys to c e =
    let a = after_flat true from xs c.start c.before in
    let b = c.above in
    let w = c.within in
    rw (flat_append, flat_append, e)
    (sym (insert_skip k v from (flat xs) (p.items ++ flat ys) (chain_rising true from xs c.start c.before) (omega arith)
    ∙ ap (flat xs ++◌) (insert_stay k v (suc p.high) p.items (flat ys) (chain_rising true (suc p.high) ys to c.beyond) (omega arith))))

-- ---- the covering leaf of a level

pub covers_at : (b : Bool) (k : ℕ) (xs : List Node) (p : Node) (ys : List Node) → ChainOk b 0 (xs ++ p ∷ ys) (suc top) → from_of 0 xs ≤ k
    → k ≤ p.high → Covers k b 0 xs p ys (suc top)
unfolding ChainOk
covers_at b k xs p ys h l w =
    let c = chain_cut b 0 xs (p ∷ ys) (suc top) h in
    let e = chain_from_of b 0 xs c.mid c.left in
    record { start = c.mid; before = c.left; node = c.right.0; beyond = c.right.1; above = omega arith; within = w }

pub remove_leaf : (k from : ℕ) (xs : List Node) (p p' : Node) (ys : List Node) (to : ℕ) → Covers k true from xs p ys to
    → p'.items ≡ remove_key k p.items → flat (xs ++ p' ∷ ys) ≡ remove_key k (flat (xs ++ p ∷ ys))
unfolding flat
remove_leaf k from xs p p' ys to c e =
    let a = after_flat true from xs c.start c.before in
    let b = c.above in
    let w = c.within in
    rw (flat_append, flat_append, e)
    (sym (remove_skip k from (flat xs) (p.items ++ flat ys) (chain_rising true from xs c.start c.before) (omega arith)
    ∙ ap (flat xs ++◌) (remove_stay k (suc p.high) p.items (flat ys) (chain_rising true (suc p.high) ys to c.beyond) (omega arith))))

-- The record of k is in the leaf that covers k, or nowhere.
pub look_leaf : (k from : ℕ) (xs : List Node) (p : Node) (ys : List Node) (to : ℕ) → Covers k true from xs p ys to
    → look k (flat (xs ++ p ∷ ys)) ≡ look k p.items
unfolding flat
look_leaf k from xs p ys to c =
    let a = after_flat true from xs c.start c.before in
    let b = c.above in
    let w = c.within in
    rw flat_append
    (look_skip k from (flat xs) (p.items ++ flat ys) (chain_rising true from xs c.start c.before) (omega arith)
    ∙ look_stay k (suc p.high) p.items (flat ys) (chain_rising true (suc p.high) ys to c.beyond) (omega arith))

pub insert_chain : (k v : ℕ) (xs : List Node) (p : Node) (ys : List Node) → Covers k true 0 xs p ys (suc top) → look k p.items ≡ none
    → ChainOk true 0 (xs ++ with_items (insert_sorted k v p.items) p ∷ ys) (suc top)
unfolding ChainOk
insert_chain k v xs p ys c n =
    chain_append true 0 xs c.start (with_items (insert_sorted k v p.items) p ∷ ys) (suc top) c.before (
      record { covers = c.node.covers; rises = rising_insert k v c.start p.items c.above c.node.rises n; ends = insert_after k v c.start p.high p.items c.node.ends c.within },
      c.beyond,
    )

pub remove_chain : (k : ℕ) (xs : List Node) (p : Node) (ys : List Node) → Covers k true 0 xs p ys (suc top)
    → ChainOk true 0 (xs ++ with_items (remove_key k p.items) p ∷ ys) (suc top)
unfolding ChainOk
remove_chain k xs p ys c =
    let a = remove_after k c.start p.items c.node.rises in
    let b : after c.start p.items ≤ suc p.high = c.node.ends in
    chain_append true 0 xs c.start (with_items (remove_key k p.items) p ∷ ys) (suc top) c.before (
      record { covers = c.node.covers; rises = rising_remove k c.start p.items c.node.rises; ends = omega arith },
      c.beyond,
    )
