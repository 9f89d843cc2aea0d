-- Two neighbours under neighbouring entries of one node that may lose an entry; and the child with more than 4 entries that is reached.
use Rattle.std.specs.Prelude.{ℕ, suc, ◌≤◌, ◌≡◌, ◌⊎◌, List, [], ◌∷◌, ◌++◌, length}
use Rattle.std.proofs.Common.{arith}
use Rattle.std.proofs.Math.Dec.{eqb-suc-zero}
use Rattle.def_layout.specs.declared.Entry.{Entry}
use Rattle.def_layout.specs.Sizes.{room}
use Rattle.def_model.specs.TreeRules.{Node, flat, least, root_least}
use Rattle.theory_tree.specs.Shape.Levels.{Match, from_of}
use Rattle.theory_tree.specs.Shape.Chains.{All}
use Rattle.theory_tree.specs.Shape.Sizes.{SizedLevel, sized_less}
use Rattle.theory_update.specs.Find.Places.{Spot}

-- A node that may lose an entry.
pub data Loses (ups : List (List Node)) (xs : List Node) (n : Node) (ys : List Node) : Type 0 where
  plenty : 5 ≤ length n.items → Loses ups xs n ys
  top_alone : ups ≡ [] → xs ≡ [] → ys ≡ [] → 2 ≤ length n.items → Loses ups xs n ys

pub loses_more : (ups : List (List Node)) (xs : List Node) (n m : Node) (ys : List Node) → length n.items ≤ length m.items → Loses ups xs n ys
    → Loses ups xs m ys
loses_more ups xs n m ys l (plenty h) = plenty (omega arith)
loses_more ups xs n m ys l (top_alone a b c h) = top_alone a b c (omega arith)

pub sized_loses : (ups : List (List Node)) (d : ℕ) (xs : List Node) (n m : Node) (ys : List Node) → Loses ups xs n ys
    → suc (length m.items) ≡ length n.items → length n.items ≤ room
    → SizedLevel ups (suc d) (xs ++ n ∷ ys) → SizedLevel ups (suc d) (xs ++ m ∷ ys)
unfolding SizedLevel All root_least
sized_loses ups d xs n m ys (plenty h) e s f = sized_less ups (suc d) xs n m ys (omega arith) (omega arith) f
sized_loses ups d xs n m ys (top_alone a b c h) e s f = rw (a, b, c) ((omega arith, rw (eqb-suc-zero d) (omega arith)), tt)

-- Two neighbours under neighbouring entries of one node; one of them has 4 entries, and k is in one of them.
pub record Twins (k : ℕ) (ls ups : List (List Node)) (xs : List Node) (n : Node) (ys : List Node) (q r : Node) (l : ℕ) : Type 0 where
  pub bs : List Node
  pub cs : List Node
  pub downs : List (List Node)
  pub pre : List Entry
  pub e : Entry
  pub f : Entry
  pub post : List Entry
  pub whole : ls ≡ ups ++ (xs ++ n ∷ ys) ∷ (bs ++ q ∷ r ∷ cs) ∷ downs
  pub depth : length downs ≡ l
  pub items : n.items ≡ pre ++ e ∷ f ∷ post
  pub e_is : e.val ≡ q.page
  pub e_ends : q.high ≡ e.key
  pub f_is : f.val ≡ r.page
  pub f_ends : r.high ≡ f.key
  pub before : Match (flat xs ++ pre) bs
  pub beyond : Match (post ++ flat ys) cs
  pub low : from_of 0 bs ≤ k
  pub high : k ≤ f.key
  pub four : (length q.items ≡ least) ⊎ (length r.items ≡ least)

-- What is reached: a child with at least 5 entries.
abbrev pub Five : Node → Type 0
Five c = 5 ≤ length c.items

pub record StockedAt (k l parent : ℕ) (ls : List (List Node)) : Type 0 where
  pub ups : List (List Node)
  pub xs : List Node
  pub node : Node
  pub ys : List Node
  pub entry : Entry
  pub q : Node
  pub spot : Spot k ls ups xs node ys entry (q ∷ []) l
  pub is : entry.val ≡ q.page
  pub ends : q.high ≡ entry.key
  pub is_parent : parent ≡ node.page
  pub rich : Five q
