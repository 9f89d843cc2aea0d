-- The pages of a tree, counted level by level from the leaves up.
use Rattle.std.specs.Prelude.{ℕ, zero, suc, ◌+◌, ◌≤◌, ◌<◌, ◌≡◌, refl, false, leb}
use Rattle.std.proofs.Common.{sym, ap, arith}
use Rattle.std.proofs.Math.Decide.{dec_lt}
use Rattle.def_base.specs.Tests.{pick, Case, yes!, no!, case, false_le, le_true, le_false}
use Rattle.def_layout.specs.Sizes.{room}
use Rattle.def_model.specs.Loading.{group_count, tree_count}
use Rattle.theory_load.specs.Rungs.{tree_some}

-- So many pages counted, and a level of so many entries to be counted.
pub record Counts (n left pages : ℕ) : Type 0 where
  pub turns : ℕ
  pub enough : left ≤ turns
  pub sum : pages + tree_count turns left ≡ 1 + tree_count n n

pub counts_start : (n : ℕ) → Counts n n 1
counts_start n = record { turns = n; enough = omega arith; sum = refl }

pub counts_more : (n left pages : ℕ) → room < left → Counts n left pages → Counts n (group_count left) (pages + group_count left)
unfolding tree_count
counts_more n left pages h c = go c.turns c.enough c.sum
  where
    level : (f : ℕ) → tree_count (suc f) left ≡ tree_count f (group_count left) + group_count left
    level f = ap (λ b. pick b 1 (tree_count f (group_count left) + group_count left)) (le_false left room h)

    go : (f : ℕ) → left ≤ f → pages + tree_count f left ≡ 1 + tree_count n n → Counts n (group_count left) (pages + group_count left)
    go zero e s = absurd (omega arith)
    go (suc f) e s = record { turns = f; enough = omega arith; sum = let l = level f in omega arith }

pub counts_end : (n left pages : ℕ) → left ≤ room → Counts n left pages → pages ≡ tree_count n n
unfolding tree_count
counts_end n left pages h c = go c.turns c.sum
  where
    one : (f : ℕ) → tree_count f left ≡ 1
    one zero = refl
    one (suc f) = ap (λ b. pick b 1 (tree_count f (group_count left) + group_count left)) (le_true left room h)

    go : (f : ℕ) → pages + tree_count f left ≡ 1 + tree_count n n → pages ≡ tree_count n n
    go f s = let o = one f in omega arith

-- A page for each record, and one, are enough.
pub count_most : (f n : ℕ) → tree_count f n ≤ suc n
unfolding tree_count
count_most zero n = omega arith
count_most (suc f) n = go (case (leb n room)) (count_most f (group_count n))
  where
    go : Case (leb n room) → tree_count f (group_count n) ≤ suc (group_count n) → pick (leb n room) 1 (tree_count f (group_count n) + group_count n) ≤ suc n
    go (yes! t) i = rw t (omega arith)
    go (no! t) i = let a = false_le n room t in rw t (omega arith)

-- There is a page for ten entries.
pub count_tenth : (n : ℕ) → 14 < n → group_count n < tree_count n n
unfolding tree_count
count_tenth zero h = absurd (omega arith)
count_tenth (suc n) h = let t = tree_some n (group_count (suc n)) in rw (le_false (suc n) room h) (omega arith)

-- So those that fit a register are not too many to count.
pub count_least : (n : ℕ) → tree_count n n < 897 → n ≤ 65536
count_least n h = go (dec_lt 14 n)
  where
    go : Dec (14 < n) → n ≤ 65536
    go (yes m) = let t = count_tenth n m in omega arith
    go (no m) = omega arith

pub too_many : (n pages : ℕ) → 8960 < n → pages ≤ 896 → false ≡ leb (suc (tree_count n n)) pages
too_many n pages h m = let t = count_tenth n (omega arith) in sym (le_false (suc (tree_count n n)) pages (omega arith))
