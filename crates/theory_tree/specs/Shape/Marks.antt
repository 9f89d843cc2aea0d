-- The map: pages counted by their marks, one marked, one unmarked, and the free page that is found.
use Rattle.std.specs.Prelude.{ℕ, zero, suc, ◌+◌, ◌≤◌, ◌<◌, ◌≡◌, refl, ◌≢◌, Bool, true, false, List, [], ◌∷◌, ◌++◌, length, get_or, take, set}
use Rattle.std.proofs.Common.{sym, ap, ◌∙◌, arith}
use Rattle.def_base.specs.Tests.{pick, Case, yes!, no!, case, clash}
use Rattle.def_model.specs.TreeRules.{Node, counted, ones}
use Rattle.def_model.specs.Update.{highest}

-- ---- a page marked, a page unmarked

pub ones_mark : (n b : ℕ) (m : List Bool) → b < n → b < length m → get_or m b true ≡ false → ones (take n (set m b true)) ≡ suc (ones (take n m))
unfolding ones
ones_mark n b [] h l f = absurd (omega arith)
ones_mark zero b (x ∷ m) h l f = absurd (omega arith)
ones_mark (suc n) zero (true ∷ m) h l f = clash f
ones_mark (suc n) zero (false ∷ m) h l f = refl
ones_mark (suc n) (suc b) (true ∷ m) h l f = ap suc (ones_mark n b m (omega arith) (omega arith) f)
ones_mark (suc n) (suc b) (false ∷ m) h l f = ones_mark n b m (omega arith) (omega arith) f

pub ones_unmark : (n b : ℕ) (m : List Bool) → b < n → b < length m → get_or m b false ≡ true → suc (ones (take n (set m b false))) ≡ ones (take n m)
unfolding ones
ones_unmark n b [] h l f = absurd (omega arith)
ones_unmark zero b (x ∷ m) h l f = absurd (omega arith)
ones_unmark (suc n) zero (true ∷ m) h l f = refl
ones_unmark (suc n) zero (false ∷ m) h l f = clash (sym f)
ones_unmark (suc n) (suc b) (true ∷ m) h l f = ap suc (ones_unmark n b m (omega arith) (omega arith) f)
ones_unmark (suc n) (suc b) (false ∷ m) h l f = ones_unmark n b m (omega arith) (omega arith) f

pub counted_more : (ups : List (List Node)) (old new : List Node) (downs : List (List Node)) → length new ≡ suc (length old)
    → counted (ups ++ new ∷ downs) ≡ suc (counted (ups ++ old ∷ downs))
unfolding counted
counted_more [] old new downs e = omega arith
counted_more (u ∷ ups) old new downs e = let i = counted_more ups old new downs e in omega arith

-- ---- the page that is found

-- What is asked of an allocation policy: the page that it gives, if any, is free and in the area; it gives none only where there is none.
pub record Gives (n : ℕ) (m : List Bool) (b : ℕ) : Type 0 where
  pub inside : b < n
  pub is_free : get_or m b true ≡ false

pub highest_gives : (n : ℕ) (m : List Bool) → 0 < highest n m → Gives n m (highest n m)
unfolding highest
highest_gives zero m h = absurd (omega arith)
highest_gives (suc n) m h = go (case (get_or m n true)) (highest_gives n m)
  where
    go : Case (get_or m n true) → (0 < highest n m → Gives n m (highest n m)) → Gives (suc n) m (pick (get_or m n true) (highest n m) n)
    go (no! e) i = rw e (record { inside = omega arith; is_free = e })
    go (yes! e) i =
        let h' : 0 < highest n m = rw e at h in
        let g = i h' in
        let l = g.inside in
        rw e (record { inside = omega arith; is_free = g.is_free })

pub ones_le : (k : ℕ) (m : List Bool) → ones (take k m) ≤ k
unfolding ones
ones_le zero [] = omega arith
ones_le zero (b ∷ m) = omega arith
ones_le (suc k) [] = omega arith
ones_le (suc k) (true ∷ m) = let i = ones_le k m in omega arith
ones_le (suc k) (false ∷ m) = let i = ones_le k m in omega arith

-- ---- what a bit says

-- A bit that is read as set, or as clear where outside is set, is inside.
pub mark_inside : (m : List Bool) (p : ℕ) → get_or m p false ≡ true → p < length m
mark_inside [] p e = clash (sym e)
mark_inside (x ∷ m) zero e = omega arith
mark_inside (x ∷ m) (suc p) e = let i = mark_inside m p e in omega arith

pub free_inside : (m : List Bool) (p : ℕ) → get_or m p true ≡ false → p < length m
free_inside [] p e = clash e
free_inside (x ∷ m) zero e = omega arith
free_inside (x ∷ m) (suc p) e = let i = free_inside m p e in omega arith

-- A page that is free is not one that is used.
pub free_unused : (m : List Bool) (b p : ℕ) → get_or m b true ≡ false → get_or m p false ≡ true → p ≢ b
free_unused [] b p f u e = clash f
free_unused (x ∷ m) zero zero f u e = clash (sym u ∙ f)
free_unused (x ∷ m) zero (suc p) f u e = absurd (omega arith)
free_unused (x ∷ m) (suc b) zero f u e = absurd (omega arith)
free_unused (x ∷ m) (suc b) (suc p) f u e = free_unused m b p f u (omega arith)

pub keeps_true : (m : List Bool) (b p : ℕ) → get_or m p false ≡ true → get_or (set m b true) p false ≡ true
keeps_true [] b p e = clash (sym e)
keeps_true (x ∷ m) zero zero e = refl
keeps_true (x ∷ m) zero (suc p) e = e
keeps_true (x ∷ m) (suc b) zero e = e
keeps_true (x ∷ m) (suc b) (suc p) e = keeps_true m b p e

ones_next : (n : ℕ) (m : List Bool) → n < length m → ones (take (suc n) m) ≡ ones (take n m) + pick (get_or m n true) 1 0
unfolding ones
ones_next n [] l = absurd (omega arith)
ones_next zero (true ∷ m) l = refl
ones_next zero (false ∷ m) l = refl
ones_next (suc n) (true ∷ m) l = let i = ones_next n m (omega arith) in omega arith
ones_next (suc n) (false ∷ m) l = ones_next n m (omega arith)

-- Where the policy finds no page, there is none.
pub all_used : (n : ℕ) (m : List Bool) → highest n m ≡ 0 → n ≤ length m → get_or m 0 false ≡ true → n ≤ ones (take n m)
unfolding highest
all_used zero m h l i = omega arith
all_used (suc n) m h l i = go (case (get_or m n true)) (all_used n m)
  where
    go : Case (get_or m n true) → (highest n m ≡ 0 → n ≤ length m → get_or m 0 false ≡ true → n ≤ ones (take n m)) → suc n ≤ ones (take (suc n) m)
    go (yes! c) f =
        let z : highest n m ≡ 0 = rw c at h in
        let a = f z (omega arith) i in
        let b : ones (take (suc n) m) ≡ ones (take n m) + 1 = ones_next n m (omega arith) ∙ rw c refl in
        omega arith
    go (no! c) f =
        let z : n ≡ 0 = rw c at h in
        absurd (free_unused m n 0 c i (sym z))
