-- From an entry down to the last record below it, a height at a turn.
use Prim.Native.Nat.{ℕ, zero, suc, ◌-◌, ◌≤◌, ◌<◌}
use Rattle.std.specs.Prelude.{◌≡◌, refl, ◌≢◌}
use Rattle.std.proofs.Math.Path.{sym, ap}
use Rattle.std.proofs.Common.{◌∙◌}
use native.Mathlib.Omega.{arith}
use Rattle.def_model.specs.Loading.{group_count}
use Rattle.theory_load.specs.Places.{group_end, end_fits}
use Rattle.theory_load.specs.Rungs.{count_up, under, under_down, under_ends}

pub count_few : (h n : ℕ) → count_up h n ≤ n
unfolding count_up
count_few zero n = omega arith
count_few (suc h) n = let a = count_few h n in omega arith

-- The height below has so many entries.
module _ (n h j count : ℕ) (pos : 0 < h) (inside : j < count_up h n) (e : count ≡ count_up (h - 1) n) where
  up : (k : ℕ) → k ≡ h → count_up k n ≡ count_up h n
  up k q = ap (λ x. count_up x n) q

  pub group_inside : j < group_count count
  unfolding count_up
  group_inside = go h pos inside e
    where
      go : (h : ℕ) → 0 < h → j < count_up h n → count ≡ count_up (h - 1) n → j < group_count count
      go zero p l e = absurd (omega arith)
      go (suc h) p l e = let q : suc h - 1 ≡ h = omega arith in let e' : count ≡ count_up h n = e ∙ ap (λ x. count_up x n) q in rw e' l

  pub group_some : 0 < group_end count j
  group_some = let (a, b, c) = end_fits count j group_inside in omega arith

  pub down_ends : suc j ≡ group_count count → n ≡ under n h j
  unfolding count_up
  down_ends = go h pos e
    where
      go : (h : ℕ) → 0 < h → count ≡ count_up (h - 1) n → suc j ≡ group_count count → n ≡ under n h j
      go zero p e s = absurd (omega arith)
      go (suc h) p e s = let q : suc h - 1 ≡ h = omega arith in sym (under_ends n h j (s ∙ ap group_count (e ∙ ap (λ x. count_up x n) q)))

  pub down : suc j ≢ group_count count → (group_end count j - 1 < count_up (h - 1) n) × (under n h j ≡ under n (h - 1) (group_end count j - 1))
  unfolding count_up
  down = go h pos inside e
    where
      go : (h : ℕ) → 0 < h → j < count_up h n → count ≡ count_up (h - 1) n → suc j ≢ group_count count → (group_end count j - 1 < count_up (h - 1) n) × (under n h j ≡ under n (h - 1) (group_end count j - 1))
      go zero p l e s = absurd (omega arith)
      go (suc h) p l e s =
          let q : suc h - 1 ≡ h = omega arith in
          let e' : count ≡ count_up h n = e ∙ ap (λ x. count_up x n) q in
          rw (q, e') (under_down n h j l (λ x. s (x ∙ ap group_count (sym e'))))

pub under_none : (n h j : ℕ) → h ≡ 0 → under n h j ≡ j
unfolding under
under_none n h j e = rw e refl
