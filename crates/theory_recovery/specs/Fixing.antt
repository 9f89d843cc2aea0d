-- Slides that stay at every first part of what follows a log.
use Rattle.std.specs.Prelude.{ℕ, ◌≡◌, refl, Bool, true, false, ◌||◌, List, [], ◌∷◌, ◌++◌}
use Rattle.std.proofs.Common.{sym, ap, ◌∙◌, append_assoc, append-nil, arith}
use Rattle.def_base.specs.Tests.{any}
use Rattle.def_layout.specs.Records.{Rec}
use Rattle.theory_history.specs.Origin.{Origin}
use Rattle.theory_history.specs.Start.{slides_after}
use Rattle.theory_calls.specs.Passing.{Fixed}

-- A first part of two lists in a row ends in the first of them or in the second.
pub data Seam (x y a b : List Rec) : Type 0 where
  early : (c : List Rec) → x ≡ a ++ c → Seam x y a b
  late : (c : List Rec) → a ≡ x ++ c → y ≡ c ++ b → Seam x y a b

pub seam : (x y a b : List Rec) → x ++ y ≡ a ++ b → Seam x y a b
seam [] y a b e = late a refl e
seam (r ∷ x) y [] b e = early (r ∷ x) refl
seam (r ∷ x) y (q ∷ a) b e =
    let h : r ≡ q = cc in
    let t : x ++ y ≡ a ++ b = cc in
    go h (seam x y a b t)
  where
    go : r ≡ q → Seam x y a b → Seam (r ∷ x) y (q ∷ a) b
    go h (early c f) = early c (λ i. h i ∷ f i)
    go h (late c f g) = late c (λ i. sym h i ∷ f i) g

module _ (o : Origin) (log : List Rec) where
  pub fixed_none : Fixed o log []
  fixed_none [] b e = ap (slides_after o) (append-nil log)
  fixed_none (x ∷ a) b e = let w : ◌≡◌ {A = ℕ} 0 1 = cc in absurd (omega arith)

  pub fixed_all : (rest : List Rec) → Fixed o log rest → slides_after o (log ++ rest) ≡ slides_after o log
  fixed_all rest f = f rest [] (sym (append-nil rest))

  pub fixed_append : (rest more : List Rec) → Fixed o log rest → Fixed o (log ++ rest) more → Fixed o log (rest ++ more)
  fixed_append rest more f g a b e = go (seam rest more a b e)
    where
      go : Seam rest more a b → slides_after o (log ++ a) ≡ slides_after o log
      go (early c h) = f a c h
      go (late c h k) = ap (λ q. slides_after o (log ++ q)) h ∙ ap (slides_after o) (sym (append_assoc log rest c)) ∙ g c b k ∙ fixed_all rest f

  -- What was fixed stays so after a first part.
  pub fixed_tail : (rest part tail : List Rec) → rest ≡ part ++ tail → Fixed o log rest → Fixed o (log ++ part) tail
  fixed_tail rest part tail w f a b e =
      ap (slides_after o) (append_assoc log part a)
      ∙ f (part ++ a) b (w ∙ ap (part ++◌) e ∙ sym (append_assoc part a b))
      ∙ sym (f part tail w)

-- ---- records that stand in a log

pub any_first : (f : Rec → Bool) (a b : List Rec) → any f a ≡ true → any f (a ++ b) ≡ true
unfolding any
any_first f [] b e = absurd (not_true e)
  where
    not_true : false ≡ true → ⊥
    not_true e = let w : ◌≡◌ {A = ℕ} 0 1 = cc in omega arith
any_first f (x ∷ a) b e = go (f x) (any_first f a b) e
  where
    go : (t : Bool) → (any f a ≡ true → any f (a ++ b) ≡ true) → t || any f a ≡ true → t || any f (a ++ b) ≡ true
    go true i e = refl
    go false i e = i e

pub any_last : (f : Rec → Bool) (a : List Rec) (r : Rec) → f r ≡ true → any f (a ++ r ∷ []) ≡ true
unfolding any
any_last f [] r e = rw e
any_last f (x ∷ a) r e = go (f x) (any_last f a r e)
  where
    go : (t : Bool) → any f (a ++ r ∷ []) ≡ true → t || any f (a ++ r ∷ []) ≡ true
    go true i = refl
    go false i = i
