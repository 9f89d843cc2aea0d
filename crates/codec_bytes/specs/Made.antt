-- An array whose elements a closure makes from their indices is the table of what the closure says.
use denote.Param.Members.{Mut, Called}
use Rattle.std.specs.Prelude.{◌≡◌, ℕ, zero, suc, ◌+◌, ◌<◌, ◌≤◌, List, get_or}
use Rattle.std.specs.Array.{IsFromFnResultFrom, IsFromFnResult}
use Rattle.std.proofs.Common.{ap, sym, ◌∙◌, subst, arith, zero-add}
use Rattle.std.proofs.Math.Decide.{dec_lt}
use Rattle.def_layout.specs.Numbers.{tab}
use Rattle.law_bytes.specs.Tables.{tab_is}

module _ {F B : Type 0} (g : Mut F (ℕ × Unit {0}) B) (f : F) (rule : ℕ → B) (n : ℕ) (d : B)
    (gives : (i : ℕ) (y : B) (q : F) → i < n → Called g f (i, tt) y q → (q ≡ f) × (y ≡ rule i)) where
  element : (ys : List B) (k i : ℕ) → i + k ≡ n → IsFromFnResultFrom g f ys i k → (j : ℕ) → i ≤ j → j < n → get_or ys j d ≡ rule j
  element ys zero i e h j a b = absurd (omega arith)
  element ys (suc k) i e h j a b =
      let s : (h.0 ≡ f) × (h.1 ≡ rule i) = gives i h.1 h.0 (omega arith) h.3 in
      elim (dec_lt i j) [
        | yes r ↦ element ys k (i + 1) (omega arith) (subst (λ (p : F). IsFromFnResultFrom g p ys (i + 1) k) s.0 h.4) j (omega arith) b
        | no r ↦ let m : j ≡ i = omega arith in ap (λ (k : ℕ). get_or ys k d) m ∙ h.2.1 d ∙ s.1 ∙ ap rule (sym m)
      ]

  pub made : (ys : List B) → IsFromFnResult g f ys n → ys ≡ tab n rule
  made ys h = sym (tab_is n rule ys d h.long (λ j q. sym (element ys n 0 (zero-add n) h.each j (omega arith) q)))
