-- Text that is put into bytes, after those that stand there.
use Rattle.std.specs.Prelude.{◌≡◌, refl, ◌≢◌, ℕ, ◌+◌, ◌≤◌, ◌<◌, List, [], ◌∷◌, ◌++◌, length, take, drop, set}
use Rattle.std.proofs.Common.{ap, ap₂, sym, subst, ◌∙◌, add-one, arith, append_assoc, length-append, take-suc-set, take_all, length-take-le}
use Rattle.std.proofs.Math.Seq.{take-append_seam}
use Rattle.io.specs.Digits.{last_digits, IsDigitCount}
use Rattle.def_base.specs.Tests.{eq_true, neq_false}
use Rattle.def_model.specs.declared.Refusal.{Refusal}
use Rattle.def_model.specs.declared.Answer.{Answer}
use Rattle.def_model.specs.declared.Answer.TheVariants.{Done, Number, Pair, Refused}
use Rattle.def_model.specs.Answers.{answer_numbers}
use Rattle.law_bytes.specs.Words.{part}
use Rattle.law_bytes.specs.Patch.{patch}
use Rattle.face_command.specs.declared.Command.{Command}
use Rattle.face_text.specs.Decimal.{decimal, decimal_is}
use Rattle.face_text.specs.Texts.{letter, number_text, answer_text, line_text}

-- The first m bytes of a are the first n of b, and after them the text.
abbrev pub Puts : List ℕ → ℕ → List ℕ → ℕ → List ℕ → Type 0
Puts b n a m text = take m a ≡ take n b ++ text

-- ---- for the code: one text after another

pub puts_then : (b : List ℕ) (n : ℕ) (a : List ℕ) (m : ℕ) (c : List ℕ) (k : ℕ) (s t u : List ℕ) → Puts b n a m s → Puts a m c k t → s ++ t ≡ u → Puts b n c k u
puts_then b n a m c k s t u p q e = q ∙ ap (λ (x : List ℕ). x ++ t) p ∙ append_assoc (take n b) s t ∙ ap (λ (x : List ℕ). take n b ++ x) e

pub puts_byte : (b : List ℕ) (n x : ℕ) → n < length b → Puts b n (set b n x) (n + 1) (x ∷ [])
puts_byte b n x h = ap (λ (k : ℕ). take k (set b n x)) (add-one n) ∙ take-suc-set b n x h

puts_patch : (a s : List ℕ) (m k : ℕ) → m + k ≤ length a → k ≡ length s → Puts a m (patch a m s) (m + k) s
unfolding patch
puts_patch a s m k h e =
    let l : length (take m a ++ s) ≡ m + k = length-append (take m a) s ∙ ap₂ ◌+◌ (length-take-le m a (omega (arith, h))) (sym e) in
    ap (λ (i : ℕ). take i (patch a m s)) (sym l) ∙ take-append_seam (take m a ++ s) (drop (m + length s) a)

-- A space, and the digits that were found.
pub puts_number : (b : List ℕ) (n : ℕ) (a : List ℕ) (m : ℕ) (c s : List ℕ) (k x : ℕ) → Puts b n a m (32 ∷ []) → c ≡ patch a m (part s 0 k) → m + k ≤ length a → k ≡ length s → IsDigitCount 10 1 x k → s ≡ last_digits 10 k x
    → Puts b n c (m + k) (number_text x)
unfolding number_text
puts_number b n a m c s k x p q h e w d =
    let f : c ≡ patch a m s = q ∙ ap (λ (y : List ℕ). patch a m y) (take_all k s (omega (arith, e))) in
    puts_then b n a m c (m + k) (32 ∷ []) s (number_text x) p (ap (λ (y : List ℕ). take (m + k) y) f ∙ puts_patch a s m k h e) (ap (λ (y : List ℕ). 32 ∷ y) (d ∙ decimal_is x k w))

-- ---- an answer, by its variants

module _ (b : List ℕ) (n : ℕ) (o : List ℕ) (m : ℕ) (a : Answer) (x : ℕ) (reason : x ≡ (answer_numbers a).reason) (p : Puts b n o m (number_text x)) where
  abbrev Said : Answer → List ℕ → Type 0
  Said y s = number_text (answer_numbers y).reason ++ s ≡ answer_text y

  only_reason : number_text (answer_numbers a).reason ≡ answer_text a → Puts b n o m (answer_text a)
  only_reason e = p ∙ ap (λ (t : List ℕ). take n b ++ t) (ap number_text reason ∙ e)

  pub puts_done : a ≡ Done → Puts b n o m (answer_text a)
  unfolding answer_numbers answer_text
  puts_done e = only_reason (subst (λ (y : Answer). number_text (answer_numbers y).reason ≡ answer_text y) (sym e) refl)

  pub puts_refused : {r : Refusal} → a ≡ Refused r → Puts b n o m (answer_text a)
  unfolding answer_numbers answer_text
  puts_refused e = only_reason (subst (λ (y : Answer). number_text (answer_numbers y).reason ≡ answer_text y) (sym e) refl)

  values : (c : List ℕ) (k : ℕ) (s : List ℕ) → Puts o m c k s → Said a s → Puts b n c k (answer_text a)
  values c k s q e = puts_then b n o m c k (number_text x) s (answer_text a) p q (ap (λ (i : ℕ). number_text i ++ s) reason ∙ e)

  pub puts_value : {v : ℕ} (c : List ℕ) (k : ℕ) → a ≡ Number v → Puts o m c k (number_text v) → Puts b n c k (answer_text a)
  unfolding answer_numbers answer_text
  puts_value {v} c k e q = values c k (number_text v) q (subst (λ (y : Answer). Said y (number_text v)) (sym e) refl)

  pub puts_pair : {v w : ℕ} (c : List ℕ) (k : ℕ) (d : List ℕ) (j : ℕ) → a ≡ Pair v w → Puts o m c k (number_text v) → Puts c k d j (number_text w) → Puts b n d j (answer_text a)
  unfolding answer_numbers answer_text
  puts_pair {v} {w} c k d j e q r =
      values d j (number_text v ++ number_text w) (puts_then o m c k d j (number_text v) (number_text w) (number_text v ++ number_text w) q r refl)
      (subst (λ (y : Answer). Said y (number_text v ++ number_text w)) (sym e) refl)

-- ---- a line, by its letter

module _ (b : List ℕ) (n : ℕ) (o : List ℕ) (m : ℕ) (c : Command) (a : Answer) (x : ℕ) (known : x ≡ letter c) (p : Puts b n o m (x ∷ [])) where
  pub puts_other : (d : List ℕ) (k : ℕ) → x ≡ 63 → Puts o m d k (10 ∷ []) → Puts b n d k (line_text c a)
  unfolding line_text
  puts_other d k e q = puts_then b n o m d k (x ∷ []) (10 ∷ []) (line_text c a) p q (rw (line_text, ← known, eq_true x 63 e))

  pub puts_known : (d : List ℕ) (k : ℕ) (f : List ℕ) (j : ℕ) → x ≢ 63 → Puts o m d k (answer_text a) → Puts d k f j (10 ∷ []) → Puts b n f j (line_text c a)
  unfolding line_text
  puts_known d k f j e q r =
      puts_then b n o m f j (x ∷ []) (answer_text a ++ (10 ∷ [])) (line_text c a) p
      (puts_then o m d k f j (answer_text a) (10 ∷ []) (answer_text a ++ (10 ∷ [])) q r refl) (rw (line_text, ← known, neq_false e))
