-- The entries that a page's bytes show, and turns of the loop that looks for a key among them, from the last on.
use Rattle.std.specs.Prelude.{◌≡◌, refl, ℕ, suc, ◌+◌, ◌*◌, ◌<◌, ◌≤◌, Bool, true, false, ◌&&◌, drop, eqb, ltb}
use Rattle.std.proofs.Math.Path.{ap, ap₂}
use Rattle.std.proofs.Common.{sym, ◌∙◌, arith}
use Rattle.std.proofs.Math.Bool.{not}
use mathlib.Core.List.{List}
use Rattle.def_base.specs.Tests.{pick, lt_true, lt_false}
use Rattle.def_layout.specs.declared.Entry.{Entry}
use Rattle.def_layout.specs.Entries.{entry_at, key_at, no_entry, place}
use Rattle.def_layout.specs.Numbers.{be32, tab, read_entry}
use Rattle.def_layout.specs.Sizes.{room}
use Rattle.def_model.specs.Fit.{nowhere}
use Rattle.law_bytes.specs.Tables.{getD_tab, tab_same}
use Rattle.law_bytes.specs.EntryBytes.{used}
use Rattle.codec_entries.specs.Turns.{used_cons, used_rest_none}

-- ---- the entries that bytes show

abbrev pub shown : List ℕ → List Entry
shown b = tab room (read_entry b 16)

pub key_shown : (b : List ℕ) (i : ℕ) → i < room → key_at (shown b) i ≡ be32 b (16 + 8 * i)
unfolding read_entry
key_shown b i h = ap (λ (e : Entry). e.key) (getD_tab room i (read_entry b 16) no_entry h)

pub val_shown : (b : List ℕ) (i : ℕ) → i < room → (entry_at (shown b) i).val ≡ be32 b (16 + 8 * i + 4)
unfolding read_entry
val_shown b i h = ap (λ (e : Entry). e.val) (getD_tab room i (read_entry b 16) no_entry h)

pub used_shown : (b : List ℕ) (n : ℕ) → n ≤ room → used n (shown b) ≡ tab n (read_entry b 16)
used_shown b n h = tab_same n (entry_at (shown b)) (read_entry b 16) (λ i q. getD_tab room i (read_entry b 16) no_entry (omega arith))

-- ---- one entry more, before those that were looked at

pick_sum : (t : Bool) (p j r : ℕ) → p ≡ j + 1 + r → pick t p j ≡ j + pick t (suc r) 0
pick_sum true p j r e = omega arith
pick_sum false p j r e = omega arith

pub pick_within : (t : Bool) (p j n q : ℕ) → p ≤ n → j ≤ n → q ≡ pick t p j → q ≤ n
pick_within true p j n q h g e = omega arith
pick_within false p j n q h g e = omega arith

-- Where the key of entry j is below k, the place that was found stays, else it is j.
pub pick_here : (x k p j q : ℕ) → q ≡ j → k ≤ x → q ≡ pick (ltb x k) p j
pick_here x k p j q e h = e ∙ sym (ap (λ (t : Bool). pick t p j) (lt_false x k h))

pub pick_kept : (x k p j q : ℕ) → q ≡ p → x < k → q ≡ pick (ltb x k) p j
pick_kept x k p j q e h = e ∙ sym (ap (λ (t : Bool). pick t p j) (lt_true x k h))

other_way : (s t : Bool) → s && t ≡ t && s
other_way true true = refl
other_way true false = refl
other_way false true = refl
other_way false false = refl

module _ (b : List ℕ) (n k i j x : ℕ) (z : i ≡ j + 1) (h : j < n) (few : n ≤ room) (e : x ≡ be32 b (16 + 8 * j)) where
  abbrev rest : ℕ → List Entry
  rest m = drop m (used n (shown b))

  key_is : x ≡ key_at (shown b) j
  key_is = e ∙ sym (key_shown b j (omega arith))

  pub place_turn : (p q : ℕ) → p ≡ i + place k (rest i) → q ≡ pick (ltb x k) p j → q ≡ j + place k (rest j)
  unfolding place
  place_turn p q f g =
      g
      ∙ pick_sum (ltb x k) p j (place k (rest (j + 1))) (f ∙ ap (λ (m : ℕ). m + place k (rest m)) z)
      ∙ ap (λ (y : ℕ). j + pick (ltb y k) (suc (place k (rest (j + 1)))) 0) key_is
      ∙ ap (λ (es : List Entry). j + place k es) (sym (used_cons (shown b) n j h))

  pub nowhere_turn : (s t : Bool) → s ≡ nowhere k (rest i) → t ≡ (s && not (eqb x k)) → t ≡ nowhere k (rest j)
  unfolding nowhere
  nowhere_turn s t f g =
      g
      ∙ other_way s (not (eqb x k))
      ∙ ap₂ (λ (y : ℕ) (m : Bool). not (eqb y k) && m) key_is (f ∙ ap (λ (m : ℕ). nowhere k (rest m)) z)
      ∙ ap (λ (es : List Entry). nowhere k es) (sym (used_cons (shown b) n j h))

-- None was looked at.
pub place_start : (b : List ℕ) (n k : ℕ) → n ≡ n + place k (drop n (used n (shown b)))
unfolding place
place_start b n k = rw (used_rest_none (shown b) n n (omega arith)) (omega arith)

pub nowhere_start : (b : List ℕ) (n k : ℕ) → true ≡ nowhere k (drop n (used n (shown b)))
unfolding nowhere
nowhere_start b n k = rw (used_rest_none (shown b) n n (omega arith))

-- All were.
pub place_end : (b : List ℕ) (n k i p : ℕ) → i ≡ 0 → p ≡ i + place k (drop i (used n (shown b))) → p ≡ place k (used n (shown b))
place_end b n k i p z f =
    let w : 0 + place k (used n (shown b)) ≡ place k (used n (shown b)) = omega arith in
    f ∙ ap (λ (m : ℕ). m + place k (drop m (used n (shown b)))) z ∙ w

pub nowhere_end : (b : List ℕ) (n k i : ℕ) (s : Bool) → i ≡ 0 → s ≡ nowhere k (drop i (used n (shown b))) → s ≡ nowhere k (used n (shown b))
nowhere_end b n k i s z f = f ∙ ap (λ (m : ℕ). nowhere k (drop m (used n (shown b)))) z
