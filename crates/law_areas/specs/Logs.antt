-- An area that holds a log: its other slots are empty, and records that fit are read back.
use Rattle.std.specs.Prelude.{◌≡◌, ℕ, zero, suc, ◌+◌, ◌-◌, ◌*◌, ◌/◌, ◌<◌, ◌≤◌, take, replicate, get_or}
use Rattle.std.proofs.Math.Path.{refl, ap}
use Rattle.std.proofs.Common.{ap₂, sym, ◌∙◌, subst, subst₂, lit<}
use native.Mathlib.Omega.{arith}
use mathlib.Core.List.{List, [], ◌∷◌, ◌++◌, map, map-append}
use Rattle.std.proofs.Math.ListN.{length}
use Rattle.std.proofs.lemmas.List.{length-replicate, length-map}
use Rattle.def_layout.specs.Numbers.{zeros}
use Rattle.def_layout.specs.Records.{Rec}
use Rattle.def_layout.specs.RecordBytes.{Slot, empty, full, read_slot, slot_bytes}
use Rattle.def_layout.specs.Sizes.{slot_size}
use Rattle.def_model.specs.Log.{records_of, slots_from, log_area}
use Rattle.def_model.specs.OnBytes.{parts, joined, put_part, read_log, log_bytes}
use Rattle.law_bytes.specs.Pieces.{All}
use Rattle.law_bytes.specs.Same.{same_refl}
use Rattle.law_bytes.specs.RecordBytes.{Fits, record_bytes_length, read_slot_back, reads_empty}
use Rattle.law_areas.specs.Typed.{slots_length, log_back}
use Rattle.law_areas.specs.Parts.{Wide, joined_append, joined_length, joined_blank, parts_length}
use Rattle.law_areas.specs.Held.{Holds, holds_length, holds_fit, holds_filled, holds_read, put_next}

abbrev pub HoldsLog : List ℕ → List Rec → Type 0
HoldsLog area log = Holds area (log_bytes (slots_from 1 log))

-- Every record, from number n on, fits its slot.
unfoldable pub AllFit : ℕ → List Rec → Type 0
AllFit n [] = Unit {0}
AllFit n (r ∷ log) = Fits n r × AllFit (suc n) log

pub all_fit : (n : ℕ) (log : List Rec) (d : Rec) → ((i : ℕ) → i < length log → Fits (n + i) (get_or log i d)) → AllFit n log
unfolding AllFit
all_fit n [] d h = tt
all_fit n (r ∷ log) d h =
    let z : n + 0 ≡ n = omega arith in
    let later : (i : ℕ) → n + suc i ≡ suc n + i = λ i. omega arith in (
      subst (λ (k : ℕ). Fits k r) z (h 0 (omega arith)),
      all_fit (suc n) log d (λ i l. subst (λ (k : ℕ). Fits k (get_or log i d)) (later i) (h (suc i) (omega arith))),
    )

pub fit_append : (n : ℕ) (log more : List Rec) → AllFit n log → AllFit (n + length log) more → AllFit n (log ++ more)
unfolding AllFit
fit_append n [] more a b = let e : n + 0 ≡ n = omega arith in subst (λ (k : ℕ). AllFit k more) e b
fit_append n (r ∷ log) more a b =
    let e : n + suc (length log) ≡ suc n + length log = omega arith in
    (a.0, fit_append (suc n) log more a.1 (subst (λ (k : ℕ). AllFit k more) e b))

pub fit_take : (n j : ℕ) (log : List Rec) → AllFit n log → AllFit n (take j log)
unfolding AllFit
fit_take n zero log a = tt
fit_take n (suc j) [] a = tt
fit_take n (suc j) (r ∷ log) a = (a.0, fit_take (suc n) j log a.1)

-- ---- slots

pub slots_append : (n : ℕ) (log more : List Rec) → slots_from n (log ++ more) ≡ slots_from n log ++ slots_from (n + length log) more
unfolding slots_from
slots_append n [] more = let e : n ≡ n + 0 = omega arith in ap (λ (k : ℕ). slots_from k more) e
slots_append n (r ∷ log) more =
    let e : suc n + length log ≡ n + suc (length log) = omega arith in
    ap (λ (s : List Slot). full n r ∷ s) (slots_append (suc n) log more ∙ ap (λ (k : ℕ). slots_from (suc n) log ++ slots_from k more) e)

-- ---- in parts

abbrev slot_parts : ℕ → List Rec → List (List ℕ)
slot_parts n log = map slot_bytes (slots_from n log)

pub wide_slots : (n : ℕ) (log : List Rec) → Wide slot_size (map slot_bytes (slots_from n log))
unfolding All slot_bytes slots_from
wide_slots n [] = tt
wide_slots n (r ∷ log) = (record_bytes_length n r, wide_slots (suc n) log)

pub slots_bytes_length : (n : ℕ) (log : List Rec) → length (log_bytes (slots_from n log)) ≡ slot_size * length log
unfolding log_bytes
slots_bytes_length n log =
    joined_length slot_size (slot_parts n log) (wide_slots n log)
    ∙ ap (λ (k : ℕ). slot_size * k) (length-map (slots_from n log) slot_bytes ∙ slots_length n log)

pub log_bytes_append : (s t : List Slot) → log_bytes (s ++ t) ≡ log_bytes s ++ log_bytes t
unfolding log_bytes
log_bytes_append s t = ap joined (map-append slot_bytes s t) ∙ joined_append (map slot_bytes s) (map slot_bytes t)

pub read_log_length : (m : ℕ) (area : List ℕ) → length area ≡ slot_size * m → length (read_log area) ≡ m
unfolding read_log
read_log_length m area size =
    let n : ℕ = length area / slot_size in
    length-map (parts n slot_size area) read_slot ∙ parts_length n slot_size area ∙ omega arith

pub empty_bytes : (n : ℕ) → log_bytes (replicate n empty) ≡ zeros (slot_size * n)
unfolding log_bytes slot_bytes
empty_bytes n = joined_blank slot_size slot_bytes empty refl n

pub empty_read : read_slot (zeros slot_size) ≡ empty
empty_read = reads_empty (zeros slot_size) (same_refl (zeros slot_size))

slots_back : (n : ℕ) (log : List Rec) → AllFit n log → map read_slot (slot_parts n log) ≡ slots_from n log
unfolding AllFit slot_bytes slots_from
slots_back n [] fits = refl
slots_back n (r ∷ log) fits = ap₂ (λ (s : Slot) (t : List Slot). s ∷ t) (read_slot_back n r fits.0) (slots_back (suc n) log fits.1)

filled_slots : (m : ℕ) (log : List Rec) → slots_from 1 log ++ replicate (m - length (slots_from 1 log)) empty ≡ log_area m log
unfolding log_area
filled_slots m log = ap (λ (n : ℕ). slots_from 1 log ++ replicate (m - n) empty) (slots_length 1 log)

-- ---- a whole area, written and read

-- WRITING: the empty slots are zeros.
pub area_holds : (m : ℕ) (log : List Rec) → HoldsLog (log_bytes (log_area m log)) log
unfolding log_area
area_holds m log =
    record {
      spare = slot_size * (m - length log);
      is =
          log_bytes_append (slots_from 1 log) (replicate (m - length log) empty)
          ∙ ap (λ (r : List ℕ). log_bytes (slots_from 1 log) ++ r) (empty_bytes (m - length log));
    }

pub area_bytes_length : (m : ℕ) (log : List Rec) → length log ≤ m → length (log_bytes (log_area m log)) ≡ slot_size * m
unfolding area_holds
area_bytes_length m log h = omega (arith, holds_length (area_holds m log), slots_bytes_length 1 log)

module _ (m : ℕ) (log : List Rec) {area : List ℕ} (h : HoldsLog area log) (size : length area ≡ slot_size * m) where
  pub log_fits : length log ≤ m
  unfolding log_bytes slot_bytes
  log_fits = omega (arith, holds_fit slot_size m slot_bytes empty (slots_from 1 log) (lit< tt) refl (wide_slots 1 log) h size, slots_length 1 log)

  pub log_filled : area ≡ log_bytes (log_area m log)
  unfolding log_bytes slot_bytes
  log_filled =
      holds_filled slot_size m slot_bytes empty (slots_from 1 log) (lit< tt) refl (wide_slots 1 log) h size ∙ ap log_bytes (filled_slots m log)

  -- READING: records that fit are read back.
  pub log_read : AllFit 1 log → read_log area ≡ log_area m log
  unfolding log_bytes slot_bytes read_log
  log_read fits =
      let n : length area / slot_size ≡ m = omega arith in
      ap (λ (k : ℕ). map read_slot (parts k slot_size area)) n
      ∙ holds_read slot_size m slot_bytes empty (slots_from 1 log) (lit< tt) refl (wide_slots 1 log) h size read_slot (slots_back 1 log fits) empty_read
      ∙ filled_slots m log

  pub log_read_of : AllFit 1 log → records_of (read_log area) ≡ log
  log_read_of fits = ap records_of (log_read fits) ∙ log_back m log

-- An area of zeros holds no record, and shows empty slots.
pub no_records : (k : ℕ) → HoldsLog (zeros k) []
unfolding log_bytes joined slots_from
no_records k = record { spare = k; is = refl }

pub empty_log_read : (n : ℕ) → read_log (zeros (slot_size * n)) ≡ replicate n empty
unfolding AllFit log_area slots_from
empty_log_read n =
    let e : n - 0 ≡ n = omega arith in
    log_read n [] (no_records (slot_size * n)) (length-replicate (slot_size * n) 0) tt ∙ ap (λ (k : ℕ). replicate k empty) e

-- ---- records written next to those that stand there

pub log_put : (log more : List Rec) {area : List ℕ} → HoldsLog area log
    → HoldsLog (put_part (slot_size * length log) (log_bytes (slots_from (suc (length log)) more)) area) (log ++ more)
log_put log more {area} h =
    let v : List ℕ = log_bytes (slots_from (suc (length log)) more) in
    let e : 1 + length log ≡ suc (length log) = omega arith in
    subst₂ (λ (i : ℕ) (r : List ℕ). Holds (put_part i v area) r)
    (slots_bytes_length 1 log)
    (sym (log_bytes_append (slots_from 1 log) (slots_from (suc (length log)) more))
    ∙ ap log_bytes (ap (λ (k : ℕ). slots_from 1 log ++ slots_from k more) (sym e) ∙ sym (slots_append 1 log more)))
    (put_next v h)
