-- A log that has grown: what stood in it still stands, and is read back from the area. Undoing a line lets it grow.
use Rattle.std.specs.Prelude.{ℕ, zero, suc, ◌+◌, ◌*◌, ◌≤◌, ◌≡◌, refl, Bool, length, take, drop, ltb}
use Rattle.std.proofs.Common.{sym, ap₂, ◌∙◌, arith, length-append}
use Rattle.std.proofs.Math.Path.{ap}
use Rattle.std.proofs.Math.Bool.{true, false}
use mathlib.Core.List.{List, [], ◌∷◌, ◌++◌, append_assoc, append-nil}
use Rattle.std.proofs.Math.Seq.{take-append_seam, drop-append_seam}
use Rattle.def_layout.specs.Numbers.{zeros}
use Rattle.def_layout.specs.Records.{Rec}
use Rattle.def_layout.specs.RecordBytes.{Slot, full, record_bytes, slot_bytes, read_slot}
use Rattle.def_layout.specs.Sizes.{slot_size}
use Rattle.def_model.specs.Log.{slots_from}
use Rattle.def_model.specs.OnBytes.{joined, log_bytes}
use Rattle.def_model.specs.Update.{Run, going, logged, emit_by, emit, put_record, remove_record}
use Rattle.def_model.specs.Batches.{Line}
use Rattle.def_model.specs.Undo.{undo_by, undo_line}
use Rattle.law_bytes.specs.Pieces.{read_all}
use Rattle.law_bytes.specs.LogAreas.{slots_of}
use Rattle.law_bytes.specs.RecordBytes.{record_bytes_length, read_slot_back}
use Rattle.law_areas.specs.Logs.{HoldsLog, AllFit, log_bytes_append, slots_append, log_fits}
use Rattle.theory_update.specs.Run.Keeps.{keep_find_add, keep_find_remove}
use Rattle.log_pending.specs.Reading.{Reads}

pub record Grown (l log : List Rec) : Type 0 where
  pub more : List Rec
  pub is : log ≡ l ++ more

pub grown_none : (l : List Rec) → Grown l l
grown_none l = record { more = []; is = sym (append-nil l) }

-- ---- by a record, and by a line that is undone

module _ (l : List Rec) where
  grown_by : (a b : Bool) (r : Rec) (s : Run) → Grown l s.log → Grown l (emit_by a b r s).log
  unfolding emit_by logged
  grown_by true true r s g = record { more = g.more ++ r ∷ []; is = ap (λ (x : List Rec). x ++ r ∷ []) g.is ∙ append_assoc l g.more (r ∷ []) }
  grown_by true false r s g = g
  grown_by false b r s g = g

  pub grown_emit : (r : Rec) (s : Run) → Grown l s.log → Grown l (emit r s).log
  unfolding emit
  grown_emit r s g = grown_by (going s) (ltb 0 s.room) r s g

  abbrev Grows : Run → Type 0
  Grows s = Grown l s.log

  grown_undo : (a : Bool) (n next : ℕ) (x : Line) (s : Run) → Grown l s.log → Grown l (undo_by a n next x s).log
  unfolding undo_by put_record remove_record
  grown_undo true n next x s g = grown_emit _ _ (keep_find_remove Grows (λ r q. grown_emit r) (λ t z j. j) _ x.key s g)
  grown_undo false n next x s g = grown_emit _ _ (keep_find_add Grows (λ r q. grown_emit r) (λ t z j. j) x.key s g)

  pub grown_line : (n next : ℕ) (x : Line) (s : Run) → Grown l s.log → Grown l (undo_line n next x s).log
  unfolding undo_line
  grown_line n next x s g = grown_undo x.adds n next x s g

-- ---- read back

-- A record that fits, with anything behind it.
slot_first : (n k j : ℕ) (r : Rec) (rest : List ℕ) → read_slot (record_bytes n r) ≡ full n r
    → take (suc j) (read_all slot_size read_slot (suc k) (record_bytes n r ++ rest)) ≡ full n r ∷ take j (read_all slot_size read_slot k rest)
unfolding read_all
slot_first n k j r rest f =
    let size : length (record_bytes n r) ≡ slot_size = record_bytes_length n r in
    let a : take slot_size (record_bytes n r ++ rest) ≡ record_bytes n r = ap (λ (i : ℕ). take i (record_bytes n r ++ rest)) (sym size) ∙ take-append_seam (record_bytes n r) rest in
    let b : drop slot_size (record_bytes n r ++ rest) ≡ rest = ap (λ (i : ℕ). drop i (record_bytes n r ++ rest)) (sym size) ∙ drop-append_seam (record_bytes n r) rest in
    ap₂ (λ (x : Slot) (y : List Slot). x ∷ y) (ap read_slot a ∙ f) (ap (λ (x : List ℕ). take j (read_all slot_size read_slot k x)) b)

-- The records from number n on, with anything behind them.
reads_front : (n k : ℕ) (l : List Rec) (rest : List ℕ) → AllFit n l → length l ≤ k
    → take (length l) (read_all slot_size read_slot k (log_bytes (slots_from n l) ++ rest)) ≡ slots_from n l
unfolding AllFit slots_from log_bytes joined slot_bytes
reads_front n k [] rest f h = refl
reads_front n zero (r ∷ l) rest f h = absurd (omega arith)
reads_front n (suc k) (r ∷ l) rest f h =
    ap (λ (x : List ℕ). take (suc (length l)) (read_all slot_size read_slot (suc k) x)) (append_assoc (record_bytes n r) (log_bytes (slots_from (suc n) l)) rest)
    ∙ slot_first n k (length l) r (log_bytes (slots_from (suc n) l) ++ rest) (read_slot_back n r f.0)
    ∙ ap (λ (x : List Slot). full n r ∷ x) (reads_front (suc n) k l rest f.1 (omega arith))

-- READ BACK: an area that holds the log as it has grown shows what stood in it.
pub reads_grown : (m : ℕ) (wl : List ℕ) (l log : List Rec) → HoldsLog wl log → length wl ≡ slot_size * m → AllFit 1 l → Grown l log → Reads m wl l
reads_grown m wl l log h size f g =
    let later : List ℕ = log_bytes (slots_from (1 + length l) g.more) ++ zeros h.spare in
    let e : wl ≡ log_bytes (slots_from 1 l) ++ later =
    h.is
    ∙ ap (λ (x : List Rec). log_bytes (slots_from 1 x) ++ zeros h.spare) g.is
    ∙ ap (λ (x : List Slot). log_bytes x ++ zeros h.spare) (slots_append 1 l g.more)
    ∙ ap (λ (x : List ℕ). x ++ zeros h.spare) (log_bytes_append (slots_from 1 l) (slots_from (1 + length l) g.more))
    ∙ append_assoc (log_bytes (slots_from 1 l)) (log_bytes (slots_from (1 + length l) g.more)) (zeros h.spare) in
    let few : length l ≤ m = omega (arith, log_fits m log h size, ap (λ (x : List Rec). length x) g.is, length-append l g.more) in
    ap (λ (x : List ℕ). take (length l) (slots_of m x)) e ∙ reads_front 1 m l later f few
