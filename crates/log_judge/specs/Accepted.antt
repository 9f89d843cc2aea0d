-- What is known of a log that was judged right: its records stand in the area, its open batches hold, and the desk's rows count their lines.
use Rattle.std.specs.Prelude.{ℕ, zero, suc, ◌+◌, ◌-◌, ◌≤◌, ◌<◌, ◌≡◌, refl, true, ◌&&◌, List, [], ◌∷◌, ◌++◌, map, length, take, drop, replicate, eqb}
use Rattle.std.proofs.Common.{sym, ap, ap₂, ◌∙◌, arith, add-one, drop_of_length-le, drop-cons}
use Rattle.std.proofs.lemmas.List.{length-map}
use Rattle.def_base.specs.Tests.{clash, and_true, true_eq}
use Rattle.def_layout.specs.declared.Row.{Row}
use Rattle.def_layout.specs.Desks.{no_row, row_at, eight_rows}
use Rattle.def_layout.specs.Records.{Rec}
use Rattle.def_layout.specs.RecordBytes.{Slot, empty, full, other}
use Rattle.def_layout.specs.Rows.{row, names_pages}
use Rattle.def_model.specs.Log.{slots_ok, records_of, slots_from}
use Rattle.def_model.specs.Batches.{Batch, row_of, open_batches, chain_ok, pending_count}
use Rattle.law_bytes.specs.LogAreas.{slots_of}
use Rattle.log_pending.specs.Reading.{Reads}
use Rattle.log_pending.specs.Holding.{Holds, holds_open}
use Rattle.law_bytes.specs.Eights.{padded}
use Rattle.law_bytes.specs.DeskRows.{LowRows}
use Rattle.log_judge.specs.Judging.{rows_low}

slots_read : (n k : ℕ) (s : List Slot) → slots_ok n k s ≡ true → take (length (records_of s)) s ≡ slots_from k (records_of s)
unfolding slots_ok records_of slots_from
slots_read n k [] h = refl
slots_read n k (empty ∷ s) h = refl
slots_read n k (other b ∷ s) h = clash (sym h)
slots_read n k (full m r ∷ s) h =
    let p = and_true (eqb m k) (row k r && (names_pages n r && slots_ok n (suc k) s)) h in
    let q = and_true (row k r) (names_pages n r && slots_ok n (suc k) s) p.1 in
    let t = and_true (names_pages n r) (slots_ok n (suc k) s) q.1 in
    ap₂ (λ (x : ℕ) (y : List Slot). full x r ∷ y) (true_eq m k p.0) (slots_read n (suc k) s t.1)

-- A register's log l in an area, as a call finds it.
pub record Accepted (m : ℕ) (b : List ℕ) (l : List Rec) : Type 0 where
  pub reads : Reads m b l
  pub holds : Holds l (open_batches l)

pub accepted : (n m : ℕ) (b : List ℕ) → slots_ok n 1 (slots_of m b) ≡ true → chain_ok 1 (records_of (slots_of m b)) [] ≡ true
    → Accepted m b (records_of (slots_of m b))
accepted n m b s c = record { reads = slots_read n 1 (slots_of m b) s; holds = holds_open (records_of (slots_of m b)) c }

-- ---- the lines of all rows

unfoldable pub total : List Row → ℕ
total [] = 0
total (r ∷ rs) = r.pending + total rs

pub accepted_low : (m : ℕ) (b : List ℕ) (l : List Rec) → m ≤ 16384 → Accepted m b l → LowRows (eight_rows (map row_of (open_batches l)))
accepted_low m b l h a = rows_low m b l (open_batches l) h a.reads a.holds

total_pad : (rs : List Row) (k : ℕ) → total (rs ++ replicate k no_row) ≡ total rs
unfolding total
total_pad [] zero = refl
total_pad [] (suc k) = omega (arith, total_pad [] k)
total_pad (r ∷ rs) k = ap (λ (x : ℕ). r.pending + x) (total_pad rs k)

total_batches : (bs : List Batch) → total (map row_of bs) ≡ pending_count bs
unfolding total row_of pending_count
total_batches [] = refl
total_batches (b ∷ bs) = ap (λ (x : ℕ). length b.lines + x) (total_batches bs)

pub total_open : (bs : List Batch) → length bs ≤ 8 → total (eight_rows (map row_of bs)) ≡ pending_count bs
unfolding eight_rows
total_open bs h = ap total (padded no_row (map row_of bs) (omega (arith, length-map bs row_of, h))) ∙ total_pad (map row_of bs) (8 - length (map row_of bs)) ∙ total_batches bs

-- Its sum, turn by turn.
pub total_more : (rs : List Row) (i t : ℕ) → i < length rs → t + total (drop i rs) ≡ total rs → t + (row_at rs i).pending + total (drop (i + 1) rs) ≡ total rs
unfolding total
total_more rs i t h e =
    let d : total (drop i rs) ≡ (row_at rs i).pending + total (drop (suc i) rs) = ap total (drop-cons rs i no_row h) in
    ap (λ (k : ℕ). t + (row_at rs i).pending + total (drop k rs)) (add-one i) ∙ omega (arith, d, e)

pub total_end : (rs : List Row) (i t : ℕ) → length rs ≤ i → t + total (drop i rs) ≡ total rs → t ≡ total rs
unfolding total
total_end rs i t h e = omega (arith, e, ap total (drop_of_length-le rs {i = i} h))
