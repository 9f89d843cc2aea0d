-- What the program reads of a record in a log area: the few numbers that lead from a pending line to the one below it.
use Prim.Native.Nat.{ℕ, zero, suc, ◌+◌, ◌*◌, ◌/◌, ◌≤◌, ◌<◌}
use Rattle.std.specs.Prelude.{◌≡◌, Bool, ◌&&◌, length, take, drop, eqb}
use Rattle.std.proofs.Math.Path.{refl, sym, ap}
use Rattle.std.proofs.Common.{◌∙◌, mod-lt, add-zero, add-suc, suc-add, take_all, get_or-take, lit<, lit≤}
use Rattle.std.proofs.Math.Bool.{true, false}
use mathlib.Core.List.{List, [], ◌∷◌}
use native.Mathlib.Omega.{arith}
use Rattle.std.proofs.Math.Decide.{dec_lt}
use Rattle.std.proofs.Math.ListN.{get_or}
use Rattle.std.proofs.Math.Dec.{ltb, leb}
use Rattle.def_base.specs.Tests.{Case, yes!, no!, case, lt_true, le_true, le_false}
use Rattle.def_layout.specs.Numbers.{be32, same_bytes, zeros}
use Rattle.def_layout.specs.Records.{Rec, Kind, kind_of, kind_number}
use Rattle.def_layout.specs.RecordBytes.{record_bytes, record_fields, Slot, empty, full, other, full_by, slot_by, read_slot}
use Rattle.def_layout.specs.Sizes.{slot_size}
use Rattle.def_model.specs.Log.{no_record, record_at, slots_from}
use Rattle.def_model.specs.Batches.{is_record_of}
use Rattle.law_bytes.specs.Words.{part, be32_drop, be32_take}
use Rattle.law_bytes.specs.Pieces.{read_all_at, read_all_length}
use Rattle.law_bytes.specs.Ranges.{Run, in_run}
use Rattle.law_bytes.specs.Same.{same_true}
use Rattle.law_bytes.specs.LogAreas.{slots_of}
use Rattle.law_bytes.specs.RecordBytes.{kind_back, kind_range, word_kind, word_0}
use Rattle.log_pending.specs.Below.{pending_by, pending_after}

-- The records l stand in the first slots of an area of m slots.
abbrev pub Reads : ℕ → List ℕ → List Rec → Type 0
Reads m b l = take (length l) (slots_of m b) ≡ slots_from 1 l

from_length : (n : ℕ) (l : List Rec) → length (slots_from n l) ≡ length l
unfolding slots_from
from_length n [] = refl
from_length n (r ∷ l) = ap suc (from_length (suc n) l)

from_at : (n : ℕ) (l : List Rec) (i : ℕ) → i < length l → get_or (slots_from n l) i empty ≡ full (n + i) (get_or l i no_record)
unfolding slots_from
from_at n [] i h = absurd (omega arith)
from_at n (r ∷ l) zero h = ap (λ (k : ℕ). full k r) (sym (add-zero n))
from_at n (r ∷ l) (suc i) h = from_at (suc n) l i (omega arith) ∙ ap (λ (k : ℕ). full k (get_or l i no_record)) (suc-add n i ∙ sym (add-suc n i))

pub reads_few : (m : ℕ) (b : List ℕ) (l : List Rec) → Reads m b l → length l ≤ m
reads_few m b l e =
    elim (dec_lt m (length l)) [
      | yes h ↦
          let n : length (slots_of m b) ≡ m = read_all_length slot_size read_slot m b in
          let s : take (length l) (slots_of m b) ≡ slots_of m b = take_all (length l) (slots_of m b) (omega arith) in
          absurd (omega (arith, n, h, ap (λ (x : List Slot). length x) (sym s ∙ e), from_length 1 l))
      | no h ↦ omega arith
    ]

-- A slot that holds a record, by its words.
unfoldable slot_record : Slot → Rec
slot_record empty = no_record
slot_record (full n r) = r
slot_record (other b) = no_record

kind_digit : (w : ℕ) (r : Rec) → w ≡ word_kind r → w / 268435456 ≡ kind_number r.kind
kind_digit w r e = omega (arith, e, mod-lt (length r.entries) {m = 16} (lit< tt), mod-lt r.level {m = 16} (lit< tt))

record Worded (b : List ℕ) (r : Rec) : Type 0 where
  pub kind : be32 b 0 / 268435456 ≡ kind_number r.kind
  pub batch : be32 b 8 ≡ r.batch
  pub previous : be32 b 12 ≡ r.previous
  pub key : be32 b 20 ≡ r.key
  pub second : be32 b 24 ≡ r.second

worded : (b : List ℕ) (n : ℕ) (r : Rec) → read_slot b ≡ full n r → Worded b r
unfolding read_slot slot_by full_by slot_record record_fields
worded b n r e = go (case (same_bytes (zeros slot_size) b)) (case (same_bytes (record_bytes (be32 b 4) (record_fields b)) b))
  where
    go : Case (same_bytes (zeros slot_size) b) → Case (same_bytes (record_bytes (be32 b 4) (record_fields b)) b) → Worded b r
    go (yes! t) c =
        let f : empty ≡ full n r = rw t at e in
        let z : ◌≡◌ {A = ℕ} 0 1 = cc in
        absurd (omega arith)
    go (no! t) (no! u) =
        let f : other b ≡ full n r = rw (t, u) at e in
        let z : ◌≡◌ {A = ℕ} 0 1 = cc in
        absurd (omega arith)
    go (no! t) (yes! u) =
        let f : full (be32 b 4) (record_fields b) ≡ full n r = rw (t, u) at e in
        let g : record_fields b ≡ r = ap slot_record f in
        record {
          kind =
              kind_digit (be32 b 0) (record_fields b)
              (ap (λ (x : List ℕ). be32 x 0) (sym (same_true (record_bytes (be32 b 4) (record_fields b)) b u)) ∙ word_0 (be32 b 4) (record_fields b))
              ∙ ap (λ (x : Rec). kind_number x.kind) g;
          batch = ap (λ (x : Rec). x.batch) g;
          previous = ap (λ (x : Rec). x.previous) g;
          key = ap (λ (x : Rec). x.key) g;
          second = ap (λ (x : Rec). x.second) g;
        }

-- A record of the log, where the area has it: record number i + 1.
module _ (m : ℕ) (b : List ℕ) (l : List Rec) (e : Reads m b l) (i : ℕ) (h : i < length l) where
  reads_at : read_slot (part b (slot_size * i) slot_size) ≡ full (suc i) (record_at l (suc i))
  unfolding record_at
  reads_at =
      sym (read_all_at slot_size read_slot m i b empty (omega (arith, reads_few m b l e)))
      ∙ sym (get_or-take (length l) (slots_of m b) i empty h)
      ∙ ap (λ (x : List Slot). get_or x i empty) e
      ∙ from_at 1 l i h
      ∙ ap (λ (k : ℕ). full k (get_or l i no_record)) (number i)
    where
      number : (i : ℕ) → 1 + i ≡ suc i
      number i = omega arith

  word_part : (k : ℕ) → k + 4 ≤ slot_size → be32 b (slot_size * i + k) ≡ be32 (part b (slot_size * i) slot_size) k
  word_part k q = sym (be32_take (drop (slot_size * i) b) slot_size k q ∙ be32_drop b (slot_size * i) k)

  words : Worded (part b (slot_size * i) slot_size) (record_at l (suc i))
  words = worded (part b (slot_size * i) slot_size) (suc i) (record_at l (suc i)) reads_at

  pub kind_read : be32 b (slot_size * i) / 268435456 ≡ kind_number (record_at l (suc i)).kind
  kind_read =
      ap (λ (k : ℕ). be32 b k / 268435456) (sym (add-zero (slot_size * i))) ∙ ap (λ (w : ℕ). w / 268435456) (word_part 0 (lit≤ tt)) ∙ words.kind

  pub batch_read : be32 b (slot_size * i + 8) ≡ (record_at l (suc i)).batch
  batch_read = word_part 8 (lit≤ tt) ∙ words.batch

  pub previous_read : be32 b (slot_size * i + 12) ≡ (record_at l (suc i)).previous
  previous_read = word_part 12 (lit≤ tt) ∙ words.previous

  pub key_read : be32 b (slot_size * i + 20) ≡ (record_at l (suc i)).key
  key_read = word_part 20 (lit≤ tt) ∙ words.key

  pub second_read : be32 b (slot_size * i + 24) ≡ (record_at l (suc i)).second
  second_read = word_part 24 (lit≤ tt) ∙ words.second

-- ---- what a reading tells, whatever log the area shows

abbrev pub TellsAfter : ℕ → List ℕ → ℕ → ℕ → Type 0
TellsAfter m b p r = (l : List Rec) → Reads m b l → p ≤ length l → r ≡ pending_after l p

-- What was pending after record p, test by test.
pub after_zero : (m : ℕ) (b : List ℕ) (p : ℕ) → p ≡ 0 → TellsAfter m b p 0
unfolding pending_after record_at pending_by
after_zero m b p z l e h = rw z

module _ (m : ℕ) (b : List ℕ) (p i : ℕ) (n : p ≡ suc i) where
  pub after_past : m ≤ i → TellsAfter m b p 0
  after_past q l e h = absurd (omega (arith, reads_few m b l e, q, n, h))

  after_kind : (k : ℕ) (l : List Rec) → Reads m b l → p ≤ length l → k ≡ be32 b (slot_size * i) / 268435456
      → pending_after l p ≡ pending_by (kind_of k) p (record_at l p)
  unfolding pending_after
  after_kind k l e h w =
      let v : kind_of k ≡ (record_at l p).kind =
      ap kind_of (w ∙ kind_read m b l e i (omega arith) ∙ ap (λ (j : ℕ). kind_number (record_at l j).kind) (sym n)) ∙ kind_back (record_at l p).kind in
      ap (λ (x : Kind). pending_by x p (record_at l p)) (sym v)

  module _ (k : ℕ) (w : k ≡ be32 b (slot_size * i) / 268435456) where
    pub after_update : 2 ≤ k → k ≤ 3 → TellsAfter m b p p
    unfolding Run kind_of pending_by
    after_update x y l e h =
        sym (after_kind k l e h w ∙ in_run (λ (k : ℕ). pending_by (kind_of k) p (record_at l p) ≡ p) 2 2 k (refl, (refl, tt)) x (omega arith))

    pub after_undo : 4 ≤ k → k ≤ 5 → TellsAfter m b p (be32 b (slot_size * i + 12))
    unfolding Run kind_of pending_by
    after_undo x y l e h =
        previous_read m b l e i (omega arith) ∙ ap (λ (j : ℕ). (record_at l j).previous) (sym n)
        ∙ sym (after_kind k l e h w ∙ in_run (λ (k : ℕ). pending_by (kind_of k) p (record_at l p) ≡ (record_at l p).previous) 2 4 k (refl, (refl, tt)) x (omega arith))

    pub after_begin : k < 2 → TellsAfter m b p 0
    unfolding Run kind_of pending_by
    after_begin y l e h =
        sym (after_kind k l e h w ∙ in_run (λ (k : ℕ). pending_by (kind_of k) p (record_at l p) ≡ 0) 2 0 k (refl, (refl, tt)) (omega arith) (omega arith))

    pub after_other : 5 < k → TellsAfter m b p 0
    unfolding Run kind_of pending_by
    after_other x l e h =
        let y : k < 16 = omega (arith, w, kind_read m b l e i (omega arith), (kind_range (record_at l (suc i)).kind).1) in
        sym (after_kind k l e h w ∙ in_run (λ (k : ℕ). pending_by (kind_of k) p (record_at l p) ≡ 0) 10 6 k
        (refl, (refl, (refl, (refl, (refl, (refl, (refl, (refl, (refl, (refl, tt)))))))))) x y)

-- ---- whether a record is of a batch

abbrev pub TellsOf : ℕ → List ℕ → (logged batch number : ℕ) → Bool → Type 0
TellsOf m b logged batch number r = (l : List Rec) → Reads m b l → logged ≡ length l → r ≡ is_record_of batch number l

module _ (m : ℕ) (b : List ℕ) (logged batch number : ℕ) where
  pub of_zero : number ≡ 0 → TellsOf m b logged batch number false
  unfolding is_record_of
  of_zero z l e h = rw z

  pub of_past : logged < number → TellsOf m b logged batch number false
  unfolding is_record_of
  of_past q l e h = rw (le_false number (length l) (omega (arith, q, h)), and_false (ltb 0 number))
    where
      and_false : (t : Bool) → t && false ≡ false
      and_false true = refl
      and_false false = refl

  pub of_none : (i : ℕ) → number ≡ suc i → m ≤ i → number ≤ logged → TellsOf m b logged batch number false
  of_none i n q k l e h = absurd (omega (arith, reads_few m b l e, n, q, k, h))

  pub of_read : (i w : ℕ) → number ≡ suc i → number ≤ logged → w ≡ be32 b (slot_size * i + 8) → TellsOf m b logged batch number (eqb batch w)
  unfolding is_record_of
  of_read i w n k e l rd h =
      let t : ltb 0 number ≡ true = lt_true 0 number (omega arith) in
      let u : leb number (length l) ≡ true = le_true number (length l) (omega (arith, k, h)) in
      let v : w ≡ (record_at l number).batch = e ∙ batch_read m b l rd i (omega (arith, n, k, h)) ∙ ap (λ (j : ℕ). (record_at l j).batch) (sym n) in
      rw (t, u, v)
