-- A slot that holds an insert, a delete, a begin or a commit, known by its eight words and the zeros after them: nearly all slots of a full log are such.
use Rattle.std.specs.Prelude.{ℕ, suc, ◌+◌, ◌-◌, ◌*◌, ◌/◌, ◌%◌, ◌^◌, ◌≤◌, ◌<◌, ◌≡◌, refl, Bool, true, List, length, take, drop}
use Rattle.std.proofs.Common.{sym, ◌∙◌, subst, add-one, length-drop, length-take-le}
use Rattle.std.proofs.Math.Path.{ap}
use Rattle.std.proofs.Math.Bool.{false}
use Rattle.std.proofs.Math.Nat.{add-sub_cancel_left}
use native.Mathlib.Omega.{arith}
use Rattle.std.proofs.Math.Dec.{eqb}
use Rattle.def_base.specs.Tests.{and_both, eq_true, neq_false, lt_true}
use Rattle.def_layout.specs.Entries.{no_entry}
use Rattle.def_layout.specs.Numbers.{be32, tab, read_entry, same_bytes, zeros}
use Rattle.def_layout.specs.Records.{kind_of, begin, commit, data_row}
use Rattle.def_layout.specs.RecordBytes.{full, record_fields, read_slot}
use Rattle.def_layout.specs.Sizes.{slot_size}
use Rattle.def_layout.specs.Rows.{carries, named_only, row_says, row, names_pages}
use Rattle.def_model.specs.Log.{is_empty}
use Rattle.law_bytes.specs.Words.{Bytes, part, be32_lt, be32_drop, be32_take, bytes_take, bytes_drop}
use Rattle.law_bytes.specs.Tables.{tab_length, getD_tab}
use Rattle.law_bytes.specs.Ranges.{Run, in_run}
use Rattle.law_bytes.specs.Same.{same_true, same_false, zeros_word}
use Rattle.law_bytes.specs.Blank.{from_blank}
use Rattle.codec_slot.specs.Typed.{clean}
use Rattle.codec_slot.specs.Shown.{reads_full}
use Rattle.log_chain.specs.declared.Told.{Told}

-- The numbers of a slot's bytes that the batch chain asks for.
abbrev pub told_by : List ℕ → Told
told_by b = record { kind = be32 b 0 / 268435456; own = be32 b 4; batch = be32 b 8; previous = be32 b 12; key = be32 b 20; second = be32 b 24 }

-- Bytes of a record of a register of n pages, whose number is own, in order in all but its chain.
pub record Plain (n own : ℕ) (b : List ℕ) : Type 0 where
  pub reads : read_slot b ≡ full (be32 b 4) (record_fields b)
  pub row : row own (record_fields b) ≡ true
  pub pages : names_pages n (record_fields b) ≡ true
  pub number : be32 b 4 ≡ own

-- Those of an update.
pub record Update (n own : ℕ) (b : List ℕ) : Type 0 where
  pub plain : Plain n own b
  pub least : 2 ≤ be32 b 0 / 268435456
  pub most : be32 b 0 / 268435456 ≤ 3

-- Slot i, as the program tells of it.
pub record TellsUpdate (n m : ℕ) (b : List ℕ) (i : ℕ) (t : Told) : Type 0 where
  pub holds : Plain n (suc i) (part b (slot_size * i) slot_size)
  pub told : t ≡ told_by (part b (slot_size * i) slot_size)
  pub least : 2 ≤ t.kind
  pub most : t.kind ≤ 3

-- Those of a begin or a commit, whatever the register's page count.
pub record BeginOrCommit (own : ℕ) (b : List ℕ) : Type 0 where
  pub plain : (n : ℕ) → 0 < n → Plain n own b
  pub least : 0 < be32 b 0 / 268435456

-- Slot i, as the program tells of it.
pub record TellsBatch (n m : ℕ) (b : List ℕ) (i : ℕ) (t : Told) : Type 0 where
  pub holds : Plain n (suc i) (part b (slot_size * i) slot_size)
  pub told : t ≡ told_by (part b (slot_size * i) slot_size)
  pub least : 0 < t.kind
  pub small : t.kind < 16

pub plain_full : (n own : ℕ) (b : List ℕ) → Plain n own b → is_empty (read_slot b) ≡ false
unfolding is_empty
plain_full n own b u = ap is_empty u.reads

-- An update's row is its data and no more.
row_plain : (k own batch previous a key second : ℕ) → 2 ≤ k → k ≤ 3 → row own (data_row (kind_of k) batch previous a key second) ≡ true
unfolding Run row carries named_only row_says kind_of
row_plain k own batch previous a key second l h =
    in_run (λ (k : ℕ). row own (data_row (kind_of k) batch previous a key second) ≡ true) 2 2 k (refl, (refl, tt)) l (omega arith)

-- So is a begin's, which names its own number, and a commit's.
row_begin : (own batch previous a key second : ℕ) → batch ≡ own → previous ≡ 0 → a ≡ 0 → key ≡ 0 → second ≡ 0 → row own (data_row begin batch previous a key second) ≡ true
unfolding row carries named_only row_says
row_begin own batch previous a key second eb ep ea ek es = rw (eb, ep, ea, ek, es) (eq_true own own refl)

row_commit : (own batch previous a key second : ℕ) → a ≡ 0 → key ≡ 0 → second ≡ 0 → row own (data_row commit batch previous a key second) ≡ true
unfolding row carries named_only row_says
row_commit own batch previous a key second ea ek es = rw (ea, ek, es)

-- The part after the eight words is zero, as the program finds it.
pub tail_clear : (b : List ℕ) → length b ≡ slot_size → (r : Bool) → r ≡ same_bytes (zeros (length (part b 32 112))) (part b 32 112) → r ≡ true
    → same_bytes (zeros 112) (part b 32 112) ≡ true
tail_clear b size r f e =
    let l : length (part b 32 112) ≡ 112 = length-take-le 112 (drop 32 b) (omega (arith, length-drop 32 b)) in
    ap (λ (k : ℕ). same_bytes (zeros k) (part b 32 112)) (sym l) ∙ sym f ∙ e

module _ (n own : ℕ) (b : List ℕ) (w : Bytes b) (size : length b ≡ slot_size) (p : be32 b 16 % 4194304 ≡ 0) (a : be32 b 16 / 4194304 < n)
    (r : be32 b 28 ≡ 0) (z : same_bytes (zeros 112) (part b 32 112) ≡ true) where
  -- The entries are zero.
  word_clear : (i : ℕ) → i + 4 ≤ 112 → be32 b (32 + i) ≡ 0
  word_clear i h =
      sym (be32_drop b 32 i) ∙ sym (be32_take _ 112 i h) ∙ ap (λ (y : List ℕ). be32 y i) (sym (same_true (zeros 112) (part b 32 112) z)) ∙ zeros_word 112 i

  entry_clear : (i : ℕ) → i < 14 → read_entry b 32 i ≡ no_entry
  unfolding read_entry
  entry_clear i h =
      let j : 32 + 8 * i + 4 ≡ 32 + (8 * i + 4) = omega arith in
      rw (word_clear (8 * i) (omega arith), j, word_clear (8 * i + 4) (omega arith))

  module _ (x : ℕ) (e : x ≡ be32 b 0) (s : x % 268435456 ≡ 0) (l : 1 ≤ x / 268435456) where
    spare : (be32 b 0 % 1048576 ≡ 0) × (be32 b 0 / 16777216 % 16 ≡ 0) × (be32 b 0 / 1048576 % 16 ≡ 0)
    spare = (omega arith, omega arith, omega arith)

    pages_clear : (be32 b 16 % 4 ≡ 0) × (be32 b 16 / 4096 % 1024 ≡ 0) × (be32 b 16 / 4 % 1024 ≡ 0)
    pages_clear = (omega arith, omega arith, omega arith)

    fields : record_fields b ≡ data_row (kind_of (x / 268435456)) (be32 b 8) (be32 b 12) (be32 b 16 / 4194304) (be32 b 20) (be32 b 24)
    unfolding record_fields tab
    fields =
        let u : be32 b 28 / 4194304 ≡ 0 = omega arith in
        rw (spare.1, spare.2, pages_clear.1, pages_clear.2, u, e)

    cleared : clean b (tab 14 (read_entry b 32)) ≡ true
    unfolding clean
    cleared =
        let u : be32 b 28 % 4194304 ≡ 0 = omega arith in
        let k : eqb (be32 b 0 / 268435456) 0 ≡ false = neq_false {a = be32 b 0 / 268435456} {b = 0} (λ y. omega (arith, y, e, l)) in
        let blank_all = from_blank (be32 b 0 / 16777216 % 16) (tab 14 (read_entry b 32))
        (λ i g q. let q' : i < 14 = omega (arith, q, tab_length 14 (read_entry b 32)) in getD_tab 14 i (read_entry b 32) no_entry q' ∙ entry_clear i q') in
        rw (k, eq_true _ 0 spare.0, eq_true _ 0 pages_clear.0, eq_true _ 0 u) blank_all

    not_zero : same_bytes (zeros slot_size) b ≡ false
    not_zero =
        same_false (zeros slot_size) b
        (λ y. omega (arith, ap (λ (v : List ℕ). be32 v 0) (sym y), zeros_word slot_size 0, e, l))

    plain_so : be32 b 4 ≡ own → row own (data_row (kind_of (x / 268435456)) (be32 b 8) (be32 b 12) (be32 b 16 / 4194304) (be32 b 20) (be32 b 24)) ≡ true → Plain n own b
    unfolding names_pages
    plain_so o rows =
        record {
          reads = reads_full b w size not_zero cleared;
          row = ap (row own) fields ∙ rows;
          pages =
              ap (names_pages n) fields
              ∙ and_both (lt_true (be32 b 16 / 4194304) n a) (and_both (lt_true 0 n (omega arith)) (lt_true 0 n (omega arith)));
          number = o;
        }

    pub update_so : 2 ≤ x / 268435456 → x / 268435456 ≤ 3 → be32 b 4 ≡ own → Update n own b
    update_so low high o =
        record {
          plain = plain_so o (row_plain (x / 268435456) own (be32 b 8) (be32 b 12) (be32 b 16 / 4194304) (be32 b 20) (be32 b 24) low high);
          least = omega (arith, e, low);
          most = omega (arith, e, high);
        }

    pub begin_so : x / 268435456 ≡ 1 → be32 b 4 ≡ own → be32 b 8 ≡ own → be32 b 12 ≡ 0 → be32 b 16 ≡ 0 → be32 b 20 ≡ 0 → be32 b 24 ≡ 0 → Plain n own b
    unfolding kind_of
    begin_so k o batch previous pa key second =
        plain_so o
        (ap (λ (j : ℕ). row own (data_row (kind_of j) (be32 b 8) (be32 b 12) (be32 b 16 / 4194304) (be32 b 20) (be32 b 24))) k
        ∙ row_begin own (be32 b 8) (be32 b 12) (be32 b 16 / 4194304) (be32 b 20) (be32 b 24) batch previous (omega arith) key second)

    pub commit_so : x / 268435456 ≡ 6 → be32 b 4 ≡ own → be32 b 16 ≡ 0 → be32 b 20 ≡ 0 → be32 b 24 ≡ 0 → Plain n own b
    unfolding kind_of
    commit_so k o pa key second =
        plain_so o
        (ap (λ (j : ℕ). row own (data_row (kind_of j) (be32 b 8) (be32 b 12) (be32 b 16 / 4194304) (be32 b 20) (be32 b 24))) k
        ∙ row_commit own (be32 b 8) (be32 b 12) (be32 b 16 / 4194304) (be32 b 20) (be32 b 24) (omega arith) key second)

-- What the program tells of slot i, from the words that it reads of the lent part.
module _ (n m : ℕ) (b : List ℕ) (i : ℕ) where
  abbrev lent : List ℕ
  lent = take (slot_size * i + slot_size - slot_size * i) (drop (slot_size * i) b)

  slot : lent ≡ part b (slot_size * i) slot_size
  slot = ap (λ (k : ℕ). take k (drop (slot_size * i) b)) (add-sub_cancel_left (slot_size * i) slot_size)

  in_slot : Plain n (i + 1) lent → Plain n (suc i) (part b (slot_size * i) slot_size)
  in_slot u = subst (λ (y : List ℕ). Plain n (suc i) y) slot (subst (λ (y : ℕ). Plain n y lent) (add-one i) u)

  module _ (t : Told) (e : t ≡ told_by lent) where
    pub tells_so : Update n (i + 1) lent → TellsUpdate n m b i t
    tells_so u =
        let k : t.kind ≡ be32 lent 0 / 268435456 = ap (λ (y : Told). y.kind) e in
        record { holds = in_slot u.plain; told = e ∙ ap told_by slot; least = omega (arith, k, u.least); most = omega (arith, k, u.most) }

    pub tells_batch : Bytes b → Plain n (i + 1) lent → 0 < be32 lent 0 / 268435456 → TellsBatch n m b i t
    tells_batch w u least =
        let k : t.kind ≡ be32 lent 0 / 268435456 = ap (λ (y : Told). y.kind) e in
        let few : be32 lent 0 < 2 ^ 32 = be32_lt lent 0 (bytes_take (slot_size * i + slot_size - slot_size * i) (drop (slot_size * i) b) (bytes_drop b (slot_size * i) w)) in
        record { holds = in_slot u; told = e ∙ ap told_by slot; least = omega (arith, k, least); small = omega (arith, k, few) }
