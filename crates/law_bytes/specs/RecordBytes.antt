-- A record whose fields fit is read back from its 144 bytes as it was, and whatever stands in a slot is written as it was.
use Rattle.std.specs.Prelude.{◌≡◌, refl, ℕ, ◌+◌, ◌*◌, ◌/◌, ◌%◌, ◌^◌, ◌<◌, ◌≤◌, false, true, length}
use Rattle.std.proofs.Common.{ap, sym, ◌∙◌, mod-eq_of_lt, arith, lit<, length-append}
use Rattle.std.proofs.Math.Nat.{mod-lt}
use mathlib.Core.List.{List, [], ◌++◌}
use Rattle.std.proofs.Math.ListN.{get_or-eq_default}
use Rattle.def_base.specs.Tests.{Case, yes!, no!, case}
use Rattle.def_layout.specs.Entries.{entry_at, no_entry}
use Rattle.def_layout.specs.Numbers.{be32, put32, tab, read_entry, entries_bytes, same_bytes, zeros}
use Rattle.def_layout.specs.Records.{Rec, Kind, kinds, kind_of, kind_number, begin, insert, delete, undo_insert, undo_delete, commit, abort_mark, end, split, link, unlink, merge, redistribute, raise, lower}
use Rattle.def_layout.specs.RecordBytes.{record_bytes, record_fields, full, full_by, slot_by, read_slot, slot_bytes, empty}
use Rattle.def_layout.specs.Sizes.{slot_size}
use Rattle.law_bytes.specs.Words.{be32_put}
use Rattle.law_bytes.specs.Tables.{tab_is}
use Rattle.law_bytes.specs.Ranges.{Run, in_run}
use Rattle.law_bytes.specs.Same.{same_refl, same_true, same_false, zeros_word}
use Rattle.law_bytes.specs.EntryBytes.{EntryFits, entries_bytes_length, read_entry_skip, read_entry_written}

-- Kinds and their numbers, 1 to 15.
pub kind_back : (k : Kind) → kind_of (kind_number k) ≡ k
unfolding kind_of kind_number
kind_back begin = refl
kind_back insert = refl
kind_back delete = refl
kind_back undo_insert = refl
kind_back undo_delete = refl
kind_back commit = refl
kind_back abort_mark = refl
kind_back end = refl
kind_back split = refl
kind_back link = refl
kind_back unlink = refl
kind_back merge = refl
kind_back redistribute = refl
kind_back raise = refl
kind_back lower = refl

pub kind_range : (k : Kind) → (0 < kind_number k) × (kind_number k < 16)
unfolding kind_number
kind_range begin = (lit< tt, lit< tt)
kind_range insert = (lit< tt, lit< tt)
kind_range delete = (lit< tt, lit< tt)
kind_range undo_insert = (lit< tt, lit< tt)
kind_range undo_delete = (lit< tt, lit< tt)
kind_range commit = (lit< tt, lit< tt)
kind_range abort_mark = (lit< tt, lit< tt)
kind_range end = (lit< tt, lit< tt)
kind_range split = (lit< tt, lit< tt)
kind_range link = (lit< tt, lit< tt)
kind_range unlink = (lit< tt, lit< tt)
kind_range merge = (lit< tt, lit< tt)
kind_range redistribute = (lit< tt, lit< tt)
kind_range raise = (lit< tt, lit< tt)
kind_range lower = (lit< tt, lit< tt)

pub number_back : (q : ℕ) → 0 < q → q < 16 → kind_number (kind_of q) ≡ q
unfolding kind_of kind_number Run
number_back q h l =
    in_run (λ (k : ℕ). kind_number (kind_of k) ≡ k) 15 1 q
    (refl, (refl, (refl, (refl, (refl, (refl, (refl, (refl, (refl, (refl, (refl, (refl, (refl, (refl, (refl, tt))))))))))))))) h l

-- The eight words before the entries.
unfoldable pub record_front : ℕ → Rec → List ℕ
record_front n r =
    put32 (kind_number r.kind * 268435456 + length r.entries % 16 * 16777216 + r.level % 16 * 1048576)
    ++ put32 n ++ put32 r.batch ++ put32 r.previous
    ++ put32 (r.pageA % 1024 * 4194304 + r.pageB % 1024 * 4096 + r.pageC % 1024 * 4)
    ++ put32 r.key ++ put32 r.second ++ put32 (r.right % 1024 * 4194304)

-- The bytes' shape.
pub record_bytes_parts : (n : ℕ) (r : Rec) → record_bytes n r ≡ record_front n r ++ entries_bytes r.entries
unfolding record_bytes record_front
record_bytes_parts n r = refl

pub record_front_length : (n : ℕ) (r : Rec) → length (record_front n r) ≡ 32
unfolding record_front put32
record_front_length n r = refl

pub record_bytes_length : (n : ℕ) (r : Rec) → length (record_bytes n r) ≡ slot_size
record_bytes_length n r =
    ap length (record_bytes_parts n r) ∙ length-append (record_front n r) (entries_bytes r.entries)
    ∙ omega (arith, record_front_length n r, entries_bytes_length r.entries)

-- The words that pack several fields.
abbrev pub word_kind : Rec → ℕ
word_kind r = kind_number r.kind * 268435456 + length r.entries % 16 * 16777216 + r.level % 16 * 1048576

abbrev pub word_pages : Rec → ℕ
word_pages r = r.pageA % 1024 * 4194304 + r.pageB % 1024 * 4096 + r.pageC % 1024 * 4

module _ (n : ℕ) (r : Rec) where
  pub word_0 : be32 (record_bytes n r) 0 ≡ word_kind r
  unfolding record_bytes be32 put32
  word_0 =
      be32_put (word_kind r) [] (omega (arith, (kind_range r.kind).1, mod-lt (length r.entries) {m = 16} (lit< tt), mod-lt r.level {m = 16} (lit< tt)))

  pub word_4 : n < 2 ^ 32 → be32 (record_bytes n r) 4 ≡ n
  unfolding record_bytes be32 put32
  word_4 h = be32_put n [] h

  pub word_8 : r.batch < 2 ^ 32 → be32 (record_bytes n r) 8 ≡ r.batch
  unfolding record_bytes be32 put32
  word_8 h = be32_put r.batch [] h

  pub word_12 : r.previous < 2 ^ 32 → be32 (record_bytes n r) 12 ≡ r.previous
  unfolding record_bytes be32 put32
  word_12 h = be32_put r.previous [] h

  pub word_16 : be32 (record_bytes n r) 16 ≡ word_pages r
  unfolding record_bytes be32 put32
  word_16 =
      be32_put (word_pages r) [] (omega (arith, mod-lt r.pageA {m = 1024} (lit< tt), mod-lt r.pageB {m = 1024} (lit< tt), mod-lt r.pageC {m = 1024} (lit< tt)))

  word_20 : r.key < 2 ^ 32 → be32 (record_bytes n r) 20 ≡ r.key
  unfolding record_bytes be32 put32
  word_20 h = be32_put r.key [] h

  word_24 : r.second < 2 ^ 32 → be32 (record_bytes n r) 24 ≡ r.second
  unfolding record_bytes be32 put32
  word_24 h = be32_put r.second [] h

  pub word_28 : be32 (record_bytes n r) 28 ≡ r.right % 1024 * 4194304
  unfolding record_bytes be32 put32
  word_28 = be32_put (r.right % 1024 * 4194304) [] (omega (arith, mod-lt r.right {m = 1024} (lit< tt)))

-- What fits the fields' bits.
pub record Fits (n : ℕ) (r : Rec) : Type 0 where
  pub own : n < 2 ^ 32
  pub level : r.level < 16
  pub batch : r.batch < 2 ^ 32
  pub previous : r.previous < 2 ^ 32
  pub pageA : r.pageA < 1024
  pub pageB : r.pageB < 1024
  pub pageC : r.pageC < 1024
  pub key : r.key < 2 ^ 32
  pub second : r.second < 2 ^ 32
  pub right : r.right < 1024
  pub count : length r.entries ≤ 14
  pub entry : (i : ℕ) → EntryFits (entry_at r.entries i)

-- The packed words' fields.
kind_fields : (w k n l : ℕ) → w ≡ k * 268435456 + n * 16777216 + l * 1048576 → k < 16 → n < 16 → l < 16
    → (w / 268435456 ≡ k) × (w / 16777216 % 16 ≡ n) × (w / 1048576 % 16 ≡ l)
kind_fields w k n l e hk hn hl =
    let m : w / 16777216 ≡ k * 16 + n = omega arith in
    let o : w / 1048576 ≡ (k * 16 + n) * 16 + l = omega arith in
    (omega arith, omega arith, omega arith)

page_numbers : (w a b c : ℕ) → w ≡ a * 4194304 + b * 4096 + c * 4 → a < 1024 → b < 1024 → c < 1024
    → (w / 4194304 ≡ a) × (w / 4096 % 1024 ≡ b) × (w / 4 % 1024 ≡ c)
page_numbers w a b c e ha hb hc =
    let m : w / 4096 ≡ a * 1024 + b = omega arith in
    let o : w / 4 ≡ (a * 1024 + b) * 1024 + c = omega arith in
    (omega arith, omega arith, omega arith)

-- READ BACK: the fields, and so the slot.
record_fields_back : (n : ℕ) (r : Rec) → Fits n r → record_fields (record_bytes n r) ≡ r
unfolding record_fields
record_fields_back n r w =
    let b : List ℕ = record_bytes n r in
    let cnt : length r.entries % 16 ≡ length r.entries = mod-eq_of_lt (omega (arith, w.count)) in
    let lev : r.level % 16 ≡ r.level = mod-eq_of_lt w.level in
    let first = kind_fields (be32 b 0) (kind_number r.kind) (length r.entries) r.level (word_0 n r ∙ rw (cnt, lev)) (kind_range r.kind).1 (omega (arith, w.count)) w.level in
    let pa : r.pageA % 1024 ≡ r.pageA = mod-eq_of_lt w.pageA in
    let pb : r.pageB % 1024 ≡ r.pageB = mod-eq_of_lt w.pageB in
    let pc : r.pageC % 1024 ≡ r.pageC = mod-eq_of_lt w.pageC in
    let pages = page_numbers (be32 b 16) r.pageA r.pageB r.pageC (word_16 n r ∙ rw (pa, pb, pc)) w.pageA w.pageB w.pageC in
    let rt : r.right % 1024 ≡ r.right = mod-eq_of_lt w.right in
    let kind : kind_of (be32 b 0 / 268435456) ≡ r.kind = ap kind_of first.0 ∙ kind_back r.kind in
    let level : be32 b 0 / 1048576 % 16 ≡ r.level = first.2 in
    let batch : be32 b 8 ≡ r.batch = word_8 n r w.batch in
    let previous : be32 b 12 ≡ r.previous = word_12 n r w.previous in
    let pageA : be32 b 16 / 4194304 ≡ r.pageA = pages.0 in
    let pageB : be32 b 16 / 4096 % 1024 ≡ r.pageB = pages.1 in
    let pageC : be32 b 16 / 4 % 1024 ≡ r.pageC = pages.2 in
    let key : be32 b 20 ≡ r.key = word_20 n r w.key in
    let second : be32 b 24 ≡ r.second = word_24 n r w.second in
    let right : be32 b 28 / 4194304 ≡ r.right = omega (arith, word_28 n r) in
    let entries : tab (be32 b 0 / 16777216 % 16) (read_entry b 32) ≡ r.entries = entries_back (be32 b 0 / 16777216 % 16) first.1 in
    let e : record_fields b ≡ record { kind = r.kind; level = r.level; batch = r.batch; previous = r.previous; pageA = r.pageA; pageB = r.pageB; pageC = r.pageC; key = r.key; second = r.second; right = r.right; entries = r.entries } = cc in
    e
  where
    entries_back : (m : ℕ) → m ≡ length r.entries → tab m (read_entry (record_bytes n r) 32) ≡ r.entries
    entries_back m e =
        tab_is m (read_entry (record_bytes n r) 32) r.entries no_entry (sym e)
        (λ i h. ap (λ (b : List ℕ). read_entry b 32 i) (record_bytes_parts n r)
        ∙ read_entry_skip (record_front n r) (entries_bytes r.entries) 32 i (record_front_length n r)
        ∙ read_entry_written r.entries i (omega (arith, w.count)) (w.entry i))

-- A record's bytes are not all zero.
record_not_empty : (n : ℕ) (r : Rec) → same_bytes (zeros slot_size) (record_bytes n r) ≡ false
record_not_empty n r =
    same_false (zeros slot_size) (record_bytes n r)
    (λ e. let z : be32 (record_bytes n r) 0 ≡ 0 = ap (λ (b : List ℕ). be32 b 0) (sym e) ∙ zeros_word slot_size 0 in
    omega (arith, word_0 n r, (kind_range r.kind).0))

pub reads_empty : (b : List ℕ) → same_bytes (zeros slot_size) b ≡ true → read_slot b ≡ empty
unfolding read_slot slot_by
reads_empty b z = rw z

pub read_slot_back : (n : ℕ) (r : Rec) → Fits n r → read_slot (record_bytes n r) ≡ full n r
unfolding read_slot slot_by full_by
read_slot_back n r w =
    let i : be32 (record_bytes n r) 4 ≡ n = word_4 n r w.own in
    let f : record_fields (record_bytes n r) ≡ r = record_fields_back n r w in
    rw (record_not_empty n r, i, f, same_refl (record_bytes n r), i, f)

-- Whatever stands in a slot is written as it was.
pub slot_bytes_back : (b : List ℕ) → slot_bytes (read_slot b) ≡ b
unfolding read_slot slot_by full_by slot_bytes
slot_bytes_back b = go (case (same_bytes (zeros slot_size) b)) (case (same_bytes (record_bytes (be32 b 4) (record_fields b)) b))
  where
    go : Case (same_bytes (zeros slot_size) b) → Case (same_bytes (record_bytes (be32 b 4) (record_fields b)) b)
        → slot_bytes (slot_by (same_bytes (zeros slot_size) b) b) ≡ b
    go (yes! e) c = rw e (same_true (zeros slot_size) b e)
    go (no! e) (yes! f) = rw (e, f) (same_true (record_bytes (be32 b 4) (record_fields b)) b f)
    go (no! e) (no! f) = rw (e, f)

-- Any other number stands for the first kind.
pub number_zero : (q : ℕ) → q ≡ 0 → kind_number (kind_of q) ≡ 1
unfolding kind_of kind_number
number_zero q h = rw h

pub number_past : (q : ℕ) → 15 < q → kind_number (kind_of q) ≡ 1
unfolding kind_of kind_number
number_past q h = ap kind_number (get_or-eq_default kinds begin {n = q} h)
