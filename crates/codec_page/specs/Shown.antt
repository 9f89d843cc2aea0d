-- The program's page and the typed one: what bytes show, and what is written.
use Rattle.std.specs.Prelude.{◌≡◌, ◌≢◌, Bool, length, replicate}
use Rattle.std.proofs.Math.Path.{refl}
use Rattle.std.proofs.Math.Path.{ap, ap₂}
use Rattle.std.proofs.Common.{sym, ◌∙◌, length-append}
use Prim.Native.Nat.{ℕ, ◌+◌, ◌-◌, ◌*◌, ◌/◌, ◌%◌, ◌^◌, ◌<◌}
use Rattle.std.proofs.Math.Decide.{dec_lt}
use native.Mathlib.Omega.{arith}
use Rattle.std.proofs.Math.Dec.{eqb}
use mathlib.Core.List.{List, ◌++◌}
use Rattle.def_base.specs.Tests.{pick}
use Rattle.def_layout.specs.declared.Entry.{Entry}
use Rattle.def_layout.specs.Entries.{entry_at, no_entry}
use Rattle.def_layout.specs.Numbers.{be32, put32, tab, read_entry, entry_bytes, entries_bytes}
use Rattle.def_layout.specs.Pages.{Page, page_kind, page_kind_number, map_bits, zero_page}
use Rattle.def_layout.specs.declared.page.PageKind.{PageKind}
use Rattle.def_layout.specs.declared.page.PageKind.TheVariants.{Free, Leaf, Index, Map}
use Rattle.def_layout.specs.PageBytes.{page_front, page_body, page_bytes, page_fields, read_entries, read_marks, read_mark, marks_word, marks_bytes}
use Rattle.law_bytes.specs.Words.{put32_mod}
use Rattle.law_bytes.specs.Tables.{getD_tab, getD_tab_past, tab_same, tab_length}
use Rattle.law_bytes.specs.Chunks.{chunks_same, chunks_pairs}
use Rattle.law_bytes.specs.Patch.{patch, then_patch, patch_whole}
use Rattle.law_bytes.specs.EntryBytes.{used, used_in, read_entry_past, entries_bytes_length}
use Rattle.codec_page.specs.Typed.{typed, shown_page, used_entries, used_marks, map_word, map_mark, has_marks, written, number_entries, used_entries_node, used_marks_node}
use Rattle.law_bytes.specs.PageKinds.{kind_map, read_entries_node, read_entries_map, read_marks_node, read_marks_map}
use Rattle.law_bytes.specs.Marks.{word_of_marks}
use Rattle.law_bytes.specs.PageBytes.{page_front_length, front_word}
use Rattle.codec_page.specs.declared.Page as program

abbrev pub program_page : PageKind → (level count right high lsn own : ℕ) → List Entry → program.Page
program_page kind level count right high lsn own es =
    record { kind = kind; level = level; count = count; right = right; high = high; lsn = lsn; own = own; entries = es }

-- Word j of the map by its place in an entry.
map_word_key : (es : List Entry) (i : ℕ) → map_word es (i + i) ≡ (entry_at es i).key
unfolding map_word
map_word_key es i =
    let m : (i + i) % 2 ≡ 0 = omega arith in
    let d : (i + i) / 2 ≡ i = omega arith in
    rw (m, d)

map_word_val : (es : List Entry) (i : ℕ) → map_word es (i + i + 1) ≡ (entry_at es i).val
unfolding map_word
map_word_val es i =
    let m : (i + i + 1) % 2 ≡ 1 = omega arith in
    let d : (i + i + 1) / 2 ≡ i = omega arith in
    rw (m, d)

module _ (b : List ℕ) where
  -- An entry that bytes show, below the 14 and past them.
  shown_entry : (i : ℕ) → length b ≡ 128 → entry_at (tab 14 (read_entry b 16)) i ≡ read_entry b 16 i
  shown_entry i h =
      elim (dec_lt i 14) [
        | yes q ↦ getD_tab 14 i (read_entry b 16) no_entry q
        | no q ↦ getD_tab_past 14 i (read_entry b 16) no_entry (omega arith) ∙ sym (read_entry_past b 16 i (omega arith))
      ]

  shown_word : (j : ℕ) → j < 28 → map_word (tab 14 (read_entry b 16)) j ≡ be32 b (16 + 4 * j)
  unfolding map_word read_entry
  shown_word j h =
      let e = getD_tab 14 (j / 2) (read_entry b 16) no_entry (omega arith) in
      elim (dec_lt (j % 2) 1) [
        | yes q ↦
            let z : j % 2 ≡ 0 = omega arith in
            let k : 16 + 8 * (j / 2) ≡ 16 + 4 * j = omega arith in
            rw z (ap (λ (x : Entry). x.key) e ∙ ap (λ (n : ℕ). be32 b n) k)
        | no q ↦
            let z : j % 2 ≡ 1 = omega arith in
            let k : 16 + 8 * (j / 2) + 4 ≡ 16 + 4 * j = omega arith in
            rw z (ap (λ (x : Entry). x.val) e ∙ ap (λ (n : ℕ). be32 b n) k)
      ]

  shown_mark : (p : ℕ) → p < map_bits → map_mark (tab 14 (read_entry b 16)) p ≡ read_mark b p
  unfolding map_mark read_mark
  shown_mark p h = ap (λ (k : ℕ). eqb (k / 2 ^ (31 - p % 32) % 2) 1) (shown_word (p / 32) (omega arith))

  -- SHOWN: the program's page of the bytes stands for the fields that they show.
  pub typed_shown : length b ≡ 128 → typed (shown_page b) ≡ page_fields b
  unfolding typed shown_page page_fields used_entries used_marks
  typed_shown h = ap₂ (λ (x : List Entry) (y : List Bool). with_body x y) es ms
    where
      q : ℕ
      q = be32 b 0 / 1073741824

      n : ℕ
      n = be32 b 0 / 4194304 % 16

      with_body : List Entry → List Bool → Page
      with_body x y =
          record {
            kind = page_kind (be32 b 0 / 1073741824);
            level = be32 b 0 / 67108864 % 16;
            right = be32 b 0 / 4096 % 1024;
            high = be32 b 4;
            lsn = be32 b 8;
            own = be32 b 12 / 4194304;
            entries = x;
            marks = y;
          }

      es : used_entries (page_kind (be32 b 0 / 1073741824)) (be32 b 0 / 4194304 % 16) (tab 14 (read_entry b 16)) ≡ read_entries (page_kind (be32 b 0 / 1073741824)) b
      es =
          elim (dec_lt q 3) [
            | yes l ↦ used_entries_node n (tab 14 (read_entry b 16)) (page_kind q) (number_entries q l) ∙ tab_same n (entry_at (tab 14 (read_entry b 16))) (read_entry b 16) (λ i r. shown_entry i h) ∙ sym (read_entries_node b q l)
            | no l ↦ ap (λ k. used_entries k n (tab 14 (read_entry b 16))) (kind_map q (omega arith)) ∙ sym (read_entries_map b q (omega arith))
          ]

      ms : used_marks (page_kind (be32 b 0 / 1073741824)) (tab 14 (read_entry b 16)) ≡ read_marks (page_kind (be32 b 0 / 1073741824)) b
      ms =
          elim (dec_lt q 3) [
            | yes l ↦ used_marks_node (tab 14 (read_entry b 16)) (page_kind q) (number_entries q l) ∙ sym (read_marks_node b q l)
            | no l ↦ ap (λ k. used_marks k (tab 14 (read_entry b 16))) (kind_map q (omega arith)) ∙ tab_same map_bits (map_mark (tab 14 (read_entry b 16))) (read_mark b) (λ p r. shown_mark p r) ∙ sym (read_marks_map b q (omega arith))
          ]

-- The map's marks are written as the words that they came from.
marks_bytes_words : (es : List Entry) → marks_bytes (tab map_bits (map_mark es)) ≡ entries_bytes (used 14 es)
unfolding marks_bytes entries_bytes entry_bytes map_mark
marks_bytes_words es =
    chunks_same 28 (λ j. put32 (marks_word (tab map_bits (map_mark es)) j)) (λ j. put32 (map_word es j)) (λ j h. ap put32 (word_of_marks (map_word es) j h) ∙ put32_mod (map_word es j))
    ∙ chunks_pairs 14 (λ j. put32 (map_word es j))
    ∙ chunks_same 14 (λ i. put32 (map_word es (i + i)) ++ put32 (map_word es (i + i + 1))) (λ i. put32 (entry_at (used 14 es) i).key ++ put32 (entry_at (used 14 es) i).val)
    (λ i h. let e = used_in 14 i es h in rw (map_word_key es i, map_word_val es i, e))

body_of : (p : program.Page) (x : Page) (k : PageKind) → x.entries ≡ used_entries k p.count p.entries → x.marks ≡ used_marks k p.entries
    → page_body k x ≡ entries_bytes (used (pick (has_marks k) 14 p.count) p.entries)
unfolding page_body used_entries used_marks has_marks
body_of p x Free e m = ap entries_bytes e
body_of p x Leaf e m = ap entries_bytes e
body_of p x Index e m = ap entries_bytes e
body_of p x Map e m = ap marks_bytes m ∙ marks_bytes_words p.entries

-- WRITTEN: the bytes of the typed page are its front and the entries that are written.
page_bytes_typed : (p : program.Page) → page_bytes (typed p) ≡ page_front (typed p) ++ entries_bytes (used (written p) p.entries)
unfolding page_bytes written typed
page_bytes_typed p = ap (λ (r : List ℕ). page_front (typed p) ++ r) (body_of p (typed p) p.kind refl refl)

-- The front's first word as the program packs it, from how many entries are in use.
pub front_word_of : (p : program.Page) (k n : ℕ) → k ≡ page_kind_number p.kind → (typed p).entries ≡ used n p.entries
    → k * 1073741824 + p.level % 16 * 67108864 + n % 16 * 4194304 + p.right % 1024 * 4096 ≡ front_word (typed p)
unfolding typed
front_word_of p k n e u = let l = ap length u ∙ tab_length n (entry_at p.entries) in rw (e, l)

-- What the program puts together from the words that it reads.
pub shown_parts : (b : List ℕ) (w h l o : ℕ) (k : PageKind) (es : List Entry) → w ≡ be32 b 0 → k ≡ page_kind (w / 1073741824) → es ≡ tab 14 (read_entry b 16) → h ≡ be32 b 4 → l ≡ be32 b 8 → o ≡ be32 b 12
    → program_page k (w / 67108864 % 16) (w / 4194304 % 16) (w / 4096 % 1024) h l (o / 4194304) es ≡ shown_page b
unfolding shown_page
shown_parts b w h l o k es ew ek ee eh el eo = let k' = ek ∙ ap (λ (n : ℕ). page_kind (n / 1073741824)) ew in rw (k', ew, ee, eh, el, eo)

pub typed_parts : (b : List ℕ) (p : program.Page) → length b ≡ 128 → p ≡ shown_page b → typed p ≡ page_fields b
typed_parts b p h e = ap typed e ∙ typed_shown b h

pub typed_zero : typed (program_page Free 0 0 0 0 0 0 (replicate 14 no_entry)) ≡ zero_page
unfolding typed used_entries used_marks tab
typed_zero = refl

-- The two stores of a page, one after the other.
pub page_written : (b s t : List ℕ) (p : program.Page) (n : ℕ) → length b ≡ 128 → s ≡ patch b 0 (page_front (typed p)) → n ≡ written p
    → t ≡ patch s 16 (entries_bytes (used n p.entries)) → t ≡ page_bytes (typed p)
page_written b s t p n h e k f =
    let w : List ℕ = entries_bytes (used (written p) p.entries) in
    let g : t ≡ patch s 16 w = f ∙ ap (λ (j : ℕ). patch s 16 (entries_bytes (used j p.entries))) k in
    then_patch b s t 0 16 (page_front (typed p)) w e g (omega (arith, page_front_length (typed p))) (omega arith)
    ∙ patch_whole b (page_front (typed p) ++ w)
    (length-append (page_front (typed p)) w ∙ omega (arith, page_front_length (typed p), entries_bytes_length (used (written p) p.entries)))
    ∙ sym (page_bytes_typed p)

-- What a page with entries has, and what the map has.
pub typed_entries : (p : program.Page) → p.kind ≢ Map → (typed p).entries ≡ used p.count p.entries
unfolding typed
typed_entries p h = used_entries_node p.count p.entries p.kind h

pub map_entries : (p : program.Page) → p.kind ≡ Map → (typed p).entries ≡ used 0 p.entries
unfolding typed tab used_entries
map_entries p h = ap (λ k. used_entries k p.count p.entries) h

pub typed_marks : (p : program.Page) → p.kind ≡ Map → (typed p).marks ≡ tab map_bits (map_mark p.entries)
unfolding typed used_marks
typed_marks p h = ap (λ k. used_marks k p.entries) h
