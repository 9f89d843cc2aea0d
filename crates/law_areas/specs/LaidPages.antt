-- A page that its bytes show and that keeps the layout fits its fields, and its bytes are its own.
use Rattle.std.specs.Prelude.{ℕ, zero, suc, ◌*◌, ◌/◌, ◌%◌, ◌≤◌, ◌≡◌, true, List, [], ◌∷◌, ◌++◌, eqb, ltb, leb}
use Rattle.std.proofs.Math.Path.{refl, ap}
use Rattle.std.proofs.Common.{sym, ◌∙◌, subst, arith, lit<}
use Rattle.std.proofs.Math.Nat.{mod-lt}
use Rattle.std.proofs.Math.Decide.{dec_lt}
use Rattle.std.proofs.Math.ListN.{length}
use Rattle.def_base.specs.Tests.{Case, yes!, no!, case, clash, and_true, true_eq, true_le}
use Rattle.def_layout.specs.declared.Entry.{Entry}
use Rattle.def_layout.specs.Entries.{entry_at, no_entry}
use Rattle.def_layout.specs.Numbers.{be32, put32, tab, chunks, read_entry, entry_bytes, entries_bytes, same_bytes}
use Rattle.def_layout.specs.Pages.{Page, page_kind, map_bits, layout, layout_by, own_ok, bare}
use Rattle.def_layout.specs.declared.page.PageKind.{PageKind}
use Rattle.def_layout.specs.declared.page.PageKind.TheVariants.{Free, Leaf, Index, Map}
use Rattle.def_layout.specs.PageBytes.{page, page_front, page_body, page_bytes, page_fields, marks_word, marks_bytes, read_entries, read_marks, read_mark, block_by, read_block}
use Rattle.def_layout.specs.Sizes.{room}
use Rattle.def_model.specs.Areas.{block_ok}
use Rattle.law_bytes.specs.Words.{Bytes, be32_lt}
use Rattle.law_bytes.specs.Same.{same_true}
use Rattle.law_bytes.specs.Tables.{tab_length, getD_tab, getD_tab_past}
use Rattle.law_bytes.specs.EntryBytes.{EntryFits, read_entry_fits}
use Rattle.law_bytes.specs.PageBytes.{Fits, BodyFits, NodeFits, front_word}

-- ---- what is written are bytes

bytes_none : Bytes []
bytes_none i = lit< tt

pub bytes_append : (a b : List ℕ) → Bytes a → Bytes b → Bytes (a ++ b)
bytes_append [] b u v i = v i
bytes_append (x ∷ a) b u v zero = u 0
bytes_append (x ∷ a) b u v (suc i) = bytes_append a b (λ j. u (suc j)) v i

pub bytes_put : (x : ℕ) → Bytes (put32 x)
unfolding put32
bytes_put x zero = mod-lt (x / 16777216) (lit< tt)
bytes_put x (suc zero) = mod-lt (x / 65536) (lit< tt)
bytes_put x (suc (suc zero)) = mod-lt (x / 256) (lit< tt)
bytes_put x (suc (suc (suc zero))) = mod-lt x (lit< tt)
bytes_put x (suc (suc (suc (suc i)))) = lit< tt

bytes_chunks : (n : ℕ) (f : ℕ → List ℕ) → ((i : ℕ) → Bytes (f i)) → Bytes (chunks n f)
unfolding chunks
bytes_chunks zero f h = bytes_none
bytes_chunks (suc n) f h = bytes_append (chunks n f) (f n) (bytes_chunks n f h) (h n)

pub entries_are_bytes : (es : List Entry) → Bytes (entries_bytes es)
unfolding entries_bytes entry_bytes
entries_are_bytes es =
    bytes_chunks 14 (λ i. entry_bytes (entry_at es i))
    (λ i. bytes_append (put32 (entry_at es i).key) (put32 (entry_at es i).val) (bytes_put (entry_at es i).key) (bytes_put (entry_at es i).val))

body_is_bytes : (k : PageKind) (x : Page) → Bytes (page_body k x)
unfolding page_body marks_bytes
body_is_bytes Free x = entries_are_bytes x.entries
body_is_bytes Leaf x = entries_are_bytes x.entries
body_is_bytes Index x = entries_are_bytes x.entries
body_is_bytes Map x = bytes_chunks 28 (λ j. put32 (marks_word x.marks j)) (λ j. bytes_put (marks_word x.marks j))

pub four_words : (a b c d : ℕ) → Bytes (put32 a ++ put32 b ++ put32 c ++ put32 d)
four_words a b c d =
    bytes_append (put32 a ++ put32 b ++ put32 c) (put32 d)
    (bytes_append (put32 a ++ put32 b) (put32 c) (bytes_append (put32 a) (put32 b) (bytes_put a) (bytes_put b)) (bytes_put c))
    (bytes_put d)

front_is_bytes : (x : Page) → Bytes (page_front x)
unfolding page_front
front_is_bytes x = four_words (front_word x) x.high x.lsn (x.own % 1024 * 4194304)

page_is_bytes : (x : Page) → Bytes (page_bytes x)
unfolding page_bytes
page_is_bytes x = bytes_append (page_front x) (page_body x.kind x) (front_is_bytes x) (body_is_bytes x.kind x)

-- ---- the widths of what bytes show

module _ (b : List ℕ) (w : Bytes b) where
  pub shown_entry : (from n i : ℕ) → EntryFits (entry_at (tab n (read_entry b from)) i)
  shown_entry from n i =
      elim (dec_lt i n) [
        | yes h ↦ subst EntryFits (sym (getD_tab n i (read_entry b from) no_entry h)) (read_entry_fits b from i w)
        | no h ↦ subst EntryFits (sym (getD_tab_past n i (read_entry b from) no_entry (omega arith))) (lit< tt, lit< tt)
      ]

  node_fits : (x : Page) (n : ℕ) → x.entries ≡ tab n (read_entry b 16) → x.marks ≡ [] → length x.entries ≤ 14 → NodeFits x
  node_fits x n e m c =
      record { count = c; entry = λ i. subst (λ (es : List Entry). EntryFits (entry_at es i)) (sym e) (shown_entry 16 n i); marks = m }

  -- The kind's layout bounds the count.
  body_fits : (k : PageKind) (n p : ℕ) (x : Page) → x.entries ≡ read_entries k b → x.marks ≡ read_marks k b → layout_by k n p x ≡ true → BodyFits k x
  unfolding BodyFits layout_by read_entries read_marks
  body_fits Free n p x e m l =
      let f = and_true (ltb 0 p) _ l in
      let g = and_true (bare x) _ f.1 in
      let h = and_true (eqb x.level 0) _ g.0 in
      let i = and_true (eqb x.right 0) _ h.1 in
      let j = and_true (eqb x.high 0) _ i.1 in
      node_fits x (be32 b 0 / 4194304 % 16) e m (omega (arith, true_eq (length x.entries) 0 j.1))
  body_fits Leaf n p x e m l =
      let f = and_true (ltb 0 p) _ l in
      let g = and_true (own_ok p x) _ f.1 in
      let h = and_true (eqb x.level 0) _ g.1 in
      node_fits x (be32 b 0 / 4194304 % 16) e m (true_le (length x.entries) room h.1)
  body_fits Index n p x e m l =
      let f = and_true (ltb 0 p) _ l in
      let g = and_true (own_ok p x) _ f.1 in
      let h = and_true (ltb 0 x.level) _ g.1 in
      let i = and_true (leb (length x.entries) room) _ h.1 in
      node_fits x (be32 b 0 / 4194304 % 16) e m (true_le (length x.entries) room i.0)
  body_fits Map n p x e m l = record { entries = e; marks = ap length m ∙ tab_length map_bits (read_mark b) }

  fields_fit : (n p : ℕ) → layout n p (page_fields b) ≡ true → Fits (page_fields b)
  unfolding layout page_fields
  fields_fit n p l =
      record {
        level = mod-lt (be32 b 0 / 67108864) (lit< tt);
        right = mod-lt (be32 b 0 / 4096) (lit< tt);
        high = be32_lt b 4 w;
        lsn = be32_lt b 8 w;
        own = omega (arith, be32_lt b 12 w);
        body = body_fits (page_kind (be32 b 0 / 1073741824)) n p (page_fields b) refl refl l;
      }

-- ---- one block

-- A block that keeps the layout is the page that its bytes show.
pub record LaidPage (b : List ℕ) : Type 0 where
  pub block : read_block b ≡ page (page_fields b)
  pub bytes : b ≡ page_bytes (page_fields b)
  pub fits : Fits (page_fields b)

pub laid_page : (n p : ℕ) (b : List ℕ) → block_ok n p (read_block b) ≡ true → LaidPage b
unfolding read_block block_by block_ok
laid_page n p b l = go (case (same_bytes (page_bytes (page_fields b)) b)) l
  where
    go : Case (same_bytes (page_bytes (page_fields b)) b) → block_ok n p (block_by (same_bytes (page_bytes (page_fields b)) b) b) ≡ true → LaidPage b
    go (yes! e) h =
        let s : page_bytes (page_fields b) ≡ b = same_true (page_bytes (page_fields b)) b e in
        record {
          block = rw e;
          bytes = sym s;
          fits = fields_fit b (subst Bytes s (page_is_bytes (page_fields b))) n p (rw e at h);
        }
    go (no! e) h = clash (sym (rw e at h))
