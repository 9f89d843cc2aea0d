-- A page whose fields fit is read back from its bytes as it was.
use Rattle.std.specs.Prelude.{◌≡◌, refl, ℕ, ◌+◌, ◌-◌, ◌*◌, ◌/◌, ◌%◌, ◌^◌, ◌<◌, ◌≤◌, eqb, Bool, true, false, List, [], ◌++◌, length}
use Rattle.std.proofs.Common.{ap, sym, ◌∙◌, mod-lt, mod-eq_of_lt, arith, lit<, length-append}
use Rattle.def_layout.specs.Entries.{entry_at, no_entry}
use Rattle.def_layout.specs.Numbers.{be32, put32, tab, read_entry, entries_bytes}
use Rattle.def_layout.specs.Pages.{Page, page_kind, page_kind_number, map_bits}
use Rattle.def_layout.specs.declared.page.PageKind.{PageKind}
use Rattle.def_layout.specs.declared.page.PageKind.TheVariants.{Free, Leaf, Index, Map}
use Rattle.def_layout.specs.PageBytes.{page_front, page_body, page_bytes, page_fields, read_entries, read_marks, read_mark, marks_word, marks_bytes, page, block_by, read_block, block_bytes}
use Rattle.law_bytes.specs.Words.{put32_length, be32_skip, be32_put}
use Rattle.law_bytes.specs.Tables.{tab_is}
use Rattle.law_bytes.specs.Chunks.{chunks_length, chunks_at}
use Rattle.law_bytes.specs.Same.{same_refl, same_true}
use Rattle.def_base.specs.Tests.{Case, yes!, no!, case}
use Rattle.def_layout.specs.Numbers.{same_bytes}
use Rattle.law_bytes.specs.EntryBytes.{EntryFits, entries_bytes_length, read_entry_skip, read_entry_written}
use Rattle.law_bytes.specs.PageKinds.{kind_back, kind_lt}
use Rattle.law_bytes.specs.Marks.{mark_of_word, marks_word_lt}

-- The first word of the front.
abbrev pub front_word : Page → ℕ
front_word x = page_kind_number x.kind * 1073741824 + x.level % 16 * 67108864 + length x.entries % 16 * 4194304 + x.right % 1024 * 4096

pub page_front_length : (x : Page) → length (page_front x) ≡ 16
unfolding page_front put32
page_front_length x = refl

marks_bytes_length : (m : List Bool) → length (marks_bytes m) ≡ 112
unfolding marks_bytes
marks_bytes_length m = chunks_length 4 28 (λ j. put32 (marks_word m j)) (λ j. put32_length (marks_word m j))

page_body_length : (k : PageKind) (x : Page) → length (page_body k x) ≡ 112
unfolding page_body
page_body_length Free x = entries_bytes_length x.entries
page_body_length Leaf x = entries_bytes_length x.entries
page_body_length Index x = entries_bytes_length x.entries
page_body_length Map x = marks_bytes_length x.marks

pub page_bytes_length : (x : Page) → length (page_bytes x) ≡ 128
unfolding page_bytes
page_bytes_length x = length-append (page_front x) (page_body x.kind x) ∙ omega (arith, page_front_length x, page_body_length x.kind x)

-- The four words of the front, each at its place.
pub front_word_lt : (x : Page) → front_word x < 2 ^ 32
front_word_lt x =
    omega (arith, kind_lt x.kind, mod-lt x.level {m = 16} (lit< tt), mod-lt (length x.entries) {m = 16} (lit< tt), mod-lt x.right {m = 1024} (lit< tt))

pub word_0 : (x : Page) → be32 (page_bytes x) 0 ≡ front_word x
unfolding page_bytes page_front be32 put32
word_0 x = be32_put (front_word x) [] (front_word_lt x)

pub word_4 : (x : Page) → x.high < 2 ^ 32 → be32 (page_bytes x) 4 ≡ x.high
unfolding page_bytes page_front be32 put32
word_4 x h = be32_put x.high [] h

pub word_8 : (x : Page) → x.lsn < 2 ^ 32 → be32 (page_bytes x) 8 ≡ x.lsn
unfolding page_bytes page_front be32 put32
word_8 x h = be32_put x.lsn [] h

pub word_12 : (x : Page) → be32 (page_bytes x) 12 ≡ x.own % 1024 * 4194304
unfolding page_bytes page_front be32 put32
word_12 x = be32_put (x.own % 1024 * 4194304) [] (omega (arith, mod-lt x.own {m = 1024} (lit< tt)))

-- What fits the fields' bits.
pub record NodeFits (x : Page) : Type 0 where
  pub count : length x.entries ≤ 14
  pub entry : (i : ℕ) → EntryFits (entry_at x.entries i)
  pub marks : x.marks ≡ []

pub record MapFits (x : Page) : Type 0 where
  pub entries : x.entries ≡ []
  pub marks : length x.marks ≡ map_bits

unfoldable pub BodyFits : PageKind → Page → Type 0
BodyFits Free x = NodeFits x
BodyFits Leaf x = NodeFits x
BodyFits Index x = NodeFits x
BodyFits Map x = MapFits x

pub record Fits (x : Page) : Type 0 where
  pub level : x.level < 16
  pub right : x.right < 1024
  pub high : x.high < 2 ^ 32
  pub lsn : x.lsn < 2 ^ 32
  pub own : x.own < 1024
  pub body : BodyFits x.kind x

entries_back : (x : Page) (n : ℕ) → n ≡ length x.entries → NodeFits x → tab n (read_entry (page_front x ++ entries_bytes x.entries) 16) ≡ x.entries
entries_back x n e w =
    tab_is n (read_entry (page_front x ++ entries_bytes x.entries) 16) x.entries no_entry (sym e)
    (λ i h. read_entry_skip (page_front x) (entries_bytes x.entries) 16 i (page_front_length x) ∙ read_entry_written x.entries i (omega (arith, w.count)) (w.entry i))

marks_back : (x : Page) → MapFits x → tab map_bits (read_mark (page_front x ++ marks_bytes x.marks)) ≡ x.marks
unfolding read_mark marks_bytes
marks_back x w =
    tab_is map_bits (read_mark (page_front x ++ marks_bytes x.marks)) x.marks false w.marks
    (λ p h. ap (λ (k : ℕ). eqb (k / 2 ^ (31 - p % 32) % 2) 1) (word (p / 32) (omega arith)) ∙ mark_of_word x.marks p)
  where
    word : (j : ℕ) → j < 28 → be32 (page_front x ++ marks_bytes x.marks) (16 + 4 * j) ≡ marks_word x.marks j
    word j h =
        let f : ℕ → List ℕ = λ j. put32 (marks_word x.marks j) in
        let k = chunks_at 4 28 j 0 f (λ j. put32_length (marks_word x.marks j)) h in
        let z : 4 * j ≡ 4 * j + 0 = omega arith in
        be32_skip (page_front x) (marks_bytes x.marks) 16 (4 * j) (page_front_length x)
        ∙ ap (λ (i : ℕ). be32 (marks_bytes x.marks) i) z
        ∙ k.1 ∙ be32_put (marks_word x.marks j) k.0 (marks_word_lt x.marks j)

-- The count that the front shows.
count_back : (x : Page) → length x.entries ≤ 14 → be32 (page_bytes x) 0 / 4194304 % 16 ≡ length x.entries
count_back x h =
    let e : length x.entries % 16 ≡ length x.entries = mod-eq_of_lt (omega arith) in
    omega (arith, word_0 x, mod-lt x.level {m = 16} (lit< tt), mod-lt x.right {m = 1024} (lit< tt))

page_bytes_by : (x : Page) (k : PageKind) → x.kind ≡ k → page_bytes x ≡ page_front x ++ page_body k x
unfolding page_bytes
page_bytes_by x k e = ap (λ (j : PageKind). page_front x ++ page_body j x) e

-- What the body shows of a page with entries, and of the map.
node_back : (x : Page) → page_bytes x ≡ page_front x ++ entries_bytes x.entries → NodeFits x
    → tab (be32 (page_bytes x) 0 / 4194304 % 16) (read_entry (page_bytes x) 16) ≡ x.entries
node_back x e w =
    let n : ℕ = be32 (page_bytes x) 0 / 4194304 % 16 in
    ap (λ (r : List ℕ). tab n (read_entry r 16)) e ∙ entries_back x n (count_back x w.count) w

body_back : (x : Page) (k : PageKind) → x.kind ≡ k → BodyFits k x → (read_entries k (page_bytes x) ≡ x.entries) × (read_marks k (page_bytes x) ≡ x.marks)
unfolding BodyFits read_entries read_marks page_body
body_back x Free e w = (node_back x (page_bytes_by x Free e) w, sym w.marks)
body_back x Leaf e w = (node_back x (page_bytes_by x Leaf e) w, sym w.marks)
body_back x Index e w = (node_back x (page_bytes_by x Index e) w, sym w.marks)
body_back x Map e w = (sym w.entries, ap (λ (r : List ℕ). tab map_bits (read_mark r)) (page_bytes_by x Map e) ∙ marks_back x w)

-- READ BACK: the fields, and so the page.
pub page_fields_back : (x : Page) → Fits x → page_fields (page_bytes x) ≡ x
unfolding page_fields
page_fields_back x w =
    let h = word_0 x in
    let l : x.level % 16 ≡ x.level = mod-eq_of_lt w.level in
    let r : x.right % 1024 ≡ x.right = mod-eq_of_lt w.right in
    let o : x.own % 1024 ≡ x.own = mod-eq_of_lt w.own in
    let n : length x.entries % 16 < 16 = mod-lt (length x.entries) (lit< tt) in
    let number : be32 (page_bytes x) 0 / 1073741824 ≡ page_kind_number x.kind = omega (arith, w.level, w.right) in
    let kind : page_kind (be32 (page_bytes x) 0 / 1073741824) ≡ x.kind = ap page_kind number ∙ kind_back x.kind in
    let upper : be32 (page_bytes x) 0 / 67108864 ≡ page_kind_number x.kind * 16 + x.level = omega (arith, w.level, w.right) in
    let level : be32 (page_bytes x) 0 / 67108864 % 16 ≡ x.level = omega (arith, w.level) in
    let lower : be32 (page_bytes x) 0 / 4096 ≡ (page_kind_number x.kind * 256 + x.level * 16 + length x.entries % 16) * 1024 + x.right = omega (arith, w.right) in
    let right : be32 (page_bytes x) 0 / 4096 % 1024 ≡ x.right = omega (arith, w.right) in
    let high : be32 (page_bytes x) 4 ≡ x.high = word_4 x w.high in
    let lsn : be32 (page_bytes x) 8 ≡ x.lsn = word_8 x w.lsn in
    let own : be32 (page_bytes x) 12 / 4194304 ≡ x.own = omega (arith, word_12 x) in
    let body = body_back x x.kind refl w.body in
    let entries : read_entries (page_kind (be32 (page_bytes x) 0 / 1073741824)) (page_bytes x) ≡ x.entries = ap (λ (k : PageKind). read_entries k (page_bytes x)) kind ∙ body.0 in
    let marks : read_marks (page_kind (be32 (page_bytes x) 0 / 1073741824)) (page_bytes x) ≡ x.marks = ap (λ (k : PageKind). read_marks k (page_bytes x)) kind ∙ body.1 in
    let e : page_fields (page_bytes x) ≡ record { kind = x.kind; level = x.level; right = x.right; high = x.high; lsn = x.lsn; own = x.own; entries = x.entries; marks = x.marks } = cc in
    e

pub read_block_back : (x : Page) → Fits x → read_block (page_bytes x) ≡ page x
unfolding read_block block_by
read_block_back x w = rw (page_fields_back x w, same_refl (page_bytes x), page_fields_back x w)

-- Whatever stands in a block is written as it was.
pub block_bytes_back : (b : List ℕ) → block_bytes (read_block b) ≡ b
unfolding read_block block_by block_bytes
block_bytes_back b = go (case (same_bytes (page_bytes (page_fields b)) b))
  where
    by : (t : Bool) → same_bytes (page_bytes (page_fields b)) b ≡ t → block_bytes (block_by t b) ≡ b
    by true e = same_true (page_bytes (page_fields b)) b e
    by false e = refl

    go : Case (same_bytes (page_bytes (page_fields b)) b) → block_bytes (block_by (same_bytes (page_bytes (page_fields b)) b) b) ≡ b
    go (yes! e) = rw e (by true e)
    go (no! e) = rw e (by false e)

-- A page that keeps its widths has at most 14 entries.
body_count : (k : PageKind) (y : Page) → BodyFits k y → length y.entries ≤ 14
unfolding BodyFits
body_count Free y b = b.count
body_count Leaf y b = b.count
body_count Index y b = b.count
body_count Map y b = omega (arith, ap length b.entries)

pub fits_count : (y : Page) → Fits y → length y.entries ≤ 14
fits_count y h = body_count y.kind y h.body
