-- A page's 128 bytes. 01: "kind 2, level 4, count 4, right link 10 (0 none), spare 12; high key 32; page log number 32; own page number 10,
-- spare 22; then 14 entries", or the map's bits instead of entries.
use Rattle.std.specs.Prelude.{ℕ, zero, suc, ◌+◌, ◌-◌, ◌*◌, ◌/◌, ◌%◌, ◌^◌, Bool, true, false, ◌&&◌, List, [], ◌∷◌, ◌++◌, length, take, drop, eqb}
use Rattle.def_base.specs.Tests.{pick}
use Rattle.def_layout.specs.declared.Entry.{Entry}
use Rattle.def_layout.specs.Numbers.{be32, put32, tab, chunks, read_entry, entries_bytes, same_bytes}
use Rattle.def_layout.specs.Pages.{Page, page_kind, page_kind_number, map_bits}
use Rattle.def_layout.specs.declared.page.PageKind.{PageKind}
use Rattle.def_layout.specs.declared.page.PageKind.TheVariants.{Free, Leaf, Index, Map}

-- Each field takes its number's last bits.
unfoldable pub page_front : Page → List ℕ
page_front x =
    put32 (page_kind_number x.kind * 1073741824 + x.level % 16 * 67108864 + length x.entries % 16 * 4194304 + x.right % 1024 * 4096)
    ++ put32 x.high ++ put32 x.lsn ++ put32 (x.own % 1024 * 4194304)

-- 01: "bit p says page p is used", the most significant bit first.
unfoldable pub bits : ℕ → ℕ → List Bool → ℕ
bits zero w m = w
bits (suc n) w [] = bits n (2 * w) []
bits (suc n) w (b ∷ m) = bits n (2 * w + pick b 1 0) m

unfoldable pub marks_word : List Bool → ℕ → ℕ
marks_word m j = bits 32 0 (drop (32 * j) m)

unfoldable pub marks_bytes : List Bool → List ℕ
marks_bytes m = chunks 28 (λ j. put32 (marks_word m j))

unfoldable pub read_mark : List ℕ → ℕ → Bool
read_mark b p = eqb (be32 b (16 + 4 * (p / 32)) / 2 ^ (31 - p % 32) % 2) 1

unfoldable pub page_body : PageKind → Page → List ℕ
page_body Free x = entries_bytes x.entries
page_body Leaf x = entries_bytes x.entries
page_body Index x = entries_bytes x.entries
page_body Map x = marks_bytes x.marks

unfoldable pub page_bytes : Page → List ℕ
page_bytes x = page_front x ++ page_body x.kind x

-- The fields that 128 bytes show.
unfoldable pub read_entries : PageKind → List ℕ → List Entry
read_entries Free b = tab (be32 b 0 / 4194304 % 16) (read_entry b 16)
read_entries Leaf b = tab (be32 b 0 / 4194304 % 16) (read_entry b 16)
read_entries Index b = tab (be32 b 0 / 4194304 % 16) (read_entry b 16)
read_entries Map b = []

unfoldable pub read_marks : PageKind → List ℕ → List Bool
read_marks Free b = []
read_marks Leaf b = []
read_marks Index b = []
read_marks Map b = tab map_bits (read_mark b)

unfoldable pub page_fields : List ℕ → Page
page_fields b =
    let k = page_kind (be32 b 0 / 1073741824) in
    record {
      kind = k;
      level = be32 b 0 / 67108864 % 16;
      right = be32 b 0 / 4096 % 1024;
      high = be32 b 4;
      lsn = be32 b 8;
      own = be32 b 12 / 4194304;
      entries = read_entries k b;
      marks = read_marks k b;
    }

-- What stands in a page's place: a page, or bytes that are not a page's, for a spare bit or an unused entry that is not zero.
pub data Block : Type 0 where
  page : Page → Block
  other : List ℕ → Block

unfoldable pub block_by : (is_page : Bool) → List ℕ → Block
block_by true b = page (page_fields b)
block_by false b = other b

-- 01: "spare bits and unused entries are zero": the bytes are those of the fields that they show.
unfoldable pub read_block : List ℕ → Block
read_block b = block_by (same_bytes (page_bytes (page_fields b)) b) b

-- ---- the left link of a working leaf

-- 02, U5: "Leaves get a left link in the first 10 spare bits after the right link, in working pages only". What a working page's 128 bytes say in these bits, if they
-- are a leaf's; its bytes without it; and bytes that get one. (Numbers that are no bytes are no leaf's.)
unfoldable pub left_by : (leaf : Bool) → List ℕ → ℕ
left_by true b = be32 b 0 / 4 % 1024
left_by false b = 0

unfoldable pub left_in : List ℕ → ℕ
left_in b = left_by (eqb (be32 b 0 / 1073741824) 1 && same_bytes (put32 (be32 b 0)) (take 4 b)) b

unfoldable pub without_left : List ℕ → List ℕ
without_left b = pick (eqb (left_in b) 0) b (put32 (be32 b 0 - 4 * left_in b) ++ drop 4 b)

unfoldable pub with_left : ℕ → List ℕ → List ℕ
with_left l b = pick (eqb l 0) b (put32 (be32 b 0 + 4 * l) ++ drop 4 b)

unfoldable pub block_bytes : Block → List ℕ
block_bytes (page x) = page_bytes x
block_bytes (other b) = b
