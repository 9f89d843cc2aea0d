-- What the program's page stands for: the typed page, its bytes and the page that bytes show.
use Rattle.std.proofs.Common.{arith}
use Rattle.std.specs.Prelude.{◌≡◌, ◌≢◌, Bool, true, false, List, [], eqb}
use Rattle.std.proofs.Math.Path.{refl, ap, sym}
use Prim.Native.Nat.{ℕ, ◌-◌, ◌/◌, ◌%◌, ◌^◌, ◌<◌, ◌≤◌, zero, suc}
use Rattle.def_base.specs.Tests.{pick, clash}
use Rattle.def_layout.specs.declared.Entry.{Entry}
use Rattle.def_layout.specs.Entries.{entry_at}
use Rattle.def_layout.specs.Numbers.{be32, tab, read_entry}
use Rattle.def_layout.specs.Pages.{Page, page_kind, map_bits}
use Rattle.def_layout.specs.declared.page.PageKind.{PageKind}
use Rattle.def_layout.specs.declared.page.PageKind.TheVariants.{Free, Leaf, Index, Map}
use Rattle.law_bytes.specs.EntryBytes.{used}
use Rattle.law_bytes.specs.PageKinds.{kind_map}
use Rattle.codec_page.specs.declared.Page as program

-- The entries in use: the first `count`.
unfoldable pub used_entries : PageKind → ℕ → List Entry → List Entry
used_entries Free n es = tab n (entry_at es)
used_entries Leaf n es = tab n (entry_at es)
used_entries Index n es = tab n (entry_at es)
used_entries Map n es = []

-- Word j of the map's 28: two to an entry.
unfoldable pub map_word : List Entry → ℕ → ℕ
map_word es j = pick (eqb (j % 2) 0) (entry_at es (j / 2)).key (entry_at es (j / 2)).val

unfoldable pub map_mark : List Entry → ℕ → Bool
map_mark es p = eqb (map_word es (p / 32) / 2 ^ (31 - p % 32) % 2) 1

unfoldable pub used_marks : PageKind → List Entry → List Bool
used_marks Free es = []
used_marks Leaf es = []
used_marks Index es = []
used_marks Map es = tab map_bits (map_mark es)

-- The typed page.
unfoldable pub typed : program.Page → Page
typed p =
    record {
      kind = p.kind;
      level = p.level;
      right = p.right;
      high = p.high;
      lsn = p.lsn;
      own = p.own;
      entries = used_entries p.kind p.count p.entries;
      marks = used_marks p.kind p.entries;
    }

-- The program's page that 128 bytes show.
unfoldable pub shown_page : List ℕ → program.Page
shown_page b =
    record {
      kind = page_kind (be32 b 0 / 1073741824);
      level = be32 b 0 / 67108864 % 16;
      count = be32 b 0 / 4194304 % 16;
      right = be32 b 0 / 4096 % 1024;
      high = be32 b 4;
      lsn = be32 b 8;
      own = be32 b 12 / 4194304;
      entries = tab 14 (read_entry b 16);
    }

-- The map has marks where other pages have entries.
unfoldable pub has_marks : PageKind → Bool
has_marks Free = false
has_marks Leaf = false
has_marks Index = false
has_marks Map = true

-- How many of the 14 entries are written: those in use, or all of the map's words.
unfoldable pub written : program.Page → ℕ
written p = pick (has_marks p.kind) 14 p.count

pub marks_none : (k : PageKind) → k ≢ Map → has_marks k ≡ false
unfolding has_marks
marks_none Free h = refl
marks_none Leaf h = refl
marks_none Index h = refl
marks_none Map h = absurd (h refl)

-- By the number that bytes have: 0 to 2 have entries, 3 has marks.
pub number_entries : (q : ℕ) → q < 3 → page_kind q ≢ Map
unfolding page_kind has_marks
number_entries zero h e = clash (sym (ap has_marks e))
number_entries (suc zero) h e = clash (sym (ap has_marks e))
number_entries (suc (suc zero)) h e = clash (sym (ap has_marks e))
number_entries (suc (suc (suc q))) h e = absurd (omega arith)

pub number_marks : (q : ℕ) → 3 ≤ q → has_marks (page_kind q) ≡ true
unfolding has_marks
number_marks q h = ap has_marks (kind_map q h)

module _ (n : ℕ) (es : List Entry) where
  pub used_entries_node : (k : PageKind) → k ≢ Map → used_entries k n es ≡ used n es
  unfolding used_entries
  used_entries_node Free h = refl
  used_entries_node Leaf h = refl
  used_entries_node Index h = refl
  used_entries_node Map h = absurd (h refl)

pub used_marks_node : (es : List Entry) (k : PageKind) → k ≢ Map → used_marks k es ≡ []
unfolding used_marks
used_marks_node es Free h = refl
used_marks_node es Leaf h = refl
used_marks_node es Index h = refl
used_marks_node es Map h = absurd (h refl)
