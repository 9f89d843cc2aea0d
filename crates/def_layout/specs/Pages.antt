-- Pages as typed values, and 01's layout of a page (refusal 3).
use Rattle.std.specs.Prelude.{ℕ, zero, suc, Bool, true, false, not, ◌&&◌, ◌||◌, List, [], ◌∷◌, length, get_or, drop, replicate, leb, ltb, eqb}
use Rattle.def_base.specs.Tests.{pick, any}
use Rattle.def_layout.specs.declared.Entry.{Entry}
use Rattle.def_layout.specs.declared.page.PageKind.{PageKind}
use Rattle.def_layout.specs.declared.page.PageKind.TheVariants.{Free, Leaf, Index, Map}
use Rattle.def_layout.specs.Entries.{ten_bits}
use Rattle.def_layout.specs.Sizes.{room}

-- 01: "kind 2 (0 free, 1 leaf, 2 index, 3 map)".
unfoldable pub page_kind : ℕ → PageKind
page_kind zero = Free
page_kind (suc zero) = Leaf
page_kind (suc (suc zero)) = Index
page_kind (suc (suc (suc n))) = Map

unfoldable pub page_kind_number : PageKind → ℕ
page_kind_number Free = 0
page_kind_number Leaf = 1
page_kind_number Index = 2
page_kind_number Map = 3

unfoldable pub kind_is : PageKind → PageKind → Bool
kind_is k l = eqb (page_kind_number k) (page_kind_number l)

-- A page. Its count is the length of its entries. The map has marks instead of entries: bit p says that page p is used.
-- (`lsn` is 01's page log number; `own` its own page number.)
pub record Page : Type 0 where
  pub kind : PageKind
  pub level : ℕ
  pub right : ℕ
  pub high : ℕ
  pub lsn : ℕ
  pub own : ℕ
  pub entries : List Entry
  pub marks : List Bool

-- A page of a level's kind: level 0 is the leaves'.
abbrev pub kind_at : ℕ → PageKind
kind_at n = pick (eqb n 0) Leaf Index

abbrev pub node_at : ℕ → ℕ → ℕ → ℕ → List Entry → Page
node_at own level right high es = record { kind = kind_at level; level = level; right = right; high = high; lsn = 0; own = own; entries = es; marks = [] }

-- 01: "A free page is zero but for log number and own number; a never used one is all zero."
abbrev pub freed : ℕ → Page
freed own = record { kind = Free; level = 0; right = 0; high = 0; lsn = 0; own = own; entries = []; marks = [] }

abbrev pub zero_page : Page
zero_page = freed 0

-- Page p of an area.
abbrev pub at : List Page → ℕ → Page
at pages p = get_or pages p zero_page

abbrev pub size : Page → ℕ
size x = length x.entries

-- 01: 14 entries of 64 bits: 896 bits in the map's place.
abbrev pub map_bits : ℕ
map_bits = 896

-- The map of a formatted register: it marks itself and the root.
abbrev pub first_marks : List Bool
first_marks = true ∷ true ∷ replicate 894 false

abbrev pub map_page : List Bool → Page
map_page m = record { kind = Map; level = 0; right = 0; high = 0; lsn = 0; own = 0; entries = []; marks = m }

-- ---- the layout of page p among n

-- 01: "own numbers are the pages' places"; of a never used page all is zero.
unfoldable pub own_ok : ℕ → Page → Bool
own_ok p x = eqb x.own p

unfoldable pub never_used : Page → Bool
never_used x = eqb x.own 0 && eqb x.lsn 0

abbrev pub bare : Page → Bool
bare x = eqb x.level 0 && (eqb x.right 0 && (eqb x.high 0 && eqb (length x.entries) 0))

-- 01: "Kind 3 is page 0's alone, a count is at most 14, an index's level is not 0, own numbers are the pages' places"; "its count, level,
-- right link and high key are zero" of the map. Bits of pages that the area does not have are spare.
unfoldable pub layout_by : PageKind → ℕ → ℕ → Page → Bool
layout_by Free n p x = ltb 0 p && (bare x && (own_ok p x || never_used x))
layout_by Leaf n p x = ltb 0 p && (own_ok p x && (eqb x.level 0 && leb (length x.entries) room))
layout_by Index n p x = ltb 0 p && (own_ok p x && (ltb 0 x.level && (leb (length x.entries) room && ten_bits x.entries)))
layout_by Map n p x = eqb p 0 && (own_ok p x && (bare x && not (any (λ b. b) (drop n x.marks))))

unfoldable pub layout : ℕ → ℕ → Page → Bool
layout n p x = layout_by x.kind n p x
