-- A register built from two columns (02, U3): its tree, level by level, and its pages.
use Rattle.std.specs.Prelude.{ℕ, zero, suc, ◌+◌, ◌-◌, ◌/◌, Bool, true, false, ◌&&◌, List, [], ◌∷◌, ◌++◌, map, length, take, drop, replicate, leb}
use Rattle.def_base.specs.Tests.{pick}
use Rattle.def_layout.specs.declared.Entry.{Entry}
use Rattle.def_layout.specs.Entries.{entry, top}
use Rattle.def_layout.specs.Sizes.{room}
use Rattle.def_layout.specs.Pages.{Page, zero_page, node_at, map_page, map_bits}
use Rattle.def_model.specs.TreeRules.{Node, first_page}

-- ---- columns

-- "two columns, rising keys and their values": each row a record.
unfoldable pub columns : (keys values : List ℕ) → List Entry
columns [] vs = []
columns (k ∷ ks) [] = []
columns (k ∷ ks) (v ∷ vs) = entry k v ∷ columns ks vs

-- Each key is `from` at least, and above the one before.
unfoldable pub keys_rise : (from : ℕ) → List ℕ → Bool
keys_rise from [] = true
keys_rise from (k ∷ ks) = leb from k && keys_rise (suc k) ks

-- ---- pages of entries

-- "leaves take 10 each".
abbrev pub share : ℕ
share = 10

-- "and if the last would hold fewer than 4 it shares evenly with the one before, the left taking the larger half": what is left when a page is
-- due is 11 to 13. (As many turns as there are entries are enough.)
unfoldable pub groups : (turns : ℕ) → List Entry → List (List Entry)
groups zero es = es ∷ []
groups (suc f) es =
    let n = length es in
    pick (leb n share) (es ∷ []) (pick (leb n 13) (take ((n + 1) / 2) es ∷ drop ((n + 1) / 2) es ∷ []) (take share es ∷ groups f (drop share es)))

-- So many pages for n entries, where one is not enough.
abbrev pub group_count : ℕ → ℕ
group_count n = (n + 9) / 10

-- ---- levels

unfoldable pub last_key : List Entry → ℕ
last_key [] = top
last_key (e ∷ []) = e.key
last_key (e ∷ f ∷ es) = last_key (f ∷ es)

-- Pages from number p on. "A page's high key is that of the last record in or below it, top at a level's end".
unfoldable pub group_nodes : ℕ → List (List Entry) → List Node
group_nodes p [] = []
group_nodes p (g ∷ []) = record { page = p; high = top; items = g } ∷ []
group_nodes p (g ∷ h ∷ gs) = record { page = p; high = last_key g; items = g } ∷ group_nodes (suc p) (h ∷ gs)

-- The entries of the level above.
unfoldable pub links : List Node → List Entry
links ns = map (λ n. entry n.high n.page) ns

-- The pages of a tree that holds n entries, map not counted. "Index levels are filled by the same rule until at most 14 links remain for the root."
unfoldable pub tree_count : (turns : ℕ) → ℕ → ℕ
tree_count zero n = 1
tree_count (suc f) n = pick (leb n room) 1 (tree_count f (group_count n) + group_count n)

-- The tree, the root's level first. "Up to 14 records make a root leaf .. The root is page 1, and the other pages are numbered from 2, from the level below
-- the root downwards, left to right": a level's first page comes after all pages of the levels above it.
unfoldable pub load_levels : (turns : ℕ) → List Entry → List (List Node)
load_levels zero es = (record { page = 1; high = top; items = es } ∷ []) ∷ []
load_levels (suc f) es =
    let n = length es in
    let ns = group_nodes (suc (tree_count f (group_count n))) (groups n es) in
    pick (leb n room) ((record { page = 1; high = top; items = es } ∷ []) ∷ []) (load_levels f (links ns) ++ (ns ∷ []))

-- ---- pages

-- "page log numbers are 0".
unfoldable pub level_pages : (level : ℕ) → List Node → List Page
level_pages l [] = []
level_pages l (n ∷ ns) = node_at n.page l (first_page ns 0) n.high n.items ∷ level_pages l ns

unfoldable pub levels_pages : List (List Node) → List Page
levels_pages [] = []
levels_pages (ns ∷ ls) = level_pages (length ls) ns ++ levels_pages ls

-- As many turns as there are records.
abbrev pub loaded_levels : List Entry → List (List Node)
loaded_levels es = load_levels (length es) es

abbrev pub loaded_count : ℕ → ℕ
loaded_count n = tree_count n n

-- THE PAGES of a register of n pages that holds these records: the map, the tree, and free pages.
unfoldable pub loaded_pages : ℕ → List Entry → List Page
loaded_pages n es =
    let used = suc (loaded_count (length es)) in
    map_page (replicate used true ++ replicate (map_bits - used) false) ∷ (levels_pages (loaded_levels es) ++ replicate (n - used) zero_page)
