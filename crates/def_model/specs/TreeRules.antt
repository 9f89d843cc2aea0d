-- The tree rules as a test over the pages: a walk level by level, and tests of what it found.
use Rattle.std.specs.Prelude.{ℕ, zero, suc, ◌+◌, ◌-◌, Bool, true, false, ◌&&◌, List, [], ◌∷◌, ◌++◌, length, get_or, take, leb, ltb, eqb}
use Rattle.def_base.specs.Tests.{pick}
use Rattle.def_layout.specs.declared.Entry.{Entry}
use Rattle.def_layout.specs.Entries.{top}
use Rattle.def_layout.specs.Sizes.{room}
use Rattle.def_layout.specs.Pages.{Page, at, kind_is, kind_at}
use Rattle.def_model.specs.Fit.{after}

-- ---- levels

-- A page as a level has it.
pub record Node : Type 0 where
  pub page : ℕ
  pub high : ℕ
  pub items : List Entry

-- The entries of a level, one after another.
unfoldable pub flat : List Node → List Entry
flat [] = []
flat (n ∷ ns) = n.items ++ flat ns

unfoldable pub node_of : List Page → ℕ → Node
node_of pages p = record { page = p; high = (at pages p).high; items = (at pages p).entries }

-- 01: "Each level is a chain by right links". The nodes from page p on; as many steps as there are pages are enough.
unfoldable pub chain : ℕ → List Page → ℕ → List Node
chain zero pages p = []
chain (suc f) pages p = let rest = node_of pages p ∷ chain f pages (at pages p).right in pick (eqb p 0) [] rest

unfoldable pub first_child : List Entry → ℕ
first_child [] = 0
first_child (e ∷ es) = e.val

-- The levels from page p's down to the leaves, "children one level below": each begins with the first entry's child.
unfoldable pub collect : ℕ → List Page → ℕ → List (List Node)
collect zero pages p = chain (length pages) pages p ∷ []
collect (suc l) pages p = chain (length pages) pages p ∷ collect l pages (first_child (at pages p).entries)

abbrev pub levels_of : List Page → List (List Node)
levels_of pages = collect (at pages 1).level pages 1

unfoldable pub bottom : List (List Node) → List Node
bottom [] = []
bottom (l ∷ []) = l
bottom (l ∷ m ∷ ls) = bottom (m ∷ ls)

-- THE RECORDS IN THE LEAVES, from left to right.
unfoldable pub leaves : List (List Node) → List Entry
leaves ls = flat (bottom ls)

unfoldable pub leaf_records : List Page → List Entry
leaf_records pages = leaves (levels_of pages)

-- ---- one page

-- 01: "Entries rise strictly within that". (`from` is the least key allowed: one above the left neighbour's high key.)
unfoldable pub rising : ℕ → List Entry → Bool
rising from [] = true
rising from (e ∷ es) = leb from e.key && rising (suc e.key) es

-- A leaf's last key is at most its high key; 01: "An index page's last entry has its high key."
unfoldable pub ends_ok : Bool → ℕ → ℕ → Bool
ends_ok true a h = leb a (suc h)
ends_ok false a h = eqb a (suc h)

unfoldable pub node_ok : Bool → ℕ → ℕ → Node → Bool
node_ok isleaf least from n =
    leb from n.high && (rising from n.items && (ends_ok isleaf (after from n.items) n.high && (leb (length n.items) room && leb least (length n.items))))

-- 01: "High keys rise strictly; the last is top. A page covers keys above its left neighbour's high key up to its own."
unfoldable pub level_ok : Bool → ℕ → ℕ → List Node → Bool
level_ok isleaf least from [] = eqb from (suc top)
level_ok isleaf least from (n ∷ ns) = node_ok isleaf least from n && level_ok isleaf least (suc n.high) ns

-- ---- one level and the next

-- 01: "An index entry (w, c) stands for child c, and for one page after it if c's high key is below w; that page, up to w, is indirect".
-- (So two indirect pages never adjoin.)
unfoldable pub matches : List Entry → List Node → Bool
matches [] [] = true
matches [] (n ∷ ns) = false
matches (e ∷ es) [] = false
matches (e ∷ es) (n ∷ []) = eqb e.val n.page && (eqb n.high e.key && matches es [])
matches (e ∷ es) (n ∷ m ∷ ns) =
    eqb e.val n.page && pick (ltb n.high e.key) (eqb m.high e.key && matches es ns) (eqb n.high e.key && matches es (m ∷ ns))

unfoldable pub first_page : List Node → ℕ → ℕ
first_page [] next = next
first_page (n ∷ ns) next = n.page

-- The pages are in the area, of the level's kind and level, chained, and marked as used.
unfoldable pub pages_ok : List Page → ℕ → List Node → Bool
pages_ok pages l [] = true
pages_ok pages l (n ∷ ns) =
    ltb 0 n.page && (ltb n.page (length pages) && (kind_is (at pages n.page).kind (kind_at l) && (eqb (at pages n.page).level l
    && (eqb (at pages n.page).right (first_page ns 0) && (get_or (at pages 0).marks n.page false && pages_ok pages l ns)))))

-- 01: "Pages hold 4 to 14 entries".
abbrev pub least : ℕ
least = 4

unfoldable pub below_ok : List Page → List Node → List (List Node) → Bool
below_ok pages upper [] = true
below_ok pages upper (lower ∷ rest) =
    matches (flat upper) lower && (level_ok (eqb (length rest) 0) least 0 lower && (pages_ok pages (length rest) lower && below_ok pages lower rest))

-- ---- the map

-- The pages reached, and the map.
unfoldable pub counted : List (List Node) → ℕ
counted [] = 1
counted (l ∷ ls) = length l + counted ls

unfoldable pub ones : List Bool → ℕ
ones [] = 0
ones (true ∷ m) = suc (ones m)
ones (false ∷ m) = ones m

abbrev pub used_pages : List Page → ℕ
used_pages pages = ones (take (length pages) (at pages 0).marks)

abbrev pub free_pages : List Page → ℕ
free_pages pages = length pages - used_pages pages

-- ---- the whole

-- 01: "the root holds 0 to 14 as a leaf, 1 to 14 as an index. The root may have one right sibling, and then holds at least 4."
unfoldable pub root_least : ℕ → List Node → ℕ
root_least l [] = 15
root_least l (n ∷ []) = pick (eqb l 0) 0 1
root_least l (n ∷ m ∷ []) = 4
root_least l (n ∷ m ∷ o ∷ ns) = 15

-- 01: "A page is marked used exactly when it is the map or is reached, once, from the root": each page reached is marked, and as many are
-- marked as are reached (high keys rise along a level and levels differ, so none is reached twice).
unfoldable pub levels_ok : List Page → List (List Node) → Bool
levels_ok pages [] = false
levels_ok pages (r ∷ rest) =
    level_ok (eqb (length rest) 0) (root_least (length rest) r) 0 r && (pages_ok pages (length rest) r && (below_ok pages r rest
    && eqb (counted (r ∷ rest)) (used_pages pages)))

unfoldable pub walk_ok : List Page → Bool
walk_ok pages = levels_ok pages (levels_of pages)

-- THE TREE RULES. The map has a bit for each page, and marks itself.
unfoldable pub tree_ok : List Page → Bool
tree_ok pages = leb (length pages) (length (at pages 0).marks) && (get_or (at pages 0).marks 0 false && walk_ok pages)
