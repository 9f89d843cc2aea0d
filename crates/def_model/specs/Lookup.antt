-- Fetch and next, as the tree answers them.
use Rattle.std.specs.Prelude.{ℕ, zero, suc, ◌-◌, Bool, true, false, List, [], ◌∷◌, get_or, leb, ltb, eqb}
use Rattle.std.proofs.Math.Option.{Option, none, some}
use Rattle.def_base.specs.Tests.{pick}
use Rattle.def_layout.specs.declared.Entry.{Entry}
use Rattle.def_layout.specs.Entries.{top, no_entry, seek, look}
use Rattle.def_layout.specs.Pages.{Page, at}

unfoldable pub entry_or : Option Entry → Entry
entry_or none = no_entry
entry_or (some e) = e

-- The entry that leads to k: the one with the least key not below k.
abbrev pub entry_for : ℕ → List Entry → Entry
entry_for k es = entry_or (seek k es)

-- The page covering k: page p, or the page after it.
abbrev pub covering : ℕ → ℕ → List Page → ℕ
covering k p pages = pick (leb k (at pages p).high) p (at pages p).right

-- The leaf covering k, from page p of level l or the page after it.
unfoldable pub leaf_for : ℕ → ℕ → ℕ → List Page → ℕ
leaf_for zero k p pages = covering k p pages
leaf_for (suc l) k p pages = leaf_for l k (entry_for k (at pages (covering k p pages)).entries).val pages

abbrev pub leaf_of : ℕ → List Page → ℕ
leaf_of k pages = leaf_for (at pages 1).level k 1 pages

-- 01: "Fetch answers a key's value."
unfoldable pub fetched : ℕ → List Page → Option ℕ
fetched k pages = look k (at pages (leaf_of k pages)).entries

unfoldable pub first_of : List Entry → Option Entry
first_of [] = none
first_of (e ∷ es) = some e

unfoldable pub or_after : Option Entry → ℕ → List Page → Option Entry
or_after (some e) p pages = some e
or_after none p pages = first_of (at pages (at pages p).right).entries

unfoldable pub next_by : (at_top : Bool) → ℕ → List Page → Option Entry
next_by true k pages = none
next_by false k pages = let p = leaf_of (suc k) pages in or_after (seek (suc k) (at pages p).entries) p pages

-- 01: "Next answers the first record above a key." In the leaf that covers the key after it, or else first in the leaf after that one.
unfoldable pub next_above : ℕ → List Page → Option Entry
next_above k pages = next_by (leb top k) k pages

-- ---- previous

unfoldable pub or_this : Option Entry → Entry → Entry
or_this none e = e
or_this (some f) e = f

-- The last entry whose key is below k: of entries that rise, the one before k's place.
unfoldable pub last_below : ℕ → List Entry → Option Entry
last_below k [] = none
last_below k (e ∷ es) = pick (ltb e.key k) (some (or_this (last_below k es) e)) none

unfoldable pub last_entry : List Entry → Option Entry
last_entry [] = none
last_entry (e ∷ es) = some (or_this (last_entry es) e)

-- 02, U5: "previous", the mirror of next: in the leaf that covers the key before it, or else last in the leaf to the left of that one.
unfoldable pub or_before : Option Entry → ℕ → List Page → List ℕ → Option Entry
or_before (some e) p pages lefts = some e
or_before none p pages lefts = last_entry (at pages (get_or lefts p 0)).entries

unfoldable pub previous_by : (at_zero : Bool) → ℕ → List Page → List ℕ → Option Entry
previous_by true k pages lefts = none
previous_by false k pages lefts = let p = leaf_of (k - 1) pages in or_before (last_below k (at pages p).entries) p pages lefts

unfoldable pub previous_below : ℕ → List Page → List ℕ → Option Entry
previous_below k pages lefts = previous_by (eqb k 0) k pages lefts
