-- Left links (02, U5): each leaf's is the number of the leaf to its left.
use Rattle.std.specs.Prelude.{ℕ, Bool, true, ◌&&◌, List, [], ◌∷◌, get_or, set, eqb}
use Rattle.def_base.specs.Tests.{pick}
use Rattle.def_layout.specs.Pages.{Page, kind_is}
use Rattle.def_layout.specs.declared.page.PageKind.TheVariants.{Leaf}
use Rattle.def_model.specs.TreeRules.{Node, levels_of, bottom}

abbrev pub left_at : List ℕ → ℕ → ℕ
left_at lefts p = get_or lefts p 0

-- Along the leaves, from left to right: the first has none.
unfoldable pub linked : (before : ℕ) → List Node → List ℕ → Bool
linked before [] lefts = true
linked before (n ∷ ns) lefts = eqb (left_at lefts n.page) before && linked n.page ns lefts

-- "Soundness now includes that left and right links agree." Pages that no chain reaches are not judged.
unfoldable pub lefts_ok : List Page → List ℕ → Bool
lefts_ok pages lefts = linked 0 (bottom (levels_of pages)) lefts

unfoldable pub relink : (before : ℕ) → List Node → List ℕ → List ℕ
relink before [] lefts = lefts
relink before (n ∷ ns) lefts = relink n.page ns (set lefts n.page before)

-- A page that is no leaf has none.
unfoldable pub of_leaves : List Page → List ℕ → List ℕ
of_leaves [] ls = []
of_leaves (x ∷ xs) [] = 0 ∷ of_leaves xs []
of_leaves (x ∷ xs) (l ∷ ls) = pick (kind_is x.kind Leaf) l 0 ∷ of_leaves xs ls

-- The links worked out: at the end of a call, and of a restart, "after redo". Those of leaves that the chain does not reach stay.
unfoldable pub relinked : List Page → List ℕ → List ℕ
relinked pages lefts = relink 0 (bottom (levels_of pages)) (of_leaves pages lefts)
