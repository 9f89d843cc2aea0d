-- `relink`: after each leaf the links of the others are left to be worked out.
use mathlib.Core.Path.{◌≡◌}
use mathlib.Core.Bool.{true}
use mathlib.Core.List.{List}
use lib.ListN.{length}
use Prim.Native.Nat.{ℕ, ◌-◌, ◌<◌}
use Rattle.def_layout.specs.Pages.{Page}
use Rattle.def_model.specs.TreeRules.{tree_ok}
use Rattle.record_pages.specs.Pages.{Pages}
use Rattle.tree_links.specs.Linking.{SoFar}
use Rattle.tree_links.proofs.relink.Given as goal

abbrev pub invariant-loop : goal.invariant-loop
invariant-loop l = (length l.pages ≡ length l.initial.pages) × (l.before < 1024) × ((xs : List Page) (ls : List ℕ) → Pages l.n l.initial.pages xs ls → tree_ok xs ≡ true → SoFar l.n l.pages xs ls l.p l.before (l.n - l.counter))
