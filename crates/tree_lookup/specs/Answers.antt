-- What the program's answers stand for.
use Rattle.std.specs.Prelude.{◌≡◌, ℕ, List}
use Rattle.std.specs.Prelude as program
use Rattle.std.proofs.Math.Option.{Option, none, some}
use Rattle.def_layout.specs.Pages.{Page, at}
use Rattle.codec_page.specs.Typed.{typed}
use Rattle.tree_lookup.specs.declared.Node.{Node}

-- The definitions' option of the program's.
abbrev pub option_of : {A : Type 0} → program.Option A → Option A
option_of program.None = none
option_of (program.Some x) = some x

-- A node is page p of an area.
abbrev pub shows : Node → ℕ → List Page → Type 0
shows r p pages = (r.number ≡ p) × (typed r.page ≡ at pages p)
