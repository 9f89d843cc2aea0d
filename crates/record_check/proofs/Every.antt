-- A test of every entry by the library's word.
use Rattle.std.specs.Prelude.{◌≡◌, refl, Bool, ◌&&◌, List, [], ◌∷◌}
use Rattle.std.specs.List.{list_all}
use Rattle.std.proofs.Common.{ap}
use Rattle.def_base.specs.Tests.{every}
use Rattle.def_layout.specs.declared.Entry.{Entry}

pub all_every : (f : Entry → Bool) → (es : List Entry) → list_all f es ≡ every f es
unfolding every
all_every f [] = refl
all_every f (e ∷ es) = ap (λ (b : Bool). f e && b) (all_every f es)
