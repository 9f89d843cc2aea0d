-- `load_pages`: after p turns the first p pages are written.
use Prim.Native.Nat.{◌*◌}
use mathlib.Core.Path.{◌≡◌}
use mathlib.Core.List.{◌++◌}
use lib.ListN.{length, drop}
use Rattle.def_model.specs.Loading.{columns}
use Rattle.area_load.specs.Columns.{loaded_page}
use Rattle.area_load.specs.Pages.{written}
use Rattle.area_load.proofs.load_pages.Given as goal

abbrev pub invariant-loop-p : goal.invariant-loop-p
invariant-loop-p l = (length l.wp ≡ length l.initial.wp) × (l.wp ≡ written (loaded_page (columns l.keys l.values)) l.p ++ drop (128 * l.p) l.initial.wp)
