-- `load_page`: the map, the tree, and what is beyond it.
use native.Mathlib.Omega.{arith}
use Prim.Native.Nat.{suc, ◌+◌}
use mathlib.Core.Path.{◌≡◌, ap, ◌∙◌}
use lib.ListN.{length}
use Rattle.def_model.specs.Loading.{columns, loaded_count}
use Rattle.theory_load.specs.Columns.{columns_length}
use Rattle.area_load.specs.Counting.{count_least}
use Rattle.area_load.specs.Maps.{used_map}
use Rattle.area_load.specs.Pages.{map_loaded, free_loaded}
use Rattle.area_load.proofs.load_page.Goals as goal

pub tree_pages-used-requires : goal.tree_pages-used-requires
tree_pages-used-requires c = let f = c.requires.few in count_least (length c.args.keys.now) (omega arith)

pub overflow_add-used : goal.overflow_add-used
overflow_add-used c = let f = c.requires.few in let e = c.tree_pages-used.ensures in omega arith

pub load_map-requires : goal.load_map-requires
load_map-requires c = let f = c.requires.few in let e = c.tree_pages-used.ensures in omega arith

pub returns-then-p-eq0 : goal.returns-then-p-eq0
returns-then-p-eq0 c =
    let a = c.args in
    let e = c.tree_pages-used.ensures in
    let n = columns_length a.keys.now a.values.now c.requires.same in
    let one : c.tree_pages-used.result + 1 ≡ suc (loaded_count (length (columns a.keys.now a.values.now))) = rw n (omega arith) in
    c.load_map.ensures ∙ ap used_map one ∙ map_loaded (columns a.keys.now a.values.now) a.p (omega arith)

pub tree_page-requires : goal.tree_page-requires
tree_page-requires c = let e = c.tree_pages-used.ensures in (c.requires, omega arith, omega arith)

pub returns-then-p-used : goal.returns-then-p-used
returns-then-p-used c = c.tree_page.ensures

pub returns : goal.returns
returns c =
    let a = c.args in
    let e = c.tree_pages-used.ensures in
    let n = columns_length a.keys.now a.values.now c.requires.same in
    c.zero_page.ensures ∙ free_loaded (columns a.keys.now a.values.now) a.p (rw n (omega arith))
