-- `tree_page`: the page of its place, with its own end or the key of its last entry.
use native.Mathlib.Omega.{arith}
use Prim.Native.Nat.{suc, ◌+◌, ◌-◌}
use mathlib.Core.Path.{◌≡◌, ap, ◌∙◌}
use lib.ListN.{length}
use Rattle.def_layout.specs.Entries.{entry_at}
use Rattle.def_layout.specs.Numbers.{tab}
use Rattle.def_layout.specs.Pages.{node_at}
use Rattle.area_load.specs.Counting.{count_most, count_least}
use Rattle.area_load.specs.Pages.{last_page, inner_page}
use Rattle.area_load.proofs.tree_page.Goals as goal

pub place_of-x-requires : goal.place_of-x-requires
place_of-x-requires c = let f = c.requires.0.few in (count_least (length c.args.keys.now) (omega arith), c.requires.1, c.requires.2)

pub entries_of-es-requires : goal.entries_of-es-requires
entries_of-es-requires c = (c.requires.0, c.place_of-x.ensures.within)

pub node-requires : goal.node-requires
node-requires c =
    let n = length c.args.keys.now in
    let f = c.requires.0.few in
    let m = count_least n (omega arith) in
    let k = count_most n n in
    let l = c.place_of-x.ensures.low in
    let w = c.place_of-x.ensures.within.few in
    (omega arith, w, omega arith)

pub returns-then-x : goal.returns-then-x
returns-then-x c =
    let a = c.args in
    c.node.ensures ∙ last_page a.keys.now a.values.now a.p c.place_of-x.result c.entries_of-es.result c.requires.0 (omega arith) c.place_of-x.ensures c.entries_of-es.ensures c.if-x.true

pub overflow_sub-last : goal.overflow_sub-last
overflow_sub-last c = let s = c.place_of-x.ensures.some c.if-x.false in omega arith

pub bounds-es-x : goal.bounds-es-x
bounds-es-x c = let s = c.place_of-x.ensures.some c.if-x.false in let w = c.place_of-x.ensures.within.few in omega arith

pub overflow_cast-p : goal.overflow_cast-p
overflow_cast-p c = let f = c.requires.0.few in omega arith

pub overflow_add-p : goal.overflow_add-p
overflow_add-p c = let f = c.requires.0.few in omega arith

pub node-requires-2 : goal.node-requires-2
node-requires-2 c =
    let n = length c.args.keys.now in
    let f = c.requires.0.few in
    let m = count_least n (omega arith) in
    let k = count_most n n in
    let l = c.place_of-x.ensures.low in
    let w = c.place_of-x.ensures.within.few in
    (omega arith, w, omega arith)

pub returns : goal.returns
returns c =
    let a = c.args in
    let one : a.p + 1 ≡ suc a.p = omega arith in
    c.node-2.ensures ∙ ap (λ r. node_at a.p c.place_of-x.result.height r (entry_at c.entries_of-es.result (c.place_of-x.result.size - 1)).key (tab c.place_of-x.result.size (entry_at c.entries_of-es.result))) one ∙ inner_page a.keys.now a.values.now a.p c.place_of-x.result c.entries_of-es.result c.requires.0 (omega arith) c.place_of-x.ensures c.entries_of-es.ensures c.if-x.false
