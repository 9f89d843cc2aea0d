-- `entries_of`: after i turns the first i entries are there.
use borrow.Author.Rules.{rules}
use native.Mathlib.Omega.{arith}
use Prim.Native.Nat.{◌+◌}
use mathlib.Core.Path.{◌≡◌, ap, ◌∙◌}
use mathlib.Core.List.{◌++◌}
use lib.ListN.{drop, length, replicate}
use Rattle.def_layout.specs.Entries.{no_entry}
use Rattle.def_layout.specs.Numbers.{tab}
use Rattle.def_model.specs.Loading.{columns}
use Rattle.law_bytes.specs.Tables.{tab_none, tab_step}
use Rattle.theory_load.specs.Rungs.{level_entry}
use Rattle.area_load.specs.Counting.{count_least}
use Rattle.area_load.specs.Under.{count_few}
use Rattle.area_load.specs.Columns.{filled}
use Rattle.area_load.proofs.entries_of.Goals as goal

pub loop-i-init : goal.loop-i-init
loop-i-init c = (search rules, tab_none _ _)

pub overflow_add-x : goal.overflow_add-x
overflow_add-x c =
    let a = c.args in
    let p = c.requires in
    let f = p.0.few in
    let i = p.1.inside in
    let k = count_few a.x.height (length a.keys.now) in
    let m = count_least (length a.keys.now) (omega arith) in
    omega arith

pub entry_of-requires : goal.entry_of-requires
entry_of-requires c =
    let a = c.args in
    let p = c.requires in
    let f = p.0.few in
    let w = p.1.wide in
    let i = p.1.inside in
    let k = count_few a.x.height (length a.keys.now) in
    let m = count_least (length a.keys.now) (omega arith) in
    (p.0, omega arith, omega arith)

pub loop-i-preserved : goal.loop-i-preserved
loop-i-preserved c =
    let l = c.loop-i in
    let f = c.requires.1.few in
    (omega arith, tab_step l.i _ _ _ _ (omega arith) l.invariant.1 c.entry_of.ensures)

pub returns : goal.returns
returns c =
    let l = c.loop-i in
    let f = c.requires.1.few in
    let e : l.i ≡ c.args.x.size = omega arith in
    filled c.args.x.size _ (replicate 14 no_entry) _ (omega arith) (l.invariant.1 ∙ ap (λ k. tab k (λ j. level_entry (columns c.args.keys.now c.args.values.now) c.args.x.height c.args.x.below (c.args.x.from + j)) ++ drop k (replicate 14 no_entry)) e)
