-- `entry_of`: a row at the leaves, above them the key of the last record below.
use native.Mathlib.Omega.{arith}
use lib.ListN.{length}
use Rattle.area_load.specs.Counting.{count_least}
use Rattle.area_load.specs.Columns.{count_none, row_entry, link_entry}
use Rattle.area_load.proofs.entry_of.Goals as goal

pub bounds-keys-i : goal.bounds-keys-i
bounds-keys-i c = let a = count_none c.args.height (length c.args.keys.now) c.args.i (omega arith) c.requires.1 in omega arith

pub bounds-values-i : goal.bounds-values-i
bounds-values-i c =
    let a = count_none c.args.height (length c.args.keys.now) c.args.i (omega arith) c.requires.1 in
    let s = c.requires.0.same in
    omega arith

pub returns-then-height-eq0 : goal.returns-then-height-eq0
returns-then-height-eq0 c =
    let a = c.args in
    let l = count_none a.height (length a.keys.now) a.i (omega arith) c.requires.1 in
    row_entry a.keys.now a.values.now a.height a.below a.i c.requires.0.same (omega arith) l

pub last_under-requires : goal.last_under-requires
last_under-requires c = let f = c.requires.0.few in (count_least (length c.args.keys.now) (omega arith), c.requires.1)

pub returns : goal.returns
returns c =
    let a = c.args in
    link_entry a.keys.now a.values.now a.height a.below a.i c.last_under.result c.key_or_top.result c.requires.0.same (omega arith) c.last_under.ensures c.key_or_top.ensures
