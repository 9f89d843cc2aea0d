-- `passed`: the entry stays if the page ended below its key, and goes if not.
use mathlib.Core.Path.{refl}
use Rattle.tree_check.specs.Above.{ends_below, ends_there}
use Rattle.tree_check.proofs.passed.Goals as goal

pub returns-then-high-entry_of : goal.returns-then-high-entry_of
returns-then-high-entry_of c =
    let e = c.entry_of in
    let a = ends_below c.args.c c.args.high c.requires e.result e.ensures c.if-high-entry_of.true in
    (a.0, a.1, refl, refl)

pub returns : goal.returns
returns c =
    let e = c.entry_of in
    let a = ends_there c.args.c c.args.high c.requires e.result e.ensures c.if-high-entry_of.false in
    (a.0, a.1, refl, refl)
