-- `within`: by the kind's number.
use mathlib.Core.Path.{sym, ◌∙◌}
use native.Mathlib.Omega.{arith}
use Rattle.law_bytes.specs.EntryBytes.{used}
use Rattle.record_check.specs.Parts.{says_begin, says_split, says_side, says_root, says_nothing}
use Rattle.record_check.proofs.within.Goals as goal

pub returns-in-1 : goal.returns-in-1
returns-in-1 c =
    let a = c.args in
    sym (says_begin a.kind a.own a.batch a.a a.key a.level (used a.n a.es) c.in-1.is)

pub returns-in-9 : goal.returns-in-9
returns-in-9 c =
    let a = c.args in
    c.level_fits.ensures ∙ sym (says_split a.kind a.own a.batch a.a a.key a.level (used a.n a.es) c.in-9.is)

pub returns-in-13 : goal.returns-in-13
returns-in-13 c =
    let a = c.args in
    c.on_one_side.ensures ∙ sym (says_side a.kind a.own a.batch a.a a.key a.level (used a.n a.es) c.in-13.is)

pub returns-in-14-to-15 : goal.returns-in-14-to-15
returns-in-14-to-15 c =
    let a = c.args in
    c.at_root.ensures ∙ sym (says_root a.kind a.own a.batch a.a a.key a.level (used a.n a.es) (omega arith) (omega arith))

pub returns-in_default : goal.returns-in_default
returns-in_default c =
    let a = c.args in
    sym (says_nothing a.kind a.own a.batch a.a a.key a.level (used a.n a.es) c.requires.0 (omega arith) (omega arith) (omega arith))

pub returns-in_default-2 : goal.returns-in_default-2
returns-in_default-2 c = absurd (omega arith)
