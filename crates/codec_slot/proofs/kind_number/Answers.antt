-- `kind_number`: a number from 1 to 15 is its own kind's; any other number stands for kind 1.
use borrow.Author.Rules.{rules}
use native.Mathlib.Omega.{arith}
use Rattle.law_bytes.specs.RecordBytes.{number_zero, number_past, number_back}
use mathlib.Core.Path.{sym}
use Rattle.codec_slot.proofs.kind_number.Goals as goal

pub returns-in-1-to-15 : goal.returns-in-1-to-15
returns-in-1-to-15 c = (omega (arith, number_back c.args.k (omega arith) (omega arith)), omega arith, omega arith)

pub returns-in_default : goal.returns-in_default
returns-in_default c = (sym (number_zero _ (omega arith)), search rules, search rules)

pub returns-in_default-2 : goal.returns-in_default-2
returns-in_default-2 c = (sym (number_past _ (omega arith)), search rules, search rules)
