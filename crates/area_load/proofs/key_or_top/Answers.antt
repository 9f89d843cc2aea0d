-- `key_or_top`: past the last record, all higher keys.
use native.Mathlib.Omega.{arith}
use Rattle.area_load.specs.Columns.{key_of, top_past}
use Rattle.area_load.proofs.key_or_top.Goals as goal

pub returns-then-i-keys : goal.returns-then-i-keys
returns-then-i-keys c = key_of _ _ _ c.requires.same (omega arith)

pub returns : goal.returns
returns c = top_past _ _ _ c.requires.same (omega arith)
