-- `map_word`: none, all, or the first of its 32 bits.
use native.Mathlib.Omega.{arith}
use native.Mathlib.Nat.{div-le_self}
use Rattle.area_load.specs.Maps.{word_none, word_all, word_some}
use Rattle.area_load.proofs.map_word.Goals as goal

pub returns-then-used-j : goal.returns-then-used-j
returns-then-used-j c = word_none _ _ (omega arith)

pub returns-then-k-ge32 : goal.returns-then-k-ge32
returns-then-k-ge32 c = word_all _ _ (omega arith)

pub overflow_sub-result : goal.overflow_sub-result
overflow_sub-result c = div-le_self 4294967295 _

pub returns : goal.returns
returns c = word_some _ _ (omega arith)
