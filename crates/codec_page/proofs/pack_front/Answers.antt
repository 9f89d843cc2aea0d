-- `pack_front`: the map's count is zero; and all fields fit a word.
use native.Mathlib.Omega.{arith}
use Rattle.law_bytes.specs.PageKinds.{kind_lt}
use Rattle.codec_page.specs.Shown.{front_word_of}
use Rattle.codec_page.proofs.pack_front.Goals as goal

pub overflow_mul-result : goal.overflow_mul-result
overflow_mul-result c = omega (arith, c.from.ensures, kind_lt c.args.p.kind)

pub overflow_add-result : goal.overflow_add-result
overflow_add-result c = omega (arith, c.from.ensures, kind_lt c.args.p.kind)

pub overflow_add-result-2 : goal.overflow_add-result-2
overflow_add-result-2 c = omega (arith, c.from.ensures, kind_lt c.args.p.kind)

pub overflow_add-result-3 : goal.overflow_add-result-3
overflow_add-result-3 c = omega (arith, c.from.ensures, kind_lt c.args.p.kind)

pub returns : goal.returns
returns c = front_word_of c.args.p _ _ c.from.ensures c.size_of.ensures.0
