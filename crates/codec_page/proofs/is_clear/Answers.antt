-- `is_clear`: a word's first page, and its word.
use mathlib.Core.Path.{sym, ◌∙◌}
use native.Mathlib.Omega.{arith}
use Rattle.def_base.specs.Tests.{clash, true_eq}
use Rattle.codec_page.proofs.is_clear.Goals as goal

pub returns-then-i-ne0 : goal.returns-then-i-ne0
returns-then-i-ne0 c = λ e. clash (sym e)

pub returns : goal.returns
returns c = λ e. (c.if-i-ne0.false, sym c.map_word.ensures ∙ true_eq _ 0 e)

pub map_word-requires : goal.map_word-requires
map_word-requires c = omega (arith, c.requires)
