-- `map_word`: by the place in the entry.
use borrow.Author.Tests.{eq-eqb, ne_eqb}
use Rattle.codec_page.specs.Typed.{map_word}
use Rattle.codec_page.proofs.map_word.Goals as goal

pub returns-then-j-eq0 : goal.returns-then-j-eq0
unfolding map_word
returns-then-j-eq0 c = rw (eq-eqb _ _ c.if-j-eq0.true)

pub returns : goal.returns
unfolding map_word
returns c = rw (ne_eqb _ _ c.if-j-eq0.false)
