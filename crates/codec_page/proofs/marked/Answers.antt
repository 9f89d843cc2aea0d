-- `marked`: the digit of the word.
use Rattle.codec_page.specs.Typed.{map_mark}
use Rattle.codec_page.proofs.marked.Goals as goal

pub returns : goal.returns
unfolding map_mark
returns c = rw c.map_word.ensures
