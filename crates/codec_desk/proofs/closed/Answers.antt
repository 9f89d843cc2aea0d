-- `closed`: the row that comes in is not in use.
use Rattle.std.proofs.Common.{arith}
use Rattle.law_bytes.specs.DeskRows.{without}
use Rattle.codec_desk.proofs.closed.Goals as goal

pub returns : goal.returns
unfolding without
returns c = let d = c.default.ensures in grind (arith)
