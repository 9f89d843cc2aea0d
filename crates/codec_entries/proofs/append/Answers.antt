-- `append`: all of the first, then those of the second.
use Rattle.codec_entries.specs.Arrays.{appended}
use Rattle.codec_entries.proofs.append.Goals as goal

pub returns : goal.returns
returns c = let a = c.args in appended a.es a.fs _ a.n a.m c.spliced.ensures
