-- `same`: element by element.
use Rattle.std.proofs.Common.{rules, tests}
use Rattle.codec_bytes.proofs.Bytes.{pairwise}
use Rattle.codec_bytes.proofs.same.Goals as goal

pub returns : goal.returns
returns c = let e = pairwise c.args.s.now c.args.t.now in search (rules, tests)
