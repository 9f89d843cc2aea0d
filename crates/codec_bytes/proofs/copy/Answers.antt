-- `copy`: after i turns the first i bytes are the source's and the rest is as it was.
use Rattle.std.proofs.Common.{arith}
use Rattle.law_bytes.specs.Patch.{copy_step, copy_end}
use Rattle.codec_bytes.proofs.copy.Goals as goal

pub loop-i-preserved : goal.loop-i-preserved
loop-i-preserved c =
    let l = c.loop-i in
    copy_step c.args.src.now c.args.dst.now l.dst l.i (omega arith) (omega arith) l.invariant

pub returns : goal.returns
returns c =
    let l = c.loop-i in
    copy_end c.args.src.now c.args.dst.now l.dst l.i (omega arith) (omega arith) l.invariant
