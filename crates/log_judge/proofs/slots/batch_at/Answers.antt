-- `batch_at`: neither, or the words of one.
use native.Mathlib.Omega.{arith}
use borrow.Author.Tests.{not-false}
use Rattle.log_judge.specs.Updates.{tells_batch}
use Rattle.log_judge.proofs.slots.batch_at.Goals as goal

pub returns : goal.returns
returns c =
    let a = c.args in
    let u = c.is_batch.ensures (not-false _ c.if-not-is_batch.false-raw) in
    tells_batch a.n a.m a.log.now a.i _ c.told_at.ensures (λ i. (c.shared_slice_known-1.given i).fits) (u.plain a.n (omega (arith, c.if-n-eq0.false))) u.least
