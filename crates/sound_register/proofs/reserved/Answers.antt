-- `reserved`: the four numbers are those that the desk and the pages say.
use mathlib.Core.Path.{refl}
use borrow.Author.Tests.{not-true, not-false}
use Rattle.law_bytes.specs.PageAreas.{pages_of}
use Rattle.sound_register.specs.Reserved.{reserves_broken, reserves_kept}
use Rattle.sound_register.proofs.reserved.Goals as goal

pub returns-then-not-reserves_ok : goal.returns-then-not-reserves_ok
returns-then-not-reserves_ok c =
    let a = c.args in
    reserves_broken a.m (pages_of a.n a.wp.now) a.d a.marked _ _ _ _ _ c.reserves_ok.ensures refl c.free_pages-free.ensures.0 c.pending_total-pending.ensures c.used_rows-batches.ensures.0 (not-true _ c.if-not-reserves_ok.true-raw)

pub returns : goal.returns
returns c =
    let a = c.args in
    reserves_kept a.m (pages_of a.n a.wp.now) a.d a.marked _ _ _ _ _ c.reserves_ok.ensures refl c.free_pages-free.ensures.0 c.pending_total-pending.ensures c.used_rows-batches.ensures.0 (not-false _ c.if-not-reserves_ok.false-raw)
