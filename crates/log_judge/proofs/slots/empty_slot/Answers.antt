-- `empty_slot`: the lent part is all zero.
use native.Mathlib.Nat.{add-sub_cancel_left}
use Rattle.log_judge.specs.Rest.{slot_found}
use Rattle.log_judge.proofs.slots.empty_slot.Goals as goal

pub returns : goal.returns
returns c =
    let a = c.args in
    let q = c.requires in
    slot_found _ a.i a.m a.log.now q.0.0 q.1 (rw (add-sub_cancel_left _ _) at c.is_zero.ensures)
