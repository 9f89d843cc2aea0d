-- `read_slot`: empty, a record, or neither.
use Rattle.codec_slot.specs.Shown.{slot_empty, slot_full, slot_broken}
use Rattle.codec_slot.proofs.read_slot.Goals as goal

pub returns-then-is_zero : goal.returns-then-is_zero
returns-then-is_zero c =
    let a = c.args in
    slot_empty a.b.now _ c.requires c.is_zero.ensures c.if-is_zero.true

pub returns-then-is_record : goal.returns-then-is_record
returns-then-is_record c =
    let a = c.args in
    slot_full a.b.now _ _ _ _ (λ i. (c.shared_slice_known-1.given i).fits) c.requires c.is_zero.ensures c.if-is_zero.false c.read_entries-entries.ensures c.is_record.ensures c.if-is_record.true c.read_header-header.ensures

pub returns : goal.returns
returns c =
    let a = c.args in
    slot_broken a.b.now _ _ _ c.requires c.is_zero.ensures c.if-is_zero.false c.read_entries-entries.ensures c.is_record.ensures c.if-is_record.false
