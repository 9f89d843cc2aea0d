-- `write_record`: the slot's part is patched with the record's bytes.
use Rattle.codec_slot.specs.Typed.{typed_by}
use Rattle.def_layout.specs.RecordBytes.{slot_bytes}
use Rattle.tree_write.specs.Shows.{slot_record}
use Rattle.tree_write.proofs.write_record.Goals as goal

pub returns : goal.returns
unfolding typed_by slot_bytes
returns c = let a = c.args in slot_record a.i _ _ _ c.write_at.ensures
