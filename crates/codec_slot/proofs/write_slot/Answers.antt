-- `write_slot`: by the header, a record's bytes, zeros, or nothing.
use mathlib.Core.Path.{sym, ◌∙◌, ap}
use Rattle.def_layout.specs.RecordBytes.{slot_bytes}
use Rattle.codec_slot.specs.declared.Header.{Header}
use Rattle.codec_slot.specs.Typed.{typed_by}
use Rattle.codec_slot.specs.Written.{record_written, empty_written, broken_left}
use Rattle.codec_slot.proofs.write_slot.Goals as goal

pub returns-in-Full : goal.returns-in-Full
returns-in-Full c =
    let a = c.args in
    record_written _ _ _ _ _ _ _ _ _ _ _ _ _ a.s.entries c.kind_number.ensures.0 a.area.now _ _ c.requires c.write_words.ensures c.write_entries.ensures
    ∙ ap (λ (h : Header). slot_bytes (typed_by a.area.now h a.s.entries)) (sym c.in-Full.is)

pub returns-in-Empty : goal.returns-in-Empty
returns-in-Empty c =
    let a = c.args in
    empty_written a.area.now _ a.s.entries c.requires c.zero.ensures
    ∙ ap (λ (h : Header). slot_bytes (typed_by a.area.now h a.s.entries)) (sym c.in-Empty.is)

pub returns-in-Broken : goal.returns-in-Broken
returns-in-Broken c =
    let a = c.args in
    broken_left a.area.now a.s.entries
    ∙ ap (λ (h : Header). slot_bytes (typed_by a.area.now h a.s.entries)) (sym c.in-Broken.is)
