-- `is_record`: test by test.
use mathlib.Core.Path.{sym, ◌∙◌}
use Rattle.codec_slot.specs.Shown.{no_kind, spare_kind, spare_pages, spare_right, spare_none}
use Rattle.codec_slot.proofs.is_record.Goals as goal

pub returns-then-w-eq0 : goal.returns-then-w-eq0
returns-then-w-eq0 c =
    let a = c.args in
    sym (no_kind a.b.now a.es _ c.get32-w.ensures c.if-w-eq0.true)

pub returns-then-w-ne0 : goal.returns-then-w-ne0
returns-then-w-ne0 c =
    let a = c.args in
    sym (spare_kind a.b.now a.es _ c.get32-w.ensures c.if-w-eq0.false c.if-w-ne0.true)

pub returns-then-get32-ne0 : goal.returns-then-get32-ne0
returns-then-get32-ne0 c =
    let a = c.args in
    sym (spare_pages a.b.now a.es _ c.get32-w.ensures c.if-w-eq0.false c.if-w-ne0.false _ c.get32.ensures c.if-get32-ne0.true)

pub returns-then-get32-ne0-2 : goal.returns-then-get32-ne0-2
returns-then-get32-ne0-2 c =
    let a = c.args in
    sym (spare_right a.b.now a.es _ c.get32-w.ensures c.if-w-eq0.false c.if-w-ne0.false _ c.get32.ensures c.if-get32-ne0.false _ c.get32-2.ensures c.if-get32-ne0-2.true)

pub returns : goal.returns
returns c =
    let a = c.args in
    c.blank_from.ensures
    ∙ sym (spare_none a.b.now a.es _ c.get32-w.ensures c.if-w-eq0.false c.if-w-ne0.false _ c.get32.ensures c.if-get32-ne0.false _ c.get32-2.ensures c.if-get32-ne0-2.false)
