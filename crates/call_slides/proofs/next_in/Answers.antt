-- `next_in`: reply by reply.
use mathlib.Core.Path.{◌∙◌, sym, refl}
use Rattle.call_slides.specs.Questions.{held_known, next_read, next_12, next_held, next_told}
use Rattle.call_slides.proofs.Options.{no_row, one_row}
use Rattle.call_slides.proofs.next_in.Goals as goal

pub returns-then-is_none : goal.returns-then-is_none
returns-then-is_none c budget sp sl st g =
    let o = c.open_row in
    next_12 g _ _ _ refl (no_row c.args.b c.args.d.rows o.result _ o.ensures c.is_none.ensures c.if-is_none.true) budget _ c.refused.ensures

pub returns-then-held_between : goal.returns-then-held_between
returns-then-held_between c budget sp sl st g =
    let o = c.open_row in
    next_held g _ _ _ refl (one_row c.args.b c.args.d.rows o.result _ o.ensures c.is_none.ensures c.if-is_none.false)
    c.next_above-above.result _ (next_read g _ _ c.next_above-above.ensures) c.key_or-limit.ensures
    (sym (c.held_between.ensures _ _ (held_known g)) ∙ c.if-held_between.true) budget _ c.refused-then-held_between.ensures

pub returns : goal.returns
returns c budget sp sl st g =
    let o = c.open_row in
    next_told g _ _ _ refl (one_row c.args.b c.args.d.rows o.result _ o.ensures c.is_none.ensures c.if-is_none.false)
    c.next_above-above.result _ (next_read g _ _ c.next_above-above.ensures) c.key_or-limit.ensures
    (sym (c.held_between.ensures _ _ (held_known g)) ∙ c.if-held_between.false) budget _ c.pair_or_absent.ensures.answer c.pair_or_absent.ensures.desk
