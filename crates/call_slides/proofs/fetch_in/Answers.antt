-- `fetch_in`: reply by reply.
use mathlib.Core.Path.{◌∙◌, sym, refl}
use mathlib.Core.Option.{none, some}
use Rattle.call_slides.specs.Questions.{held_known, fetched_read, fetch_12, fetch_14, fetch_16, fetch_0}
use Rattle.call_slides.proofs.Options.{no_row, one_row}
use Rattle.call_slides.proofs.fetch_in.Goals as goal

pub returns-then-is_none : goal.returns-then-is_none
returns-then-is_none c budget sp sl st g =
    let o = c.open_row in
    fetch_12 g _ _ _ refl (no_row c.args.b c.args.d.rows o.result _ o.ensures c.is_none.ensures c.if-is_none.true) budget _ c.refused.ensures

pub returns-then-held : goal.returns-then-held
returns-then-held c budget sp sl st g =
    let o = c.open_row in
    fetch_14 g _ _ _ refl (one_row c.args.b c.args.d.rows o.result _ o.ensures c.is_none.ensures c.if-is_none.false)
    (sym (c.held.ensures _ _ (held_known g)) ∙ c.if-held.true) budget _ c.refused-then-held.ensures

pub returns-in-Some : goal.returns-in-Some
returns-in-Some c budget sp sl st g =
    let o = c.open_row in
    fetch_0 g _ _ _ refl (one_row c.args.b c.args.d.rows o.result _ o.ensures c.is_none.ensures c.if-is_none.false)
    (sym (c.held.ensures _ _ (held_known g)) ∙ c.if-held.false) _ (fetched_read g _ (some _) c.in-Some.ensures) budget _ (refl, refl)

pub returns-in-None : goal.returns-in-None
returns-in-None c budget sp sl st g =
    let o = c.open_row in
    fetch_16 g _ _ _ refl (one_row c.args.b c.args.d.rows o.result _ o.ensures c.is_none.ensures c.if-is_none.false)
    (sym (c.held.ensures _ _ (held_known g)) ∙ c.if-held.false) (fetched_read g _ none c.in-None.ensures) budget _ c.refused-in-None.ensures
