-- `previous_in`: reply by reply. The limit is taken by its value, not by the text that gives it.
use borrow.Author.Rules.{rules}
use Prim.Native.Nat.{ℕ}
use mathlib.Core.Path.{◌∙◌, sym, ap, refl}
use Rattle.def_model.specs.Pending.{held_from}
use Rattle.def_model.specs.Sound.{work_open}
use Rattle.call_slides.specs.Given.{areas}
use Rattle.call_slides.specs.Questions.{held_known, previous_read, previous_12, previous_held, previous_told}
use Rattle.call_slides.proofs.Options.{no_row, one_row}
use Rattle.call_slides.proofs.previous_in.Goals as goal

pub returns-then-is_none : goal.returns-then-is_none
returns-then-is_none c budget sp sl st g =
    let o = c.open_row in
    previous_12 g _ _ _ refl (no_row c.args.b c.args.d.rows o.result _ o.ensures c.is_none.ensures c.if-is_none.true) budget _ c.refused.ensures

pub returns-then-held_from : goal.returns-then-held_from
returns-then-held_from c budget sp sl st g =
    let o = c.open_row in
    previous_held g _ _ _ refl (one_row c.args.b c.args.d.rows o.result _ o.ensures c.is_none.ensures c.if-is_none.false)
    c.previous_below-below.result _ (previous_read g _ _ c.previous_below-below.ensures) c.key_or-limit.ensures
    (ap (λ (j : ℕ). held_from c.args.b j c.args.k (work_open (areas g))) (search rules) ∙ sym (c.held_from.ensures _ _ (held_known g)) ∙ c.if-held_from.true) budget _ c.refused-then-held_from.ensures

pub returns : goal.returns
returns c budget sp sl st g =
    let o = c.open_row in
    previous_told g _ _ _ refl (one_row c.args.b c.args.d.rows o.result _ o.ensures c.is_none.ensures c.if-is_none.false)
    c.previous_below-below.result _ (previous_read g _ _ c.previous_below-below.ensures) c.key_or-limit.ensures
    (ap (λ (j : ℕ). held_from c.args.b j c.args.k (work_open (areas g))) (search rules) ∙ sym (c.held_from.ensures _ _ (held_known g)) ∙ c.if-held_from.false) budget _ c.pair_or_absent.ensures.answer c.pair_or_absent.ensures.desk
