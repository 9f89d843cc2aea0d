-- `pages_ok`: a slot that holds no record names none; of a record, page by page.
use mathlib.Core.Path.{◌≡◌, refl, sym, ◌∙◌, ap}
use mathlib.Core.Bool.{false}
use Rattle.codec_slot.proofs.NotFull.{not_full}
use Rattle.record_check.specs.Kept.{pages_kept}
use Rattle.record_check.specs.Parts.{a_off, b_off, c_rest}
use Rattle.record_check.proofs.pages_ok.Goals as goal

pub returns-in_default : goal.returns-in_default
unfolding pages_kept
returns-in_default c = not_full (λ h. false ≡ pages_kept c.args.n h) c.args.s.header refl refl c.in_default.not-Full

pub returns-then-a-n : goal.returns-then-a-n
returns-then-a-n c =
    let a = c.args in
    sym (ap (pages_kept a.n) c.in-Full.is ∙ a_off a.n _ _ _ _ _ _ _ _ _ _ _ _ c.if-a-n.true)

pub returns-then-b-n : goal.returns-then-b-n
returns-then-b-n c =
    let a = c.args in
    sym (ap (pages_kept a.n) c.in-Full.is ∙ b_off a.n _ _ _ _ _ _ _ _ _ _ _ _ c.if-a-n.false c.if-b-n.true)

pub returns : goal.returns
returns c =
    let a = c.args in
    sym (ap (pages_kept a.n) c.in-Full.is ∙ c_rest a.n _ _ _ _ _ _ _ _ _ _ _ _ c.if-a-n.false c.if-b-n.false)
