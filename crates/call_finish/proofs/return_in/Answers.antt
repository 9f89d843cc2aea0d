-- `return_in`: reply by reply.
use mathlib.Core.Path.{refl, ap, sym, ◌∙◌}
use native.Mathlib.Omega.{arith}
use borrow.Author.Tests.{not-true, not-false}
use Rattle.def_layout.specs.declared.Row.{Row}
use Rattle.def_layout.specs.declared.Desk.{Desk}
use Rattle.def_model.specs.Batches.{row_of}
use Rattle.def_model.specs.Calls.{run_of}
use Rattle.def_model.specs.Sound.{work_open}
use Rattle.theory_desk.specs.Opened.{batch_at}
use Rattle.call_slides.specs.Given.{areas, run_shown, row_is}
use Rattle.call_undo.specs.Grown.{grown_none}
use Rattle.call_finish.specs.Ends.{batch_sits, batch_fits}
use Rattle.call_finish.specs.Returns.{return_12, return_20, return_0, of_batch}
use Rattle.call_finish.proofs.return_in.Goals as goal

pub returns-in_default : goal.returns-in_default
returns-in_default c budget sp sl st g = return_12 g _ _ refl _ (omega (arith, c.in_default.ensures)) budget _ c.refused.ensures

pub returns-then-not-is_record_of : goal.returns-then-not-is_record_of
returns-then-not-is_record_of c budget sp sl st g =
    let o = c.in-Some.ensures in
    return_20 g _ _ o.0 _ o.1 (sym (of_batch g _ _ _ c.is_record_of.ensures) ∙ not-true _ c.if-not-is_record_of.true-raw) budget _ c.refused-then-not-is_record_of.ensures

pub relink-requires : goal.relink-requires
relink-requires c = let q = c.requires in (c.undo_above-x.auto.wp ∙ q.0, q.1)

pub returns : goal.returns
unfolding row_of
returns c budget sp sl st g =
    let a = c.args in
    let i = c.in-Some.i in
    let o = c.in-Some.ensures in
    let u = c.undo_above-x in
    let y = batch_at (work_open (areas g)) i in
    return_0 g a.b i o.0 a.mark budget _ o.1 u.result (omega (arith, c.ranges.b.fits)) (omega (arith, c.ranges.mark.fits)) (sym (of_batch g _ _ _ c.is_record_of.ensures) ∙ not-false _ c.if-not-is_record_of.false-raw)
    (u.ensures (run_of (areas g)) (run_of (areas g)).log y.lines (run_shown g _ c.at-t.ensures) (grown_none (run_of (areas g)).log) (batch_fits g) (batch_sits g a.b i o.0 o.1).lines (ap (λ (q : Row). q.undo) (row_is g i)) (ap (λ (q : Row). q.pending) (row_is g i))) c.relink.ensures refl
    (c.with_logged.ensures ∙ ap (λ (q : Desk). record { rows = q.rows; logged = u.result.run.logged; stored = q.stored }) c.with_row.ensures)
