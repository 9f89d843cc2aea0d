-- `abort_in`: reply by reply.
use mathlib.Core.Path.{◌∙◌, ap, refl}
use native.Mathlib.Omega.{arith}
use mathlib.Core.List.{List}
use Rattle.def_layout.specs.declared.Row.{Row}
use Rattle.def_layout.specs.declared.Desk.{Desk}
use Rattle.def_model.specs.Calls.{run_of}
use Rattle.def_model.specs.Sound.{work_open}
use Rattle.theory_desk.specs.Opened.{batch_at}
use Rattle.call_slides.specs.Given.{areas, run_shown, live_not, row_is}
use Rattle.call_finish.specs.Ends.{abort_12, abort_0, batch_sits, batch_fits}
use Rattle.call_finish.proofs.abort_in.Goals as goal

pub returns-in_default : goal.returns-in_default
returns-in_default c budget sp sl g = abort_12 g _ (live_not g _ c.in_default.ensures) budget _ c.refused.ensures

pub relink-requires : goal.relink-requires
relink-requires c = let q = c.requires in (c.abort_run-u.auto.wp ∙ q.0, q.1)

pub returns : goal.returns
returns c budget sp sl g =
    let a = c.args in
    let i = c.in-Some.i in
    let l = c.in-Some.ensures in
    abort_0 g a.b i budget _ l.place l.low l.free c.abort_run-u.result (omega (arith, c.ranges.b.fits))
    (c.abort_run-u.ensures (run_of (areas g)) (batch_at (work_open (areas g)) i) (run_shown g _ c.at-t.ensures) (row_is g i) (batch_sits g a.b i l.place l.low) (batch_fits g)) c.relink.ensures refl
    (c.with_logged.ensures ∙ ap (λ (q : Desk). record { rows = q.rows; logged = c.abort_run-u.result.logged; stored = q.stored }) (c.with_rows-desk.ensures ∙ ap (λ (rs : List Row). record { rows = rs; logged = a.d.logged; stored = a.d.stored }) c.closed.ensures))
