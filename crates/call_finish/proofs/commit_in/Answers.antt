-- `commit_in`: reply by reply.
use mathlib.Core.Path.{◌∙◌, ap, refl}
use native.Mathlib.Omega.{arith}
use mathlib.Core.List.{List}
use Rattle.def_layout.specs.declared.Row.{Row}
use Rattle.def_layout.specs.declared.Desk.{Desk}
use Rattle.def_layout.specs.Records.{kind_of}
use Rattle.def_model.specs.Calls.{run_of}
use Rattle.tree_write.specs.declared.Run as run
use Rattle.call_slides.specs.Given.{areas, run_shown, live_not}
use Rattle.call_finish.specs.Ends.{commit_12, commit_0}
use Rattle.call_finish.proofs.commit_in.Goals as goal

pub returns-in_default : goal.returns-in_default
returns-in_default c n wp sp g = commit_12 g _ (live_not g _ c.in_default.ensures) _ _ c.refused.ensures

pub note-u-requires : goal.note-u-requires
unfolding kind_of
note-u-requires c = let p = c.requires in (p.0, refl)

pub store_slots-requires : goal.store_slots-requires
store_slots-requires c =
    let p = c.requires in
    let e = c.note-u.ensures in
    let k = c.note-u.auto.wl in
    let t = ap (λ (v : run.Run). v.logged) c.at-t.ensures in
    let w = e.1 (omega (arith, p.3, t)) in
    (omega (arith, p.2, e.0, t), omega (arith, p.0.1, w), omega (arith, p.1.0, w), omega (arith, p.0.0, k, w))

pub returns : goal.returns
unfolding kind_of
returns c n wp sp g =
    let a = c.args in
    let p = c.requires in
    let l = c.in-Some.ensures in
    let e = c.note-u.ensures in
    let t = ap (λ (v : run.Run). v.logged) c.at-t.ensures in
    commit_0 g a.b c.in-Some.i a.budget _ l.place l.low l.free c.note-u.result (e.2 n wp (run_of (areas g)) (run_shown g _ c.at-t.ensures))
    _ c.store_slots.ensures (omega (arith, p.2, e.0, t)) refl
    (c.with_stored.ensures ∙ ap (λ (q : Desk). record { rows = q.rows; logged = q.logged; stored = c.note-u.result.logged }) c.with_logged.ensures
    ∙ ap (λ (q : Desk). record { rows = q.rows; logged = c.note-u.result.logged; stored = c.note-u.result.logged }) (c.with_rows-desk.ensures ∙ ap (λ (rs : List Row). record { rows = rs; logged = a.d.logged; stored = a.d.stored }) c.closed.ensures))
