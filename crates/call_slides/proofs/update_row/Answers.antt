-- `update_row`: check by check.
use borrow.Author.Tests.{not-true, not-false}
use mathlib.Core.Path.{◌∙◌, sym}
use Rattle.std.proofs.lemmas.Result.{err_from_is_err_and}
use Rattle.call_slides.specs.Given.{live_not, live_is}
use Rattle.call_slides.specs.Questions.{held_known}
use Rattle.call_slides.specs.Changes.{stop_12, stop_14, stop_key, stop_17, stop_18, no_stop}
use Rattle.call_slides.proofs.Options.{live_there, live_none, why_refused}
use Rattle.call_slides.proofs.update_row.Goals as goal

pub returns-in_err-row-clause-bars : goal.returns-in_err-row-clause-bars
returns-in_err-row-clause-bars c n wp sp sl g =
    let a = c.args in
    let o = c.in_err-row.ensures in
    let none = live_none a.d.rows a.st.marked a.b _ c.live_row.ensures o.ok_part in
    let why = why_refused _ _ _ o.value o.ok_part in
    let p = err_from_is_err_and c.from_residual.result c.from_residual.ensures.1 in
    rw (p.1, p.2, why) (stop_12 g a.b a.k a.wrong a.says (live_not g a.b none))

pub returns-then-held-clause-bars : goal.returns-then-held-clause-bars
returns-then-held-clause-bars c n wp sp sl g =
    let a = c.args in
    let l = live_there a.d.rows a.st.marked a.b _ _ c.live_row.ensures c.in_ok-row.ensures.ok_part in
    stop_14 g _ _ _ _ (live_is g _ _ l) (sym (c.held.ensures _ _ (held_known g)) ∙ c.if-held.true)

pub returns-then-wrong-clause-bars : goal.returns-then-wrong-clause-bars
returns-then-wrong-clause-bars c n wp sp sl g =
    let a = c.args in
    let l = live_there a.d.rows a.st.marked a.b _ _ c.live_row.ensures c.in_ok-row.ensures.ok_part in
    stop_key g _ _ _ _ (live_is g _ _ l) (sym (c.held.ensures _ _ (held_known g)) ∙ c.if-held.false) c.if-wrong.true

pub returns-then-not-update_has_slots-clause-bars : goal.returns-then-not-update_has_slots-clause-bars
returns-then-not-update_has_slots-clause-bars c n wp sp sl g =
    let a = c.args in
    let l = live_there a.d.rows a.st.marked a.b _ _ c.live_row.ensures c.in_ok-row.ensures.ok_part in
    stop_17 g _ _ _ _ (live_is g _ _ l) (sym (c.held.ensures _ _ (held_known g)) ∙ c.if-held.false) c.if-wrong.false _ c.used_rows-open.ensures.0 (sym c.update_has_slots.ensures ∙ not-true _ c.if-not-update_has_slots.true-raw)

pub returns-then-not-update_has_pages-clause-bars : goal.returns-then-not-update_has_pages-clause-bars
returns-then-not-update_has_pages-clause-bars c n wp sp sl g =
    let a = c.args in
    let l = live_there a.d.rows a.st.marked a.b _ _ c.live_row.ensures c.in_ok-row.ensures.ok_part in
    stop_18 g _ _ _ _ (live_is g _ _ l) (sym (c.held.ensures _ _ (held_known g)) ∙ c.if-held.false) c.if-wrong.false _ c.used_rows-open.ensures.0 (sym c.update_has_slots.ensures ∙ not-false _ c.if-not-update_has_slots.false-raw) (sym c.update_has_pages.ensures ∙ not-true _ c.if-not-update_has_pages.true-raw)

pub returns-clause-bars : goal.returns-clause-bars
returns-clause-bars c n wp sp sl g =
    let a = c.args in
    let l = live_there a.d.rows a.st.marked a.b _ _ c.live_row.ensures c.in_ok-row.ensures.ok_part in
    no_stop g _ _ _ _ (live_is g _ _ l) (sym (c.held.ensures _ _ (held_known g)) ∙ c.if-held.false) c.if-wrong.false _ c.used_rows-open.ensures.0 (sym c.update_has_slots.ensures ∙ not-false _ c.if-not-update_has_slots.false-raw) (sym c.update_has_pages.ensures ∙ not-false _ c.if-not-update_has_pages.false-raw) _ l.place l.low
