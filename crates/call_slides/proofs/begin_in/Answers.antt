-- `begin_in`: reply by reply.
use borrow.Author.Tests.{not-true, not-false}
use mathlib.Core.Path.{◌∙◌, sym, ap, ap₂, refl}
use Prim.Native.Nat.{ℕ}
use lib.ListN.{set}
use native.Mathlib.Numerals.{add-one}
use native.Mathlib.Omega.{arith}
use Rattle.def_layout.specs.declared.Row.{Row}
use Rattle.def_layout.specs.declared.Desk.{Desk}
use Rattle.def_layout.specs.Records.{kind_of}
use Rattle.def_model.specs.Calls.{run_of}
use Rattle.call_slides.specs.Given.{areas, run_shown}
use Rattle.call_slides.specs.Begin.{begin_full, begin_no_slots, begin_done}
use Rattle.call_slides.proofs.begin_in.Goals as goal

pub returns-then-i-eq8 : goal.returns-then-i-eq8
returns-then-i-eq8 c n budget wp sp sl g = begin_full g (omega (arith, c.if-i-eq8.true, c.used_rows-i.ensures.0)) budget _ c.refused.ensures

pub returns-then-not-begin_has_slots : goal.returns-then-not-begin_has_slots
returns-then-not-begin_has_slots c n budget wp sp sl g =
    let u = c.used_rows-i in
    let q = c.begin_has_slots.ensures in
    begin_no_slots g (omega (arith, c.if-i-eq8.false, u.ensures)) (rw (← u.ensures.0) (sym q ∙ not-true _ c.if-not-begin_has_slots.true-raw)) budget _ c.refused-then-not-begin_has_slots.ensures

pub note-u-requires : goal.note-u-requires
unfolding kind_of
note-u-requires c = let p = c.requires in (p.0, refl)

pub returns : goal.returns
unfolding kind_of
returns c n budget wp sp sl g =
    let a = c.args in
    let u = c.used_rows-i in
    let q = c.begin_has_slots.ensures in
    begin_done g (omega (arith, c.if-i-eq8.false, u.ensures)) budget _ _ c.note-u.result (rw (← u.ensures.0) (sym q ∙ not-false _ c.if-not-begin_has_slots.false-raw)) (add-one a.d.logged)
    (c.note-u.ensures.2 n wp (run_of (areas g)) (run_shown g _ c.at-t.ensures)) refl
    (c.with_logged.ensures ∙ ap (λ (e : Desk). record { rows = e.rows; logged = c.note-u.result.logged; stored = e.stored }) (c.with_row-desk.ensures ∙ ap₂ (λ (i : ℕ) (y : Row). record { rows = set a.d.rows i y; logged = a.d.logged; stored = a.d.stored }) u.ensures.0 c.new_row.ensures))
