-- `load_within`: refusal 1, another one, or the loading.
use borrow.Author.Tests.{not-true, not-false}
use mathlib.Core.Path.{◌∙◌, sym, refl}
use Rattle.def_model.specs.CallNames as calls
use Rattle.def_model.specs.OnBytes.{refused_desk}
use Rattle.area_lengths.specs.Lent.{lengths_numbers}
use Rattle.call_reply.specs.Replies.{lengths_refused}
use Rattle.call_start.specs.Refusals.{load_refused, load_asks, load_0}
use Rattle.call_start.proofs.load_within.Goals as goal

pub returns-then-not-lengths_ok : goal.returns-then-not-lengths_ok
unfolding refused_desk
returns-then-not-lengths_ok c =
    let a = c.args in
    lengths_refused (calls.load a.keys.now a.values.now) _ a.d a.budget _ (sym c.lengths_ok.ensures ∙ not-true _ c.if-not-lengths_ok.true-raw) c.refused.ensures.0 (c.refused.ensures.1 ∙ c.idle_desk-desk.ensures)

pub judged-requires : goal.judged-requires
judged-requires c =
    let a = c.args in
    (lengths_numbers a.wp.now a.sp.now a.wl.now a.sl.now (sym c.lengths_ok.ensures ∙ not-false _ c.if-not-lengths_ok.false-raw)).2

pub returns-in-Err : goal.returns-in-Err
returns-in-Err c =
    let a = c.args in
    let lens = sym c.lengths_ok.ensures ∙ not-false _ c.if-not-lengths_ok.false-raw in
    load_refused a.keys.now a.values.now a.wp.now a.sp.now a.wl.now a.sl.now lens _ c.in-Err.ensures a.d a.budget _ c.refused-in-Err.ensures.0 (c.refused-in-Err.ensures.1 ∙ c.idle_desk-desk.ensures)

pub start_loaded-requires : goal.start_loaded-requires
start_loaded-requires c =
    let a = c.args in
    let lens = sym c.lengths_ok.ensures ∙ not-false _ c.if-not-lengths_ok.false-raw in
    let (cs, few, rise) = load_asks a.keys.now a.values.now a.wp.now a.sp.now a.wl.now a.sl.now lens c.in_default.ensures in
    (lengths_numbers a.wp.now a.sp.now a.wl.now a.sl.now lens, cs, few, rise)

pub returns : goal.returns
returns c =
    let a = c.args in
    let lens = sym c.lengths_ok.ensures ∙ not-false _ c.if-not-lengths_ok.false-raw in
    load_0 a.keys.now a.values.now a.wp.now a.sp.now a.wl.now a.sl.now lens c.in_default.ensures a.d a.budget _ _ c.start_loaded.ensures refl c.idle_desk-desk.ensures
