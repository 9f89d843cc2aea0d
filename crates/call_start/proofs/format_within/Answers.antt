-- `format_within`: refusal 1, or the formatting.
use borrow.Author.Tests.{not-true, not-false}
use mathlib.Core.Path.{◌∙◌, sym, refl}
use Rattle.def_model.specs.CallNames as calls
use Rattle.def_model.specs.OnBytes.{refused_desk}
use Rattle.area_lengths.specs.Lent.{lengths_numbers}
use Rattle.call_reply.specs.Replies.{lengths_refused}
use mathlib.Core.List.{[]}
use Rattle.area_format.specs.Call.{format_result}
use Rattle.call_start.specs.Refusals.{started_0}
use Rattle.call_start.proofs.format_within.Goals as goal

pub returns-then-not-lengths_ok : goal.returns-then-not-lengths_ok
unfolding refused_desk
returns-then-not-lengths_ok c =
    let a = c.args in
    lengths_refused calls.format _ a.d a.budget _ (sym c.lengths_ok.ensures ∙ not-true _ c.if-not-lengths_ok.true-raw) c.refused.ensures.0
    (c.refused.ensures.1 ∙ c.idle_desk-emptied.ensures)

pub start_empty-requires : goal.start_empty-requires
start_empty-requires c =
    let a = c.args in
    lengths_numbers a.wp.now a.sp.now a.wl.now a.sl.now (sym c.lengths_ok.ensures ∙ not-false _ c.if-not-lengths_ok.false-raw)

pub returns : goal.returns
returns c =
    let a = c.args in
    started_0 calls.format [] _ _ a.d a.budget _ (format_result _ a.d (sym c.lengths_ok.ensures ∙ not-false _ c.if-not-lengths_ok.false-raw)) c.start_empty.ensures refl c.idle_desk-emptied.ensures
