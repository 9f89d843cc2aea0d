-- `restart_within`: refused by the lengths, or recovered.
use mathlib.Core.Path.{sym, ◌∙◌}
use borrow.Author.Tests.{not-true, not-false}
use Rattle.def_model.specs.OnBytes.{restart, refused_desk}
use Rattle.area_lengths.specs.Lent.{lent, lengths_numbers}
use Rattle.call_reply.specs.Replies.{lengths_refused}
use Rattle.call_restart.specs.Recovered.{refused_so}
use Rattle.call_restart.proofs.restart_within.Goals as goal

pub returns-then-not-lengths_ok : goal.returns-then-not-lengths_ok
unfolding refused_desk
returns-then-not-lengths_ok c =
    let a = c.args in
    lengths_refused restart (lent a.wp.now a.sp.now a.wl.now a.sl.now) a.d a.budget _ (sym c.lengths_ok.ensures ∙ not-true _ c.if-not-lengths_ok.true-raw) c.refused.ensures.0 (c.refused.ensures.1 ∙ c.idle_desk.ensures)

pub recovered-requires : goal.recovered-requires
recovered-requires c =
    let a = c.args in
    let z = lengths_numbers a.wp.now a.sp.now a.wl.now a.sl.now (sym c.lengths_ok.ensures ∙ not-false _ c.if-not-lengths_ok.false-raw) in
    ((z.0, z.2, z.4, z.6), (z.3 ∙ z.0, z.2, z.7 ∙ z.4, z.6))

pub returns-in-Ok : goal.returns-in-Ok
returns-in-Ok c = c.in-Ok.ensures c.args.d (sym c.lengths_ok.ensures ∙ not-false _ c.if-not-lengths_ok.false-raw)

pub returns-in-Err : goal.returns-in-Err
returns-in-Err c =
    let z = c.zeroed.ensures in
    let r = c.recovered in
    let e = c.in-Err.ensures in
    rw e.1 (refused_so _ _ _ e.0 z.0 z.1 r.auto.wp r.auto.wl z.2 z.3 c.args.d (sym c.lengths_ok.ensures ∙ not-false _ c.if-not-lengths_ok.false-raw))
