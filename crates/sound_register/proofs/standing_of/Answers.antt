-- `standing_of`: the parts one after the other, each with what it leaves if it fails.
use mathlib.Core.Path.{sym, ◌∙◌}
use borrow.Author.Tests.{not-true, not-false}
use Rattle.sound_register.specs.Judged.{pages_broken, log_broken, desk_other, numbers_high, stored_other, tree_broken, counts_low, reserves_short, rule_broken, all_kept}
use Rattle.sound_register.proofs.standing_of.Goals as goal

pub returns-then-not-layouts_ok : goal.returns-then-not-layouts_ok
returns-then-not-layouts_ok c =
    let a = c.args in
    let q = c.requires in
    pages_broken a.n a.m a.wp.now a.wl.now a.sl.now a.d q.0.0 q.0.2 q.1.0 c.layouts_ok.ensures (not-true _ c.if-not-layouts_ok.true-raw)

pub returns-in_err-j : goal.returns-in_err-j
returns-in_err-j c =
    let a = c.args in
    let q = c.requires in
    rw c.from_residual.ensures (log_broken a.n a.m a.wp.now a.wl.now a.sl.now a.d q.0.0 q.0.2 q.1.0 c.in_err-j.ensures)

pub returns-then-not-desk_is : goal.returns-then-not-desk_is
returns-then-not-desk_is c =
    let a = c.args in
    let q = c.requires in
    desk_other a.n a.m a.wp.now a.wl.now a.sl.now a.d q.0.0 q.0.2 q.1.0 (sym c.layouts_ok.ensures ∙ not-false _ c.if-not-layouts_ok.false-raw) _ c.in_ok-j.ensures (not-true _ c.if-not-desk_is.true-raw) c.desk_is.ensures

pub returns-then-not-numbers_ok : goal.returns-then-not-numbers_ok
returns-then-not-numbers_ok c =
    let a = c.args in
    let q = c.requires in
    numbers_high a.n a.m a.wp.now a.wl.now a.sl.now a.d q.0.0 q.0.2 q.1.0 (sym c.layouts_ok.ensures ∙ not-false _ c.if-not-layouts_ok.false-raw) _ c.in_ok-j.ensures (not-true _ c.if-not-numbers_ok.true-raw) c.numbers_ok.ensures

pub returns-then-not-stored_ok : goal.returns-then-not-stored_ok
returns-then-not-stored_ok c =
    let a = c.args in
    let q = c.requires in
    stored_other a.n a.m a.wp.now a.wl.now a.sl.now a.d q.0.0 q.0.2 q.1.0 (sym c.layouts_ok.ensures ∙ not-false _ c.if-not-layouts_ok.false-raw) _ c.in_ok-j.ensures (not-true _ c.if-not-stored_ok.true-raw) c.stored_ok.ensures

pub returns-then-not-linked_ok : goal.returns-then-not-linked_ok
returns-then-not-linked_ok c =
    let a = c.args in
    let q = c.requires in
    tree_broken a.n a.m a.wp.now a.wl.now a.sl.now a.d q.0.0 q.0.2 q.1.0 (sym c.layouts_ok.ensures ∙ not-false _ c.if-not-layouts_ok.false-raw) _ c.in_ok-j.ensures (not-true _ c.if-not-linked_ok.true-raw) c.linked_ok.ensures

pub reserved-requires : goal.reserved-requires
reserved-requires c =
    let a = c.args in
    let q = c.requires in
    let k = counts_low a.n a.m a.wp.now a.wl.now a.sl.now a.d q.0.0 q.0.2 q.1.0 (sym c.layouts_ok.ensures ∙ not-false _ c.if-not-layouts_ok.false-raw) _ c.in_ok-j.ensures c.desk_is.ensures (not-false _ c.if-not-desk_is.false-raw) q.0.3 in
    ((q.0.0, q.0.1), k.0, k.1, k.2)

pub returns-in_err-s : goal.returns-in_err-s
returns-in_err-s c =
    let a = c.args in
    let q = c.requires in
    rw c.from_residual-in_err-s.ensures (reserves_short a.n a.m a.wp.now a.wl.now a.sl.now a.d q.0.0 q.0.2 q.1.0 (sym c.layouts_ok.ensures ∙ not-false _ c.if-not-layouts_ok.false-raw) _ c.in_ok-j.ensures c.desk_is.ensures (not-false _ c.if-not-desk_is.false-raw) c.in_ok-j.j.batches.marked c.in_err-s.ensures)

pub pending_ok-requires : goal.pending_ok-requires
pending_ok-requires c =
    let q = c.requires in
    q.0

pub returns-then-not-pending_ok : goal.returns-then-not-pending_ok
returns-then-not-pending_ok c =
    let a = c.args in
    let q = c.requires in
    rule_broken a.n a.m a.wp.now a.wl.now a.sl.now a.d q.0.0 q.0.2 q.1.0 (sym c.layouts_ok.ensures ∙ not-false _ c.if-not-layouts_ok.false-raw) _ c.in_ok-j.ensures c.desk_is.ensures (not-false _ c.if-not-desk_is.false-raw) c.pending_ok.ensures (not-true _ c.if-not-pending_ok.true-raw)

pub returns : goal.returns
returns c =
    let a = c.args in
    let q = c.requires in
    all_kept a.n a.m a.wp.now a.wl.now a.sl.now a.d q.0.0 q.0.2 q.1.0 (sym c.layouts_ok.ensures ∙ not-false _ c.if-not-layouts_ok.false-raw) _ c.in_ok-j.ensures c.desk_is.ensures (not-false _ c.if-not-desk_is.false-raw) (λ i. (c.shared_slice_known-2-1.given i).fits) _ c.in_ok-s.ensures c.numbers_ok.ensures (not-false _ c.if-not-numbers_ok.false-raw) c.stored_ok.ensures (not-false _ c.if-not-stored_ok.false-raw) c.linked_ok.ensures (not-false _ c.if-not-linked_ok.false-raw) c.pending_ok.ensures (not-false _ c.if-not-pending_ok.false-raw)
