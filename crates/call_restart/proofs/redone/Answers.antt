-- `redone`: the redo and its fit, the tree, and the pending rule.
use mathlib.Core.Path.{subst}
use borrow.Author.Tests.{not-true, not-false}
use Rattle.std.specs.Prelude.{Option, OnSome, ◌≡◌, ℕ}
use Rattle.std.proofs.lemmas.Result.{err_from_is_err_and}
use Rattle.call_restart.specs.Redoing.{redo_broken, redo_whole, tree_broken, rule_broken, all_redone, why_refused}
use Rattle.call_restart.proofs.redone.Goals as goal

pub returns-in_err-count-clause-pages : goal.returns-in_err-count-clause-pages
returns-in_err-count-clause-pages c k =
    let o = c.in_err-count.ensures in
    let why = why_refused _ _ _ o.value o.ok_part in
    let p = err_from_is_err_and c.from_residual.result c.from_residual.ensures.1 in
    rw (p.1, p.2, why) (redo_broken k _ _ c.redo_log.ensures.answer o.ok_part)

pub returns-then-not-tree_ok-clause-pages : goal.returns-then-not-tree_ok-clause-pages
returns-then-not-tree_ok-clause-pages c k =
    tree_broken k (redo_whole k _ _ _ c.redo_log.ensures.answer c.in_ok-count.ensures.ok_part) c.tree_ok.ensures (not-true _ c.if-not-tree_ok.true-raw)

pub returns-then-not-pending_ok-clause-pages : goal.returns-then-not-pending_ok-clause-pages
returns-then-not-pending_ok-clause-pages c k =
    rule_broken k (redo_whole k _ _ _ c.redo_log.ensures.answer c.in_ok-count.ensures.ok_part) c.pending_ok.ensures (not-true _ c.if-not-pending_ok.true-raw)

pub returns-clause-pages : goal.returns-clause-pages
returns-clause-pages c k =
    all_redone k (redo_whole k _ _ _ c.redo_log.ensures.answer c.in_ok-count.ensures.ok_part) c.tree_ok.ensures (not-false _ c.if-not-tree_ok.false-raw) c.pending_ok.ensures (not-false _ c.if-not-pending_ok.false-raw)

pub returns-clause-log : goal.returns-clause-log
returns-clause-log c = subst (λ (o : Option ℕ). OnSome o (c.redo_log.new.to ≡ c.args.sl.now)) c.in_ok-count.ensures.ok_part c.redo_log.ensures.copied
