-- `judged`: the first refusal that is met.
use borrow.Author.Tests.{not-true, not-false}
use native.Mathlib.Omega.{arith}
use mathlib.Core.Path.{sym, ◌∙◌}
use Rattle.call_start.specs.Column.{any_listed}
use Rattle.call_start.specs.Refusals.{judge_8, judge_7, judge_9, judge_18, judge_0}
use Rattle.call_start.proofs.judged.Goals as goal

pub returns-then-keys-values : goal.returns-then-keys-values
returns-then-keys-values c =
    let a = c.args in
    judge_8 a.keys.now a.values.now a.pages (λ e. omega arith)

pub returns-then-contains : goal.returns-then-contains
returns-then-contains c =
    let a = c.args in
    judge_7 a.keys.now a.values.now a.pages (omega arith) (sym c.if-contains.true ∙ c.contains.ensures.value ∙ any_listed _ a.keys.now)

pub returns-then-not-rising : goal.returns-then-not-rising
returns-then-not-rising c =
    let a = c.args in
    judge_9 a.keys.now a.values.now a.pages (omega arith) (sym c.if-contains.false ∙ c.contains.ensures.value ∙ any_listed _ a.keys.now) (sym (not-true _ c.if-not-rising.true-raw) ∙ c.rising.ensures)

pub returns-then-not-tree_fits : goal.returns-then-not-tree_fits
returns-then-not-tree_fits c =
    let a = c.args in
    judge_18 a.keys.now a.values.now a.pages (omega arith) (sym c.if-contains.false ∙ c.contains.ensures.value ∙ any_listed _ a.keys.now) (sym (not-false _ c.if-not-rising.false-raw) ∙ c.rising.ensures)
    (sym (not-true _ c.if-not-tree_fits.true-raw) ∙ c.tree_fits.ensures)

pub returns : goal.returns
returns c =
    let a = c.args in
    judge_0 a.keys.now a.values.now a.pages (omega arith) (sym c.if-contains.false ∙ c.contains.ensures.value ∙ any_listed _ a.keys.now) (sym (not-false _ c.if-not-rising.false-raw) ∙ c.rising.ensures)
    (sym (not-false _ c.if-not-tree_fits.false-raw) ∙ c.tree_fits.ensures)
