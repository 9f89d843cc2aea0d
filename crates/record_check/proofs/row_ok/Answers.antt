-- `row_ok`: a slot that holds no record keeps none; of a record, test by test.
use borrow.Author.Rules.{rules}
use mathlib.Core.Path.{◌≡◌, refl, sym, ◌∙◌, ap}
use mathlib.Core.Bool.{false}
use borrow.Author.Tests.{not-true, not-false}
use Rattle.codec_slot.specs.declared.Header.{Header}
use Rattle.codec_slot.proofs.NotFull.{not_full}
use Rattle.record_check.specs.Kept.{row_kept}
use Rattle.record_check.specs.Parts.{batch_off, pages_off, keys_off, count_off, row_rest}
use Rattle.record_check.proofs.row_ok.Goals as goal

pub returns-in_default : goal.returns-in_default
unfolding row_kept
returns-in_default c = not_full (λ h. false ≡ row_kept h c.args.s.entries) c.args.s.header refl refl c.in_default.not-Full

pub returns-then-not-zero_three : goal.returns-then-not-zero_three
returns-then-not-zero_three c =
    let a = c.args in
    let k = c.kind_number-k.ensures in
    sym (ap (λ (h : Header). row_kept h a.s.entries) c.in-Full.is ∙ batch_off _ _ _ _ _ _ _ _ _ _ _ _ a.s.entries _ _ k.0 k.1 k.2 c.carried-row.ensures (sym c.zero_three.ensures ∙ not-true _ c.if-not-zero_three.true-raw))

pub returns-then-not-zero_three-2 : goal.returns-then-not-zero_three-2
returns-then-not-zero_three-2 c =
    let a = c.args in
    let k = c.kind_number-k.ensures in
    sym (ap (λ (h : Header). row_kept h a.s.entries) c.in-Full.is ∙ pages_off _ _ _ _ _ _ _ _ _ _ _ _ a.s.entries _ _ k.0 k.1 k.2 c.carried-row.ensures (sym c.zero_three.ensures ∙ not-false _ c.if-not-zero_three.false-raw) (sym c.zero_three-2.ensures ∙ not-true _ c.if-not-zero_three-2.true-raw))

pub returns-then-not-zero_three-3 : goal.returns-then-not-zero_three-3
returns-then-not-zero_three-3 c =
    let a = c.args in
    let k = c.kind_number-k.ensures in
    sym (ap (λ (h : Header). row_kept h a.s.entries) c.in-Full.is ∙ keys_off _ _ _ _ _ _ _ _ _ _ _ _ a.s.entries _ _ k.0 k.1 k.2 c.carried-row.ensures (sym c.zero_three.ensures ∙ not-false _ c.if-not-zero_three.false-raw) (sym c.zero_three-2.ensures ∙ not-false _ c.if-not-zero_three-2.false-raw) (sym c.zero_three-3.ensures ∙ not-true _ c.if-not-zero_three-3.true-raw))

pub returns-then-not-count_ok : goal.returns-then-not-count_ok
returns-then-not-count_ok c =
    let a = c.args in
    let k = c.kind_number-k.ensures in
    sym (ap (λ (h : Header). row_kept h a.s.entries) c.in-Full.is ∙ count_off _ _ _ _ _ _ _ _ _ _ _ _ a.s.entries _ _ k.0 k.1 k.2 c.carried-row.ensures (sym c.zero_three.ensures ∙ not-false _ c.if-not-zero_three.false-raw) (sym c.zero_three-2.ensures ∙ not-false _ c.if-not-zero_three-2.false-raw) (sym c.zero_three-3.ensures ∙ not-false _ c.if-not-zero_three-3.false-raw) (sym c.count_ok.ensures.0 ∙ not-true _ c.if-not-count_ok.true-raw))

pub within-requires : goal.within-requires
within-requires c = (search rules, search rules, c.count_ok.ensures.1 (not-false _ c.if-not-count_ok.false-raw))

pub returns : goal.returns
returns c =
    let a = c.args in
    let k = c.kind_number-k.ensures in
    c.within.ensures ∙ sym (ap (λ (h : Header). row_kept h a.s.entries) c.in-Full.is ∙ row_rest _ _ _ _ _ _ _ _ _ _ _ _ a.s.entries _ _ k.0 k.1 k.2 c.carried-row.ensures (sym c.zero_three.ensures ∙ not-false _ c.if-not-zero_three.false-raw) (sym c.zero_three-2.ensures ∙ not-false _ c.if-not-zero_three-2.false-raw) (sym c.zero_three-3.ensures ∙ not-false _ c.if-not-zero_three-3.false-raw) (sym c.count_ok.ensures.0 ∙ not-false _ c.if-not-count_ok.false-raw))
