-- `page_ok`: bytes that are not their fields' keep nothing; of the others the layout is tested, unless they are all zero.
use borrow.Author.Tests.{not-true, not-false}
use mathlib.Core.Path.{sym, ◌∙◌, ap}
use Prim.Native.Nat.{◌%◌, ℕ}
use mathlib.Core.List.{List}
use Rattle.def_base.specs.Tests.{eq_true, true_eq, clash}
use Rattle.def_layout.specs.Pages.{layout}
use Rattle.def_layout.specs.PageBytes.{read_block}
use Rattle.def_model.specs.Areas.{block_ok}
use Rattle.law_bytes.specs.Words.{Bytes}
use Rattle.law_bytes.specs.PageAreas.{judged}
use Rattle.law_bytes.specs.LeftFields.{alike_fields, alike_own}
use Rattle.codec_page.specs.Judged.{unused_zero, keeps_other, reads_as_page, size_breaks, spare_0_breaks, spare_12_breaks, unused_breaks}
use Rattle.codec_page.specs.Layouts.{keeps_page}
use Rattle.codec_page.specs.Working.{spare_zero, judged_alike, judged_length, judged_shown, judged_none, judged_bytes, spare_told}
use Rattle.codec_page.proofs.page_ok.Goals as goal

pub returns-then-b-ne-PAGE_SIZE : goal.returns-then-b-ne-PAGE_SIZE
returns-then-b-ne-PAGE_SIZE c =
    let a = c.args in
    sym (keeps_other a.n a.p (judged a.working a.b.now) (size_breaks (judged a.working a.b.now) (λ e. c.if-b-ne-PAGE_SIZE.true (sym (judged_length a.working a.b.now) ∙ e))))

pub returns-then-is_never_used : goal.returns-then-is_never_used
returns-then-is_never_used c =
    let a = c.args in
    let e = c.is_never_used.ensures c.if-is_never_used.true in
    sym (ap (λ (x : List ℕ). block_ok a.n a.p (read_block x)) (judged_none a.working a.b.now e.0) ∙ e.1 a.n)

pub returns-then-not-is_spare_zero : goal.returns-then-not-is_spare_zero
returns-then-not-is_spare_zero c =
    let a = c.args in
    let b = a.b.now in
    let t = a.working in
    let told = sym (spare_told b (λ i. (c.shared_slice_known-1.given i).fits) c.if-b-ne-PAGE_SIZE.false t) ∙ ap (spare_zero t) (sym c.get32.ensures) ∙ sym c.is_spare_zero.ensures ∙ not-true _ c.if-not-is_spare_zero.true-raw in
    sym (keeps_other a.n a.p (judged t b) (spare_0_breaks (judged t b) (λ e. clash (sym (eq_true _ 0 e) ∙ told))))

pub returns-then-get32-ne0 : goal.returns-then-get32-ne0
returns-then-get32-ne0 c =
    let a = c.args in
    let b = a.b.now in
    let t = a.working in
    sym (keeps_other a.n a.p (judged t b) (spare_12_breaks (judged t b) (λ e. c.if-get32-ne0.true (ap (λ (x : ℕ). x % 4194304) (c.get32-2.ensures ∙ alike_own b (judged t b) (judged_alike t b)) ∙ e))))

pub returns-then-not-unused_zero : goal.returns-then-not-unused_zero
returns-then-not-unused_zero c =
    let a = c.args in
    let b = a.b.now in
    let t = a.working in
    sym (keeps_other a.n a.p (judged t b) (unused_breaks (judged t b) (ap unused_zero (judged_shown t b ∙ sym c.read_page-x.ensures.1) ∙ sym c.unused_zero.ensures ∙ not-true _ c.if-not-unused_zero.true-raw)))

pub returns : goal.returns
returns c =
    let a = c.args in
    let b = a.b.now in
    let t = a.working in
    let bytes : Bytes b = λ i. (c.shared_slice_known-1.given i).fits in
    let size = c.if-b-ne-PAGE_SIZE.false in
    let told = sym (spare_told b bytes size t) ∙ ap (spare_zero t) (sym c.get32.ensures) ∙ sym c.is_spare_zero.ensures ∙ not-false _ c.if-not-is_spare_zero.false-raw in
    c.layout_ok.ensures
    ∙ ap (layout a.n a.p) (c.read_page-x.ensures.0 ∙ alike_fields b (judged t b) (judged_alike t b))
    ∙ sym (keeps_page a.n a.p (judged t b) _
    (reads_as_page (judged t b) (judged_bytes b bytes size t) (judged_length t b ∙ size)
    (true_eq _ 0 told)
    (ap (λ (x : ℕ). x % 4194304) (sym (c.get32-2.ensures ∙ alike_own b (judged t b) (judged_alike t b))) ∙ c.if-get32-ne0.false)
    (ap unused_zero (judged_shown t b ∙ sym c.read_page-x.ensures.1) ∙ sym c.unused_zero.ensures ∙ not-false _ c.if-not-unused_zero.false-raw)))
