-- `nth_page`: inside the area the bytes of page p, and past it the page that was never used.
use mathlib.Core.Path.{◌∙◌, sym}
use Rattle.def_layout.specs.Pages.{zero_page}
use Rattle.def_layout.specs.PageBytes.{page_fields}
use Rattle.law_bytes.specs.Pieces.{read_all_at, read_all_past}
use Rattle.codec_page.proofs.nth_page.Goals as goal

pub returns-then-p-n : goal.returns-then-p-n
returns-then-p-n c =
    let a = c.args in
    c.read_at.ensures.0 ∙ sym (read_all_at 128 page_fields a.n a.p a.pages.now zero_page c.if-p-n.true)

pub returns : goal.returns
returns c =
    let a = c.args in
    c.zero_page.ensures ∙ sym (read_all_past 128 page_fields a.n a.p a.pages.now zero_page c.if-p-n.false)
