-- `right_of`: by the page's first word.
use mathlib.Core.Path.{◌∙◌, sym, ap}
use Prim.Native.Nat.{ℕ, ◌/◌, ◌%◌}
use Rattle.def_layout.specs.Pages.{Page, zero_page}
use Rattle.def_layout.specs.PageBytes.{page_fields}
use Rattle.law_bytes.specs.Pieces.{read_all_at, read_all_past}
use Rattle.codec_page.specs.Working.{front_there}
use Rattle.codec_page.proofs.right_of.Goals as goal

pub returns-then-p-n : goal.returns-then-p-n
unfolding page_fields
returns-then-p-n c =
    let a = c.args in
    ap (λ (w : ℕ). w / 4096 % 1024) (c.get32.ensures ∙ sym (front_there a.pages.now a.p))
    ∙ sym (ap (λ (x : Page). x.right) (read_all_at 128 page_fields a.n a.p a.pages.now zero_page c.if-p-n.true))

pub returns : goal.returns
returns c =
    let a = c.args in
    sym (ap (λ (x : Page). x.right) (read_all_past 128 page_fields a.n a.p a.pages.now zero_page c.if-p-n.false))
