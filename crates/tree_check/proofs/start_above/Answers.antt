-- `start_above`: the page's entries, and its right link.
use mathlib.Core.Path.{refl, sym, ap, ◌∙◌}
use Rattle.def_layout.specs.Pages.{Page}
use Rattle.codec_page.specs.Typed.{typed}
use Rattle.tree_check.proofs.start_above.Goals as goal

pub returns : goal.returns
unfolding typed
returns c =
    let t = c.nth_page-x.ensures in
    (sym c.size_of.ensures.0 ∙ ap (λ (x : Page). x.entries) t, ap (λ (x : Page). x.right) t, refl, refl)
