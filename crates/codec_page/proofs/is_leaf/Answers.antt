-- `is_leaf`: by the two bits.
use mathlib.Core.Path.{ap, sym, ◌∙◌}
use Prim.Native.Nat.{◌/◌}
use Rattle.std.proofs.Common.{lit<}
use Rattle.def_layout.specs.Pages.{page_kind, kind_is}
use Rattle.def_layout.specs.declared.page.PageKind.{PageKind}
use Rattle.def_layout.specs.declared.page.PageKind.TheVariants.{Leaf}
use Rattle.law_bytes.specs.PageKinds.{same_kind, kind_tested}
use Rattle.codec_page.proofs.is_leaf.Goals as goal

pub returns : goal.returns
unfolding page_kind
returns c =
    c.eq.ensures ∙ same_kind c.from_bits.result Leaf ∙ ap (λ (k : PageKind). kind_is k Leaf) c.from_bits.ensures
    ∙ sym (kind_tested (c.args.w / 1073741824) 1 (lit< tt))
