-- `kind_ok`: the kind that the level asks for.
use mathlib.Core.Path.{ap, ◌∙◌}
use Rattle.def_layout.specs.Pages.{kind_is}
use Rattle.law_bytes.specs.PageKinds.{same_kind}
use Rattle.codec_page.specs.Typed.{typed}
use Rattle.tree_check.proofs.kind_ok.Goals as goal

pub returns : goal.returns
unfolding typed
returns c = let k = c.args.x.kind in c.eq.ensures ∙ same_kind k c.at_level.result ∙ ap (λ l. kind_is k l) c.at_level.ensures
