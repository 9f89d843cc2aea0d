-- `entry_of`: past the last there is none.
use borrow.Author.Rules.{rules}
use native.Mathlib.Omega.{arith}
use mathlib.Core.Path.{ap, ◌∙◌}
use Rattle.std.specs.Prelude.{unwrap_or}
use Rattle.def_layout.specs.Entries.{no_entry}
use Rattle.tree_check.specs.Above.{or_no_entry}
use Rattle.tree_check.proofs.entry_of.Goals as goal

pub returns : goal.returns
returns c =
    or_no_entry c.copied.result c.unwrap_or_default.result _ (λ d h. search rules) c.unwrap_or_default.ensures
    ∙ ap (λ o. unwrap_or o no_entry) c.copied.ensures ∙ c.get.ensures.lookup.4 (omega arith) no_entry
