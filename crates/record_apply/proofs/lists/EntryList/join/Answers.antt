-- `join`: the joined entries, and how many of them stay.
use borrow.Author.Rules.{rules}
use mathlib.Core.Path.{◌∙◌, ap}
use Rattle.law_bytes.specs.EntryBytes.{used}
use Rattle.record_apply.proofs.lists.EntryList.join.Goals as goal

pub returns : goal.returns
returns c = (ap (λ m. used m c.append.result) c.min.ensures ∙ c.append.ensures, search rules)
