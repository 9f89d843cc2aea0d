-- `insert_key`: the entry goes to its key's place.
use borrow.Author.Rules.{rules}
use mathlib.Core.Path.{◌∙◌, ap}
use Rattle.law_bytes.specs.EntryBytes.{used}
use Rattle.record_apply.specs.Lists.{inserted_key}
use Rattle.record_apply.proofs.lists.EntryList.insert_key.Goals as goal

pub returns : goal.returns
returns c =
    let a = c.args in
    (ap (λ m. used m c.insert_at.result) c.min.ensures ∙ inserted_key a.self.count a.self.entries a.k a.v _ _ c.place-i.ensures.0 c.insert_at.ensures, search rules)
