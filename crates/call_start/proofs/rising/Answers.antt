-- `rising`: neighbour by neighbour.
use borrow.Author.Rules.{rules}
use Rattle.std.proofs.Common.{ltb}
use Rattle.std.proofs.lemmas.List.Sorted.{answers_always}
use Rattle.call_start.specs.Column.{rise_is}
use Rattle.call_start.proofs.rising.Goals as goal

pub returns : goal.returns
returns c = rise_is c.args.keys.now c.is_sorted_by.result (c.is_sorted_by.ensures.cases ltb (answers_always _ _ _ (λ f a r g called. search rules)))
