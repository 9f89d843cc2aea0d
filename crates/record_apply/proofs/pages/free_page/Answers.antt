-- `free_page`: no entries, and all else 0.
use Rattle.record_apply.specs.Changes.{freed_typed}
use Rattle.record_apply.proofs.pages.free_page.Goals as goal

pub returns : goal.returns
returns c = let none = c.default in freed_typed c.args.own none.result.count none.result.entries _ none.ensures.0 c.node.ensures
