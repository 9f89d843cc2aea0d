-- `node`: a page of a new page's numbers.
use Rattle.record_apply.specs.Pages.{node_typed}
use Rattle.record_apply.proofs.pages.node.Goals as goal

pub returns : goal.returns
returns c = let a = c.args in node_typed a.kind a.level a.own a.right a.high a.l.count a.l.entries c.requires.0
