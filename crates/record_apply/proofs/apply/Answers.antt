-- `apply`: the change of the page's part, with the number put in.
use Rattle.codec_page.specs.Typed.{typed}
use Rattle.record_apply.specs.Changes.{stamped}
use Rattle.record_apply.proofs.apply.Goals as goal

pub returns : goal.returns
unfolding typed
returns c = let a = c.args in stamped a.r a.n a.p _ a.x c.change-y.result c.role_of.ensures c.change-y.ensures
