-- `with_list`: the right link and the high key stay.
use Rattle.codec_page.specs.Typed.{typed}
use Rattle.record_apply.proofs.pages.with_list.Goals as goal

pub returns : goal.returns
unfolding typed
returns c = c.renew.ensures
