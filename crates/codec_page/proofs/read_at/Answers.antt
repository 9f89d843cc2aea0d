-- `read_at`: the lent part is read.
use native.Mathlib.Nat.{add-sub_cancel_left}
use Rattle.codec_page.proofs.read_at.Goals as goal

pub returns : goal.returns
returns c = rw (add-sub_cancel_left _ _) at c.read_page.ensures
