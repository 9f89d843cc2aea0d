-- `page_at_ok`: the lent part is judged.
use native.Mathlib.Nat.{add-sub_cancel_left}
use Rattle.sound_parts.proofs.page_at_ok.Goals as goal

pub returns : goal.returns
returns c = rw (add-sub_cancel_left _ _) at c.page_ok.ensures
