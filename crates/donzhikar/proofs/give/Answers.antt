-- `give`: the desk, then the two values, as they are written.
use Rattle.donzhikar.specs.Returned.{values_written, given}
use Rattle.donzhikar.proofs.give.Goals as goal

pub returns : goal.returns
returns c =
    let a = c.args in
    given c.from-n.ensures.0 c.put_desk.ensures
    (values_written a.values.now c.set32.new.s c.set32-2.new.s _ _ _ c.requires.1 c.from-n.ensures.1 c.from-n.ensures.2 c.set32.ensures c.set32-2.ensures)
