-- `write_out_in`: the stores, and the desk.
use mathlib.Core.Path.{refl}
use Rattle.call_finish.specs.Ends.{write_out_0}
use Rattle.call_finish.proofs.write_out_in.Goals as goal

pub returns : goal.returns
returns c st g =
    let a = c.args in
    write_out_0 g a.p a.budget _ c.requires.4 _ _ c.store_first.ensures refl c.with_stored.ensures
