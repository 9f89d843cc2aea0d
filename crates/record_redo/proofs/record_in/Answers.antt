-- `record_in`: the fields, word by word.
use native.Mathlib.Omega.{arith}
use Rattle.record_redo.specs.AtOnce.{fields_read}
use Rattle.record_redo.proofs.record_in.Goals as goal

pub returns : goal.returns
returns c =
    let n = c.min in (
      omega (arith, n.ensures),
      fields_read c.args.s.now _ _ _ _ _ _ _ _ _ c.get32-w.ensures c.get32-pages.ensures c.read_entries-entries.ensures c.get32.ensures c.get32-2.ensures
          c.get32-3.ensures c.get32-4.ensures c.get32-5.ensures (λ few. omega (arith, n.ensures, few)),
    )
