-- `newest_row`: the first of the rows so far with the largest number due.
use Rattle.std.specs.List.{IsFirstMaxByKey}
use Rattle.def_layout.specs.declared.Row.{Row}
use Rattle.call_undo.proofs.newest_row.Given as goal

abbrev pub invariant-loop-i : goal.invariant-loop-i
invariant-loop-i l = IsFirstMaxByKey (λ (r : Row). r.undo) l.rows l.i l.p
