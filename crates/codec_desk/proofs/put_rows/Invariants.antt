-- `put_rows`: after i turns the first i rows are written.
use Prim.Native.Nat.{◌≤◌}
use mathlib.Core.Path.{◌≡◌}
use lib.ListN.{length}
use Rattle.def_layout.specs.Numbers.{chunks}
use Rattle.def_layout.specs.Desks.{row_at, row_bytes}
use Rattle.law_bytes.specs.Patch.{patch}
use Rattle.codec_desk.proofs.put_rows.Given as goal

abbrev pub invariant-loop-i : goal.invariant-loop-i
invariant-loop-i l = (l.i ≤ 8) × (length l.b ≡ length l.initial.b) × (l.b ≡ patch l.initial.b 0 (chunks l.i (λ i. row_bytes (row_at l.row-items i))))
