-- `write_entries`: after i turns the first i of the 14 are written, those past the last as zeros.
use Prim.Native.Nat.{◌≤◌}
use mathlib.Core.Path.{◌≡◌}
use lib.ListN.{length}
use Rattle.def_layout.specs.Entries.{entry_at}
use Rattle.def_layout.specs.Numbers.{chunks, entry_bytes}
use Rattle.law_bytes.specs.Patch.{patch}
use Rattle.law_bytes.specs.EntryBytes.{used}
use Rattle.codec_entries.proofs.write_entries.Given as goal

abbrev pub invariant-loop-i : goal.invariant-loop-i
invariant-loop-i l = (l.i ≤ 14) × (length l.b ≡ length l.initial.b) × (l.b ≡ patch l.initial.b l.from (chunks l.i (λ i. entry_bytes (entry_at (used l.n l.es) i))))
