-- `write_words`: after i turns the first i words are written.
use Prim.Native.Nat.{◌≤◌, ◌-◌}
use mathlib.Core.Path.{◌≡◌}
use lib.ListN.{length}
use Rattle.def_layout.specs.Numbers.{chunks}
use Rattle.law_bytes.specs.Patch.{patch}
use Rattle.codec_slot.specs.Typed.{word_bytes}
use Rattle.codec_slot.proofs.write_words.Given as goal

abbrev pub invariant-loop-i : goal.invariant-loop-i
invariant-loop-i l = (l.i ≤ 8) × (length l.area ≡ length l.initial.area) × (l.area ≡ patch l.initial.area 0 (chunks l.i (word_bytes l.word-items)))
