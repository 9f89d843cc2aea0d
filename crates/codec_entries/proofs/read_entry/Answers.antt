-- `read_entry`: two numbers are an entry.
use mathlib.Core.Path.{ap₂}
use Prim.Native.Nat.{ℕ}
use Rattle.def_layout.specs.Entries.{entry}
use Rattle.def_layout.specs.Numbers.{read_entry}
use Rattle.codec_entries.proofs.read_entry.Goals as goal

pub returns : goal.returns
unfolding read_entry
returns c = ap₂ (λ (x y : ℕ). entry x y) c.get32.ensures c.get32-2.ensures
