-- `write_entry`: two numbers side by side are one patch.
use borrow.Author.Rules.{rules}
use mathlib.Core.Path.{refl}
use Rattle.def_layout.specs.Numbers.{put32, entry_bytes}
use Rattle.law_bytes.specs.Patch.{then_patch}
use Rattle.codec_entries.proofs.write_entry.Goals as goal

pub returns : goal.returns
unfolding entry_bytes put32
returns c = then_patch _ _ _ _ _ (put32 _) (put32 _) c.set32.ensures c.set32-2.ensures refl (search rules)
