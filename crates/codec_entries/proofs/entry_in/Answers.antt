-- `entry_in`: below n the entry, past it none.
use Rattle.std.proofs.Common.{ℕ, ap₂, sym, ◌∙◌}
use Rattle.def_layout.specs.Entries.{entry}
use Rattle.law_bytes.specs.EntryBytes.{used_in, used_past}
use Rattle.codec_entries.proofs.entry_in.Goals as goal

pub returns-then-i-n : goal.returns-then-i-n
returns-then-i-n c =
    let a = c.args in
    c.nth.ensures ∙ sym (used_in a.n a.i a.es c.if-i-n.true)

pub returns-else-i-n : goal.returns-else-i-n
returns-else-i-n c = let a = c.args in let d = c.default.ensures in ap₂ (λ (x y : ℕ). entry x y) d.0 d.1 ∙ sym (used_past a.n a.i a.es c.if-i-n.false)
