-- `without_last`: the first of them. How many they are is taken by its value, not by the text that gives it.
use borrow.Author.Rules.{rules}
use native.Mathlib.Omega.{arith}
use Prim.Native.Nat.{ℕ, ◌-◌}
use mathlib.Core.Path.{ap, ◌∙◌}
use Rattle.law_bytes.specs.EntryBytes.{used}
use Rattle.codec_entries.specs.Arrays.{used_take}
use Rattle.record_apply.proofs.lists.EntryList.without_last.Goals as goal

pub returns : goal.returns
returns c =
    let l = c.args.self in
    (ap (λ (k : ℕ). used k l.entries) {y = l.count - c.args.m} (omega arith) ∙ used_take l.entries (l.count - c.args.m) l.count (omega arith), search rules)
