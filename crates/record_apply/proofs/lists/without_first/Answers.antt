-- `without_first`: those from m on, or none.
use native.Mathlib.Omega.{arith}
use mathlib.Core.Path.{ap, ◌∙◌}
use Prim.Native.Nat.{ℕ}
use Rattle.def_layout.specs.Numbers.{tab}
use Rattle.law_bytes.specs.EntryBytes.{used}
use Rattle.record_apply.specs.Lists.{first_off}
use Rattle.record_apply.proofs.lists.without_first.Goals as goal

pub returns-then-m-n : goal.returns-then-m-n
unfolding tab
returns-then-m-n c =
    let a = c.args in
    let none = c.default.ensures.0 in
    (ap (λ (k : ℕ). used k c.default.result.entries) none ∙ first_off a.n a.m a.es c.if-m-n.true, omega (arith, none))
