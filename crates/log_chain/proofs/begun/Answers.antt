-- `begun`: eight are open already, or a row more.
use Rattle.std.proofs.Common.{arith}
use Rattle.std.specs.Prelude.{Some}
use mathlib.Core.Path.{sym, subst}
use Rattle.log_chain.specs.declared.Batches.{Batches}
use Rattle.log_chain.specs.Steps.{Steps}
use Rattle.log_chain.specs.Families.{begun_full, begun_row}
use Rattle.log_chain.proofs.begun.Goals as goal

pub changed-requires : goal.changed-requires
changed-requires c = omega arith

pub returns-then-i-eq8 : goal.returns-then-i-eq8
returns-then-i-eq8 c = let a = c.args in begun_full a.batches a.t c.requires _ c.used_rows-i.ensures.0 c.if-i-eq8.true

pub returns : goal.returns
returns c =
    let a = c.args in
    let u = c.used_rows-i.ensures in
    subst (λ (o : Batches). Steps a.batches a.t (Some o)) (sym c.changed.ensures) (begun_row a.batches a.t c.requires _ u.0 _ c.new_row.ensures u.1 c.if-i-eq8.false)
