-- `refuse_desk`: a desk that is emptied, one of another length, and one that stays.
use Rattle.def_base.specs.Tests.{neq_false}
use Rattle.donzhikar.specs.Returned.{other_desk, same_desk, new_desk}
use Rattle.donzhikar.proofs.refuse_desk.Goals as goal
use Rattle.donzhikar.proofs.refuse_desk.Goals.{else-empties-via-then-empties+else-desk-eq-DESK_SIZE, else-empties-via-else-empties}

pub returns-then-desk-eq-DESK_SIZE : goal.returns-then-desk-eq-DESK_SIZE
returns-then-desk-eq-DESK_SIZE c = new_desk _ _ _ _ c.if-empties.true c.if-desk-eq-DESK_SIZE.true c.idle_desk.ensures c.put_desk.ensures

pub returns-else-empties : goal.returns-else-empties
returns-else-empties c =
    let a = c.args in
    elim c.else-empties.branch [
      | else-empties-via-then-empties+else-desk-eq-DESK_SIZE w ↦ other_desk a.empties a.desk.now (neq_false w.if-desk-eq-DESK_SIZE.false)
      | else-empties-via-else-empties w ↦ same_desk a.empties a.desk.now w.if-empties.false (λ i. (c.type_inv.desk i).fits)
    ]
