-- `asked`: the two lengths.
use Rattle.donzhikar.specs.Returned.{wrong_desk_length, wrong_values_length, right_lengths}
use Rattle.donzhikar.proofs.asked.Goals as goal
use Rattle.donzhikar.proofs.asked.Goals.{then-desk-ne-DESK_SIZE-via-then-desk-ne-DESK_SIZE, then-desk-ne-DESK_SIZE-via-else-desk-ne-DESK_SIZE+then-values-ne8}

pub returns-then-desk-ne-DESK_SIZE : goal.returns-then-desk-ne-DESK_SIZE
returns-then-desk-ne-DESK_SIZE c =
    let a = c.args in
    elim c.then-desk-ne-DESK_SIZE.branch [
      | then-desk-ne-DESK_SIZE-via-then-desk-ne-DESK_SIZE w ↦ wrong_desk_length a.desk.now a.values.now w.if-desk-ne-DESK_SIZE.true
      | then-desk-ne-DESK_SIZE-via-else-desk-ne-DESK_SIZE+then-values-ne8 w ↦ wrong_values_length a.desk.now a.values.now w.if-values-ne8.true
    ]

pub returns : goal.returns
returns c = right_lengths _ _ _ c.if-desk-ne-DESK_SIZE.false c.if-values-ne8.false c.get_desk.ensures
