-- An answer's numbers in code, as the definitions say them.
use Rattle.std.specs.Prelude.{◌≡◌}
use Rattle.def_model.specs.declared.Answer.{Answer}
use Rattle.def_model.specs.Answers.{answer_numbers}
use Rattle.face_answers.specs.declared.Numbers.{Numbers}

abbrev pub Numbered : Answer → Numbers → Type 0
Numbered a n = (n.reason ≡ (answer_numbers a).reason) × (n.first ≡ (answer_numbers a).first) × (n.second ≡ (answer_numbers a).second)
