-- What a call does by its first broken check: refused by it, or done where none is broken.
use Rattle.std.specs.Prelude.{◌≡◌}
use Rattle.std.proofs.Math.Path.{ap}
use Rattle.std.proofs.Math.Option.{Option, none, some}
use Rattle.def_layout.specs.declared.Desk.{Desk}
use Rattle.def_model.specs.declared.Refusal.{Refusal}
use Rattle.def_model.specs.Areas.{Areas}
use Rattle.def_model.specs.Answers.{first_broken}
use Rattle.def_model.specs.OnBytes.{Call, checks, does, refused, outcome_by, outcome}

module _ (c : Call) (a : Areas) (d : Desk) where
  pub broken_refused : (r : Refusal) → first_broken (checks c a d) ≡ some r → outcome c a d ≡ refused c r a d
  unfolding outcome outcome_by
  broken_refused r e = ap (λ (o : Option Refusal). outcome_by o c a d) e

  pub unbroken_does : first_broken (checks c a d) ≡ none → outcome c a d ≡ does c a d
  unfolding outcome outcome_by
  unbroken_does e = ap (λ (o : Option Refusal). outcome_by o c a d) e
