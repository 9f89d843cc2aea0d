-- What a refused call leaves of typed areas and the desk, call by call.
use Rattle.std.specs.Prelude.{◌≡◌, refl, Bool, true, ◌&&◌, List, [], ◌∷◌, length, leb}
use Rattle.std.proofs.Common.{sym, ap, ◌∙◌, subst}
use Rattle.std.proofs.Math.Option.{some}
use Rattle.def_base.specs.Tests.{pick, Case, yes!, no!, case, none_some, some_inj, and_true, every}
use Rattle.def_layout.specs.declared.Desk.{Desk}
use Rattle.def_layout.specs.Desks.{empty_desk}
use Rattle.def_model.specs.declared.Refusal.{Refusal}
use Rattle.def_model.specs.declared.Answer.TheVariants.{Refused}
use Rattle.def_model.specs.Areas.{Areas, zero_side}
use Rattle.def_model.specs.Answers.{Outcome, Check, first_broken, refusal_number}
use Rattle.def_model.specs.Restart.{restart_checks}
use Rattle.def_model.specs.OnBytes.{Call, start, restart, request, checks, refused, refused_work, refused_desk, outcome}
use Rattle.def_recovery.specs.Events.{is_restart}
use Rattle.law_c.specs.RefusedByC.{empties}
use Rattle.law_areas.specs.Outcomes.{broken_refused}

-- 01: "restart's 3 to 18 zero the working areas".
unfoldable pub zeroes : Call → Refusal → Bool
zeroes c r = is_restart c && (leb 3 (refusal_number r) && leb (refusal_number r) 18)

-- 01: "A refusal .. changes nothing", but for these two.
unfoldable pub left_by : (zeroed emptied : Bool) → Refusal → Areas → Desk → Outcome
left_by z y r a d =
    record { answer = Refused r; work = pick z (zero_side (length a.work.pages) (length a.work.log)) a.work; desk = pick y empty_desk d; stores = [] }

abbrev pub left : Call → Refusal → Areas → Desk → Outcome
left c r a d = left_by (zeroes c r) (empties c) r a d

-- What holds of every check's refusal holds of the one that is answered.
pub of_broken : (p : Refusal → Bool) (cs : List Check) (r : Refusal) → every (λ c. p c.says) cs ≡ true → first_broken cs ≡ some r → p r ≡ true
unfolding every first_broken
of_broken p [] r h e = none_some e
of_broken p (c ∷ cs) r h e = let (a, b) = and_true (p c.says) (every (λ q. p q.says) cs) h in go a (case c.broken) (λ f. of_broken p cs r b f)
  where
    go : p c.says ≡ true → Case c.broken → (first_broken cs ≡ some r → p r ≡ true) → p r ≡ true
    go a (yes! f) i = subst (λ q. p q ≡ true) (some_inj (rw f at e)) a
    go a (no! f) i = i (rw f at e)

restart_zeroes : (a : Areas) (r : Refusal) → first_broken (restart_checks a) ≡ some r → zeroes restart r ≡ true
unfolding zeroes is_restart every restart_checks refusal_number
restart_zeroes a r e = of_broken (zeroes restart) (restart_checks a) r refl e

-- WHAT A REFUSED CALL LEAVES.
pub refused_is : (c : Call) (a : Areas) (d : Desk) (r : Refusal) → first_broken (checks c a d) ≡ some r → outcome c a d ≡ left c r a d
unfolding left_by zeroes is_restart refused refused_work refused_desk checks
refused_is (start s) a d r e = broken_refused (start s) a d r e
refused_is restart a d r e = broken_refused restart a d r e ∙ ap (λ z. left_by z true r a d) (sym (restart_zeroes a r e))
refused_is (request q) a d r e = broken_refused (request q) a d r e
