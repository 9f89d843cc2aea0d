-- WHAT A REFUSED CALL LEAVES IN EVERY LENT AREA, on bytes.
use Rattle.std.specs.Prelude.{◌*◌, ◌≡◌, refl, Bool, true, false, [], length, replicate}
use Rattle.std.proofs.Common.{sym, ap, ◌∙◌, subst}
use Rattle.std.proofs.Math.Option.{some}
use Rattle.def_base.specs.Tests.{pick, Case, yes!, no!, case, some_inj}
use Rattle.def_layout.specs.declared.Desk.{Desk}
use Rattle.def_layout.specs.Desks.{empty_desk}
use Rattle.def_layout.specs.Numbers.{zeros}
use Rattle.def_layout.specs.Pages.{zero_page}
use Rattle.def_layout.specs.PageBytes.{page}
use Rattle.def_layout.specs.Sizes.{page_size, slot_size}
use Rattle.def_model.specs.declared.Refusal.{Refusal}
use Rattle.def_model.specs.declared.Refusal.TheVariants.{Lengths}
use Rattle.def_model.specs.declared.Answer.TheVariants.{Refused}
use Rattle.def_model.specs.Answers.{Outcome, refusal_number}
use Rattle.def_model.specs.OnBytes.{Call, start, restart, request, Lent, Result, call, call_by, refused_desk, lengths_ok, read_areas, read_work, read_log, work_bytes, log_bytes, outcome}
use Rattle.def_recovery.specs.Events.{is_restart}
use Rattle.law_c.specs.RefusedByC.{empties}
use Rattle.law_areas.specs.Lengths.{lengths_said}
use Rattle.law_areas.specs.Pages.{zero_pages_bytes}
use Rattle.law_areas.specs.Working.{work_unlinked, read_work_length}
use Rattle.law_areas.specs.Logs.{read_log_length, empty_bytes}
use Rattle.theory_refusals.specs.Order.{refusal_in, first_refused}
use Rattle.theory_refusals.specs.Left.{zeroes, left_by, refused_is}
use Rattle.theory_refusals.specs.Lossless.{work_lossless, log_lossless}

-- 01: "A refusal gives zeros for other answers and changes nothing, except that restart's 3 to 18 zero the working areas; a refused format or
-- restart gives an empty desk." Nothing is stored, so the stable areas stay too.
unfoldable pub left_lent_by : (zeroed emptied : Bool) → Refusal → Lent → Desk → Result
left_lent_by z y r l d =
    record {
      answer = Refused r;
      work_pages = pick z (zeros (length l.work_pages)) l.work_pages;
      work_log = pick z (zeros (length l.work_log)) l.work_log;
      desk = pick y empty_desk d;
      stores = [];
    }

abbrev pub left_lent : Call → Refusal → Lent → Desk → Result
left_lent c r l d = left_lent_by (zeroes c r) (empties c) r l d

-- 1: nothing is zeroed.
of_lengths : (c : Call) (l : Lent) (d : Desk) → call_by false c l d ≡ left_lent c Lengths l d
unfolding call_by refused_desk left_lent_by zeroes is_restart refusal_number
of_lengths (start s) l d = refl
of_lengths restart l d = refl
of_lengths (request q) l d = refl

-- An outcome, written as bytes.
abbrev pub on_bytes : Outcome → Result
on_bytes o = record { answer = o.answer; work_pages = work_bytes o.work.pages o.work.lefts; work_log = log_bytes o.work.log; desk = o.desk; stores = o.stores }

-- What typed areas are left as is, on bytes, the same.
left_bytes : (z y : Bool) (r : Refusal) (l : Lent) (d : Desk) → lengths_ok l ≡ true → on_bytes (left_by z y r (read_areas l) d) ≡ left_lent_by z y r l d
unfolding left_by left_lent_by read_areas
left_bytes false y r l d e =
    let n = lengths_said l e in
    λ i. record {
      answer = Refused r;
      work_pages = work_lossless _ l.work_pages n.work_pages i;
      work_log = log_lossless _ l.work_log n.work_log i;
      desk = pick y empty_desk d;
      stores = [];
    }
left_bytes true y r l d e =
    let n = lengths_said l e in
    λ i. record {
      answer = Refused r;
      work_pages =
          (work_unlinked (replicate (length (read_work l.work_pages)) (page zero_page)) (length (read_work l.work_pages)) ∙ zero_pages_bytes (length (read_work l.work_pages))
          ∙ ap zeros (ap (page_size *◌) (read_work_length _ l.work_pages n.work_pages) ∙ sym n.work_pages)) i;
      work_log = (empty_bytes (length (read_log l.work_log)) ∙ ap zeros (ap (slot_size *◌) (read_log_length _ l.work_log n.work_log) ∙ sym n.work_log)) i;
      desk = pick y empty_desk d;
      stores = [];
    }

-- DEMAND 1, "what it leaves in every lent area is written down": of every call on any bytes.
pub refused_leaves : (c : Call) (l : Lent) (d : Desk) (r : Refusal) → (call c l d).answer ≡ Refused r → call c l d ≡ left_lent c r l d
unfolding call call_by refusal_in
refused_leaves c l d r e = go (case (lengths_ok l))
  where
    said : refusal_in (call_by (lengths_ok l) c l d).answer ≡ some r
    said = ap refusal_in e

    go : Case (lengths_ok l) → call_by (lengths_ok l) c l d ≡ left_lent c r l d
    go (no! f) =
        let q : some Lengths ≡ some r = subst (λ b. refusal_in (call_by b c l d).answer ≡ some r) f said in
        ap (λ b. call_by b c l d) f ∙ of_lengths c l d ∙ ap (λ s. left_lent c s l d) (some_inj q)
    go (yes! f) =
        let q : refusal_in (outcome c (read_areas l) d).answer ≡ some r = subst (λ b. refusal_in (call_by b c l d).answer ≡ some r) f said in
        ap (λ b. call_by b c l d) f ∙ ap on_bytes (refused_is c (read_areas l) d r (sym (first_refused c (read_areas l) d) ∙ q)) ∙ left_bytes (zeroes c r) (empties c) r l d f
