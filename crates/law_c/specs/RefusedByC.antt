-- WHAT A WRONG LENGTH OF DESK OR VALUES LEAVES of a call from C: 01's sentences on refusals, where there are bytes to hold them.
use Rattle.std.specs.Prelude.{◌≡◌, refl, ◌≢◌, Bool, true, false, List, ℕ, length, eqb}
use Rattle.std.proofs.Math.Path.{ap}
use Rattle.std.proofs.Common.{◌∙◌}
use Rattle.def_base.specs.Tests.{pick, Case, yes!, no!, case, true_eq, eq_true, neq_false}
use Rattle.def_layout.specs.declared.Desk.{Desk}
use Rattle.def_layout.specs.Numbers.{put32, chunks, zeros}
use Rattle.def_layout.specs.Desks.{empty_desk, row_bytes, desk_bytes, read_desk}
use Rattle.def_layout.specs.Sizes.{desk_size}
use Rattle.def_model.specs.declared.Refusal.TheVariants.{Lengths}
use Rattle.def_model.specs.declared.Answer.TheVariants.{Refused}
use Rattle.def_model.specs.Answers.{answer_numbers}
use Rattle.def_model.specs.OnBytes.{Call, start, restart, request, Lent, refused_desk}
use Rattle.def_c.specs.FromC.{Returned, values_size, value_bytes, sizes_ok, refused_desk_bytes, refused_values, returned_by, c_call}
use Rattle.law_bytes.specs.Words.{Bytes}
use Rattle.law_bytes.specs.DeskBytes.{desk_bytes_back}

-- "a refused format or restart gives an empty desk", and so does a refused loading (02, U3): whether a call is one of the three.
abbrev pub empties : Call → Bool
empties (start s) = true
empties restart = true
empties (request q) = false

refused_by : (c : Call) (d : Desk) → refused_desk c d ≡ pick (empties c) empty_desk d
unfolding refused_desk
refused_by (start s) d = refl
refused_by restart d = refl
refused_by (request q) d = refl

-- ---- the desk

module _ (c : Call) (desk : List ℕ) where
  right_desk : (e : Bool) → empties c ≡ e → length desk ≡ desk_size → refused_desk_bytes c desk ≡ desk_bytes (pick e empty_desk (read_desk desk))
  unfolding refused_desk_bytes
  right_desk e p h =
      ap (λ b. pick b (desk_bytes (refused_desk c (read_desk desk))) desk) (eq_true (length desk) desk_size h)
      ∙ ap desk_bytes (refused_by c (read_desk desk) ∙ ap (λ b. pick b empty_desk (read_desk desk)) p)

  pub wrong_desk : eqb (length desk) desk_size ≡ false → refused_desk_bytes c desk ≡ desk
  unfolding refused_desk_bytes
  wrong_desk e = ap (λ b. pick b (desk_bytes (refused_desk c (read_desk desk))) desk) e

  pub desk_emptied : empties c ≡ true → length desk ≡ desk_size → refused_desk_bytes c desk ≡ desk_bytes empty_desk
  desk_emptied p h = right_desk true p h

  pub desk_kept : empties c ≡ false → Bytes desk → refused_desk_bytes c desk ≡ desk
  desk_kept p w = go (case (eqb (length desk) desk_size))
    where
      go : Case (eqb (length desk) desk_size) → refused_desk_bytes c desk ≡ desk
      go (no! e) = wrong_desk e
      go (yes! e) = let h = true_eq (length desk) desk_size e in right_desk false p h ∙ desk_bytes_back desk w h

pub empty_desk_bytes : desk_bytes empty_desk ≡ zeros desk_size
unfolding desk_bytes chunks row_bytes put32
empty_desk_bytes = refl

-- ---- the values

pub values_zeroed : (values : List ℕ) → length values ≡ values_size → refused_values values ≡ zeros values_size
unfolding refused_values value_bytes put32 answer_numbers
values_zeroed values e = ap (λ b. pick b (zeros values_size) values) (eq_true (length values) values_size e)

pub values_kept : (values : List ℕ) → eqb (length values) values_size ≡ false → refused_values values ≡ values
unfolding refused_values
values_kept values e = ap (λ b. pick b (value_bytes (Refused Lengths)) values) e

-- ---- all of it

-- "A refusal gives zeros for other answers and changes nothing .. a refused format or restart gives an empty desk": in the values and the desk's bytes.
pub record Leaves (c : Call) (desk values : List ℕ) (r : Returned) : Type 0 where
  pub zero_values : length values ≡ values_size → r.values ≡ zeros values_size
  pub other_values : length values ≢ values_size → r.values ≡ values
  pub zero_desk : empties c ≡ true → length desk ≡ desk_size → r.desk ≡ zeros desk_size
  pub same_desk : empties c ≡ false → Bytes desk → r.desk ≡ desk
  pub other_desk : length desk ≢ desk_size → r.desk ≡ desk

-- "1 area lengths wrong".
pub refused_for_length : (c : Call) (l : Lent) (desk values : List ℕ) → sizes_ok desk values ≡ false
    → ((c_call c l desk values).reason ≡ 1) × ((c_call c l desk values).areas ≡ l) × Leaves c desk values (c_call c l desk values)
unfolding c_call returned_by
refused_for_length c l desk values wrong =
    let is : c_call c l desk values ≡ returned_by false c l desk values = ap (λ b. returned_by b c l desk values) wrong in (
      ap (λ r. r.reason) is,
      ap (λ r. r.areas) is,
      record {
        zero_values = λ e. ap (λ r. r.values) is ∙ values_zeroed values e;
        other_values = λ n. ap (λ r. r.values) is ∙ values_kept values (neq_false n);
        zero_desk = λ p e. ap (λ r. r.desk) is ∙ desk_emptied c desk p e ∙ empty_desk_bytes;
        same_desk = λ p w. ap (λ r. r.desk) is ∙ desk_kept c desk p w;
        other_desk = λ n. ap (λ r. r.desk) is ∙ wrong_desk c desk (neq_false n);
      },
    )
