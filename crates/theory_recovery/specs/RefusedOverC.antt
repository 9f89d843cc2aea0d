-- WHAT A REFUSED C FUNCTION LEAVES, for whatever reason: in the desk's bytes, the values and the four areas.
use Rattle.std.specs.Prelude.{ℕ, ◌≡◌, ◌≢◌, Bool, ◌&&◌, List, length, leb}
use Rattle.std.proofs.Math.Path.{refl, sym, ap, subst}
use Rattle.std.proofs.Common.{◌∙◌}
use Rattle.std.proofs.Math.Bool.{true, false}
use Rattle.std.proofs.Math.Dec.{eqb}
use Rattle.def_base.specs.Tests.{clash, Case, yes!, no!, case, and_true, true_eq, neq_false}
use Rattle.def_layout.specs.Desks.{read_desk}
use Rattle.def_layout.specs.Numbers.{put32, zeros}
use Rattle.def_layout.specs.Sizes.{desk_size}
use Rattle.def_model.specs.declared.Refusal.{Refusal}
use Rattle.def_model.specs.Answers.{answer_numbers, passed}
use Rattle.def_model.specs.OnBytes.{Call, start, restart, request, Lent, call, lent_after, store_all_bytes}
use Rattle.def_recovery.specs.Events.{is_restart}
use Rattle.def_c.specs.FromC.{Returned, values_size, value_bytes, areas_left, answered, sizes_ok, returned_by, c_call}
use Rattle.law_bytes.specs.DeskBytes.{desk_bytes_back}
use Rattle.law_c.specs.RefusedByC.{empties, empty_desk_bytes, Leaves, refused_for_length}
use Rattle.theory_refusals.specs.Numbers.{zero_if_passed}
use Rattle.theory_refusals.specs.Order.{not_passed}
use Rattle.theory_refusals.specs.Left.{zeroes}
use Rattle.theory_refusals.specs.OnBytes.{left_lent_by, left_lent, refused_leaves}

-- 01: "restart's 3 to 18 zero the working areas", by the number that the function returns.
unfoldable pub zeroes_by : Call → ℕ → Bool
zeroes_by c n = is_restart c && (leb 3 n && leb n 18)

-- The areas with the working ones zeroed.
abbrev pub work_zeroed : Lent → Lent
work_zeroed l = record { work_pages = zeros (length l.work_pages); stable_pages = l.stable_pages; work_log = zeros (length l.work_log); stable_log = l.stable_log }

-- "changes nothing, except that restart's 3 to 18 zero the working areas"; desk and values as `Leaves` says.
pub record RefusedLeaves (c : Call) (l : Lent) (desk values : List ℕ) (r : Returned) : Type 0 where
  pub zeroed : zeroes_by c r.reason ≡ true → r.areas ≡ work_zeroed l
  pub kept : zeroes_by c r.reason ≡ false → r.areas ≡ l
  pub bytes : Leaves c desk values r

-- 1 zeroes nothing.
one_keeps : (c : Call) → zeroes_by c 1 ≡ false
unfolding zeroes_by is_restart
one_keeps (start s) = refl
one_keeps restart = refl
one_keeps (request q) = refl

module _ (c : Call) (l : Lent) (desk values : List ℕ) where
  -- A desk or values of another length.
  of_sizes : sizes_ok desk values ≡ false → RefusedLeaves c l desk values (c_call c l desk values)
  of_sizes wrong =
      let (one, same, b) = refused_for_length c l desk values wrong in
      record { zeroed = λ z. clash (sym z ∙ ap (zeroes_by c) one ∙ one_keeps c); kept = λ z. same; bytes = b }

  -- Of right lengths: what the refused call leaves, written in bytes.
  module _ (right : sizes_ok desk values ≡ true) (r : Refusal) where
    abbrev left_so : (z y : Bool) → Returned
    left_so z y = answered (left_lent_by z y r l (read_desk desk)) l

    sizes : (eqb (length desk) desk_size ≡ true) × (eqb (length values) values_size ≡ true)
    unfolding sizes_ok
    sizes = and_true (eqb (length desk) desk_size) (eqb (length values) values_size) right

    areas_so : (z y : Bool) → zeroes c r ≡ z → (zeroes_by c (left_so z y).reason ≡ true → (left_so z y).areas ≡ work_zeroed l) × (zeroes_by c (left_so z y).reason ≡ false → (left_so z y).areas ≡ l)
    unfolding answered left_lent_by areas_left lent_after store_all_bytes answer_numbers zeroes zeroes_by
    areas_so true y e = (λ h. refl, λ h. clash (sym e ∙ h))
    areas_so false y e = (λ h. clash (sym h ∙ e), λ h. refl)

    bytes_so : (z y : Bool) → empties c ≡ y → Leaves c desk values (left_so z y)
    unfolding answered left_lent_by value_bytes put32 answer_numbers
    bytes_so z true f =
        record {
          zero_values = λ e. refl;
          other_values = λ n. clash (sym sizes.1 ∙ neq_false n);
          zero_desk = λ e k. empty_desk_bytes;
          same_desk = λ e w. clash (sym f ∙ e);
          other_desk = λ n. clash (sym sizes.0 ∙ neq_false n);
        }
    bytes_so z false f =
        record {
          zero_values = λ e. refl;
          other_values = λ n. clash (sym sizes.1 ∙ neq_false n);
          zero_desk = λ e k. clash (sym e ∙ f);
          same_desk = λ e w. desk_bytes_back desk w (true_eq (length desk) desk_size sizes.0);
          other_desk = λ n. clash (sym sizes.0 ∙ neq_false n);
        }

  of_call : sizes_ok desk values ≡ true → (c_call c l desk values).reason ≢ 0 → RefusedLeaves c l desk values (c_call c l desk values)
  unfolding c_call returned_by answered
  of_call right n =
      let x = call c l (read_desk desk) in
      let is : c_call c l desk values ≡ answered x l = ap (λ b. returned_by b c l desk values) right in
      let p : passed x.answer ≡ false = sym (zero_if_passed x.answer) ∙ ap (λ q. eqb q.reason 0) (sym is) ∙ neq_false n in
      let (r, e) = not_passed x.answer p in
      let left : c_call c l desk values ≡ answered (left_lent c r l (read_desk desk)) l = is ∙ ap (λ q. answered q l) (refused_leaves c l (read_desk desk) r e) in
      let (z, k) = areas_so right r (zeroes c r) (empties c) refl in
      subst (RefusedLeaves c l desk values) (sym left) (record { zeroed = z; kept = k; bytes = bytes_so right r (zeroes c r) (empties c) refl })

-- DEMAND 1 OVER C, "what it leaves in every lent area is written down": of every C function that does not return 0, on any bytes and lengths.
pub refused_by_c : (c : Call) (l : Lent) (desk values : List ℕ) → (c_call c l desk values).reason ≢ 0 → RefusedLeaves c l desk values (c_call c l desk values)
refused_by_c c l desk values n = go (case (sizes_ok desk values))
  where
    go : Case (sizes_ok desk values) → RefusedLeaves c l desk values (c_call c l desk values)
    go (yes! e) = of_call c l desk values e n
    go (no! e) = of_sizes c l desk values e
