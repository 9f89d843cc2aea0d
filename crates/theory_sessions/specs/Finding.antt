-- What a further restart finds, by the typed areas that the bytes show.
use Rattle.std.specs.Prelude.{ℕ, ◌≡◌, List}
use Rattle.std.proofs.Math.Path.{sym, ap}
use Rattle.std.proofs.Common.{◌∙◌}
use Rattle.std.proofs.Math.Bool.{true}
use Rattle.def_layout.specs.declared.Entry.{Entry}
use Rattle.def_model.specs.Areas.{pages_of}
use Rattle.def_model.specs.Answers.{Outcome, answer_numbers}
use Rattle.def_model.specs.TreeRules.{leaf_records}
use Rattle.def_model.specs.OnBytes.{outcome, call_by, lengths_ok, read_work}
use Rattle.def_model.specs.CallNames.{restart}
use Rattle.def_recovery.specs.Events.{World, result}
use Rattle.def_recovery.specs.Demand3.{reason}
use Rattle.def_sessions.specs.Play.{Machine}
use Rattle.law_areas.specs.Lengths.{lengths_enough}
use Rattle.theory_refusals.specs.Grants.{restart_granted}
use Rattle.theory_recovery.specs.Going.{outcome_in}
use Rattle.theory_recovery.specs.Steps.{result_by}
use Rattle.theory_recovery.specs.Theorem.{leaves}
use Rattle.theory_sessions.specs.Leaving.{call_reads}
use Rattle.theory_sessions.specs.Tie.{Tied}

-- There a further restart finishes and finds these slides, which are the plain book's.
pub record Found (slides : List Entry) (w : World) : Type 0 where
  pub lengths : lengths_ok w.lent ≡ true
  pub finishes : reason w ≡ 0
  pub leaves_are : leaf_records (pages_of (read_work (result restart w).work_pages)) ≡ slides
  pub book_is : w.book.slides ≡ slides

-- The further restart of a machine.
unfoldable pub further : Machine → Outcome
further x = outcome restart x.areas x.desk

module _ (n m : ℕ) (w : World) (x : Machine) (t : Tied n m w x.areas x.desk) where
  lens : lengths_ok w.lent ≡ true
  lens = lengths_enough w.lent n m t.lengths

  is_further : outcome_in restart w ≡ further x
  unfolding further
  is_further = λ i. outcome restart (t.areas i) (t.desk i)

  pub finds_slides : (slides : List Entry) → (answer_numbers (further x).answer).reason ≡ 0 → leaf_records (pages_of (further x).work.pages) ≡ slides → Found slides w
  unfolding call_by
  finds_slides slides p q =
      let r : reason w ≡ 0 = ap (λ y. (answer_numbers y.answer).reason) (result_by restart w true lens) ∙ ap (λ o. (answer_numbers o.answer).reason) is_further ∙ p in
      let s : leaf_records (pages_of (read_work (result restart w).work_pages)) ≡ slides =
      ap (λ y. leaf_records (pages_of (read_work y.work_pages))) (result_by restart w true lens)
      ∙ ap (λ b. leaf_records (pages_of b)) (call_reads w t.inv n m t.lengths restart (restart_granted w)).work.pages ∙ ap (λ o. leaf_records (pages_of o.work.pages)) is_further ∙ q in
      record { lengths = lens; finishes = r; leaves_are = s; book_is = sym (leaves w t.inv lens r) ∙ s }
