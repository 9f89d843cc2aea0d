-- A RETURN TO A MARK (02, U2), on every sound register: it is done, the list is the one before with the batch's updates above the mark taken back, and
-- held are the keys of what is still pending.
use Rattle.std.specs.Prelude.{ℕ, suc, ◌<◌, ◌≡◌, ◌↔◌, true, false, List, [], ◌∷◌, length}
use Rattle.std.proofs.Common.{sym, ◌∙◌, subst}
use Rattle.std.proofs.Math.Path.{ap}
use Rattle.std.proofs.Math.Option.{Option, none, some}
use Rattle.def_base.specs.Tests.{pick, eq_true, lt_true, none_some}
use Rattle.def_layout.specs.declared.Desk.{Desk}
use Rattle.def_layout.specs.Entries.{look, insert_sorted}
use Rattle.def_model.specs.declared.Refusal.TheVariants.{NoMark}
use Rattle.def_model.specs.declared.Answer.TheVariants.{Done}
use Rattle.def_model.specs.Log.{records_of}
use Rattle.def_model.specs.Areas.{Areas, pages_of}
use Rattle.def_model.specs.Answers.{Outcome, first_broken, refuse}
use Rattle.def_model.specs.Batches.{Line, Batch, find_batch, change_batch, open_batches, is_record_of}
use Rattle.def_model.specs.Pending.{held}
use Rattle.def_model.specs.TreeRules.{leaf_records}
use Rattle.def_model.specs.Update.{Run}
use Rattle.def_model.specs.Undo.{return_run}
use Rattle.def_model.specs.Sound.{sound, work_log, work_open}
use Rattle.def_model.specs.Calls.{run_of, run_side, kept_run, is_none, returned, return_of, return_checks, return_batch}
use Rattle.def_model.specs.OnBytes.{request, return_to, checks, request_checks, does, request_does, refused, refused_work, refused_desk, outcome}
use Rattle.law_areas.specs.Typed.{pages_back, log_back}
use Rattle.law_areas.specs.Outcomes.{broken_refused, unbroken_does}
use Rattle.theory_tree.specs.Order.Keys.{Rising}
use Rattle.theory_tree.specs.Order.Sorted.{look_insert}
use Rattle.theory_ledger.specs.Runs.{Runs, carry_lines}
use Rattle.theory_ledger.specs.Settles.{undo_apply_by, undo_apply}
use Rattle.theory_ledger.specs.HeldBy.{HeldBy, held_means}
use Rattle.theory_ledger.specs.Marks.{kept, taken_back, left_with, open_falls}
use Rattle.theory_ledger.specs.TakenBack.{Back, value_back, lines_taken_back, found_runs}
use Rattle.theory_sound.specs.FromSound.{sound_core}
use Rattle.theory_sound.specs.SoundKept.{return_finds_room, return_returned}
use Rattle.theory_sound.specs.Kept.{Lendable}
use Rattle.theory_sound.specs.SortedList.{list, Changed}

module _ (a : Areas) (d : Desk) (l : Lendable a) (s : sound a d ≡ true) (b mark : ℕ) (y : Batch) (f : find_batch b (work_open a) ≡ some y) (is : is_record_of b mark (work_log a) ≡ true) where
  t : Run
  t = return_run mark y (run_of a)

  goes : outcome (request (return_to b mark)) a d ≡ kept_run Done a t d
  unfolding checks request_checks does request_does return_batch return_checks first_broken is_none returned t
  goes =
      let z = return_finds_room a d l.few l.equal l.small s b mark (ap is_none f) in
      unbroken_does (request (return_to b mark)) a d (rw (s, ap is_none f, is, eq_true (return_of b mark a).stop 0 z)) ∙ ap (λ o. kept_run Done a (returned mark o (run_of a)) d) f

  -- The batch's lines run on every key from what it found to the list.
  runs : (k : ℕ) → (o : Option ℕ) × Runs k o y.lines (look k (list a))
  unfolding run_of
  runs k = let (sl, c) = sound_core a d s l.few l.small in found_runs b k (work_open a) y f (c.settles.at_key k)

  list_rises : Rising 0 (list a)
  unfolding run_of
  list_rises = let (sl, c) = sound_core a d s l.few l.small in c.settles.leaves_rise

  -- DEMAND 2 OF A RETURN: "every pending update it made after that mark", the newest first, is taken back from the list, and no other.
  pub return_answers : Changed (outcome (request (return_to b mark)) a d) (taken_back mark y.lines (list a))
  unfolding kept_run run_side run_of t
  return_answers =
      record {
        done = ap (λ o. o.answer) goes;
        leaves = ap (λ o. leaf_records (pages_of o.work.pages)) goes ∙ ap leaf_records (pages_back t.pages) ∙ (return_returned a d l.few l.equal l.small s b mark y f).leaves;
        nothing_stored = ap (λ o. o.stores) goes;
      }

  back : Back mark y.lines (list a)
  back = lines_taken_back mark (suc (length (work_log a))) y.lines (list a) (open_falls (work_log a) b y f) list_rises runs

  -- KEY BY KEY: what the oldest update above the mark on it found, what it has if none is on it.
  pub return_at_key : (k : ℕ) → look k (leaf_records (pages_of (outcome (request (return_to b mark)) a d).work.pages)) ≡ value_back mark k y.lines (look k (list a))
  return_at_key k = ap (look k) return_answers.leaves ∙ back.at_key k

  -- It is what the updates kept make of what the batch found: the list with all its updates taken back.
  pub return_keeps : leaf_records (pages_of (outcome (request (return_to b mark)) a d).work.pages) ≡ carry_lines (kept mark y.lines) (taken_back 0 y.lines (list a))
  return_keeps = return_answers.leaves ∙ sym back.left

  -- The batches afterwards: this one with the updates kept, the others as they were.
  pub last : ℕ
  last = (return_returned a d l.few l.equal l.small s b mark y f).last

  abbrev pub left_open : List Batch
  left_open = change_batch b (left_with last (kept mark y.lines)) (work_open a)

  pub return_opens : open_batches (records_of (outcome (request (return_to b mark)) a d).work.log) ≡ left_open
  unfolding kept_run run_side run_of t last
  return_opens = ap (λ o. open_batches (records_of o.work.log)) goes ∙ ap open_batches (log_back _ t.log) ∙ (return_returned a d l.few l.equal l.small s b mark y f).opens

  -- "a key whose updates are all undone is no longer held": held are the keys of these batches' pending updates.
  pub return_held : (n k : ℕ) → (held n k (open_batches (records_of (outcome (request (return_to b mark)) a d).work.log)) ≡ true) ↔ HeldBy n (λ j. k ≡ j) left_open
  return_held n k = subst (λ bs. (held n k bs ≡ true) ↔ HeldBy n (λ j. k ≡ j) left_open) (sym return_opens) (held_means n k left_open)

-- A mark that is the number of no record of that batch.
pub return_unknown : (a : Areas) (d : Desk) → sound a d ≡ true → (b mark : ℕ) → is_none (find_batch b (work_open a)) ≡ false → is_record_of b mark (work_log a) ≡ false → outcome (request (return_to b mark)) a d ≡ refuse NoMark a d
unfolding checks request_checks return_checks refused refused_work refused_desk first_broken
return_unknown a d s b mark op n = broken_refused (request (return_to b mark)) a d NoMark (rw (s, op, n))

-- A RETURN THAT DOES NOT PUT A DELETED SLIDE BACK is none: no outcome whose list lacks the slide meets `return_answers`.
pub put_back : (a : Areas) (mark : ℕ) (y : Batch) (l : Line) (o : Outcome) → y.lines ≡ l ∷ [] → l.adds ≡ false → mark < l.number → look l.key (leaf_records (pages_of o.work.pages)) ≡ none
    → Changed o (taken_back mark y.lines (list a)) → ⊥
unfolding taken_back undo_apply_by
put_back a mark y l o e del m lost c =
    let one : taken_back mark y.lines (list a) ≡ insert_sorted l.key l.value (list a) =
    ap (λ ls. taken_back mark ls (list a)) e ∙ ap (λ t. pick t (undo_apply l (list a)) (list a)) (lt_true mark l.number m) ∙ ap (λ z. undo_apply_by z l.key l.value (list a)) del in
    none_some (sym lost ∙ ap (look l.key) (c.leaves ∙ one) ∙ look_insert l.key l.value (list a))
