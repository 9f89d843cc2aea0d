-- THE SORTED LIST, on bytes: the list that the next call reads is the one that an insert, a delete or a return left.
use Rattle.std.specs.Prelude.{ℕ, ◌≡◌, ◌≢◌, true, false, ◌&&◌}
use Rattle.std.proofs.Math.Path.{ap}
use Rattle.std.proofs.Common.{◌∙◌}
use Rattle.std.proofs.Math.Option.{none, some}
use Rattle.def_base.specs.Tests.{and_true, true_le}
use Rattle.def_layout.specs.declared.Desk.{Desk}
use Rattle.def_layout.specs.Entries.{top, look, insert_sorted, remove_key}
use Rattle.def_model.specs.declared.Answer.TheVariants.{Done}
use Rattle.def_model.specs.Areas.{pages_of}
use Rattle.def_model.specs.Log.{records_of}
use Rattle.def_model.specs.Batches.{Batch, find_batch, open_batches, unmarked, is_record_of}
use Rattle.def_model.specs.Pending.{held}
use Rattle.def_model.specs.TreeRules.{leaf_records}
use Rattle.def_model.specs.Sound.{sound, work_pages, work_log, work_slots, work_open, update_has_slots, update_has_pages}
use Rattle.def_model.specs.CallNames.{insert, delete, return_to}
use Rattle.def_model.specs.OnBytes.{Call, Lent, lengths_ok, read_areas, outcome, call, call_by}
use Rattle.def_recovery.specs.Events.{fits_32, of_32_bits, request_32}
use Rattle.theory_ledger.specs.Marks.{taken_back}
use Rattle.theory_sound.specs.OfBytes.{lendable}
use Rattle.theory_sound.specs.SortedList.{list, insert_answers, delete_answers}
use Rattle.theory_sound.specs.Returning.{return_answers}
use Rattle.theory_readback.specs.ReadBack.{after, read_back}

module _ (l : Lent) (d : Desk) (lens : lengths_ok l ≡ true) where
  -- What the next call reads.
  pub list_read : (c : Call) → of_32_bits c ≡ true → list (read_areas (after c l d)) ≡ leaf_records (pages_of (outcome c (read_areas l) d).work.pages)
  list_read c k = ap list (read_back c l d k lens).1

  pub open_read : (c : Call) → of_32_bits c ≡ true → work_open (read_areas (after c l d)) ≡ open_batches (records_of (outcome c (read_areas l) d).work.log)
  open_read c k = ap work_open (read_back c l d k lens).1

  pub answer_is : (c : Call) → (call c l d).answer ≡ (outcome c (read_areas l) d).answer
  unfolding call call_by
  answer_is c = ap (λ b. (call_by b c l d).answer) lens

  module _ (s : sound (read_areas l) d ≡ true) where
    -- INSERT.
    pub insert_on_bytes : (b k v : ℕ) → of_32_bits (insert b k v) ≡ true → k ≢ 0 → unmarked (find_batch b (work_open (read_areas l))) ≡ true → held b k (work_open (read_areas l)) ≡ false → look k (list (read_areas l)) ≡ none
        → update_has_slots (work_slots (read_areas l)) (work_log (read_areas l)) (work_open (read_areas l)) ≡ true → update_has_pages (work_pages (read_areas l)) (work_open (read_areas l)) ≡ true
        → ((call (insert b k v) l d).answer ≡ Done) × (list (read_areas (after (insert b k v) l d)) ≡ insert_sorted k v (list (read_areas l)))
    unfolding of_32_bits request_32
    insert_on_bytes b k v w nz u h ab p q =
        let kt = true_le k top (and_true (fits_32 k) (fits_32 v) (and_true (fits_32 b) (fits_32 k && fits_32 v) w).1).0 in
        let x = insert_answers (read_areas l) d s (lendable l lens).few b k v nz kt u h ab p q in
        (answer_is (insert b k v) ∙ x.done, list_read (insert b k v) w ∙ x.leaves)

    -- DELETE.
    pub delete_on_bytes : (b k v : ℕ) → of_32_bits (delete b k) ≡ true → unmarked (find_batch b (work_open (read_areas l))) ≡ true → held b k (work_open (read_areas l)) ≡ false → look k (list (read_areas l)) ≡ some v
        → update_has_slots (work_slots (read_areas l)) (work_log (read_areas l)) (work_open (read_areas l)) ≡ true → update_has_pages (work_pages (read_areas l)) (work_open (read_areas l)) ≡ true
        → ((call (delete b k) l d).answer ≡ Done) × (list (read_areas (after (delete b k) l d)) ≡ remove_key k (list (read_areas l)))
    unfolding of_32_bits request_32
    delete_on_bytes b k v w u h th p q =
        let kt = true_le k top (and_true (fits_32 b) (fits_32 k) w).1 in
        let x = delete_answers (read_areas l) d s (lendable l lens).few b k v kt u h th p q in
        (answer_is (delete b k) ∙ x.done, list_read (delete b k) w ∙ x.leaves)

    -- RETURN: the list with the updates after the mark taken back.
    pub return_on_bytes : (b mark : ℕ) (y : Batch) → of_32_bits (return_to b mark) ≡ true → find_batch b (work_open (read_areas l)) ≡ some y → is_record_of b mark (work_log (read_areas l)) ≡ true
        → ((call (return_to b mark) l d).answer ≡ Done) × (list (read_areas (after (return_to b mark) l d)) ≡ taken_back mark y.lines (list (read_areas l)))
    return_on_bytes b mark y w f i =
        let x = return_answers (read_areas l) d (lendable l lens) s b mark y f i in
        (answer_is (return_to b mark) ∙ x.done, list_read (return_to b mark) w ∙ x.leaves)
