-- A RUN THAT STARTS FROM BYTES IS RANGED: every number of its pages, records and open batches fits its field.
use Rattle.std.specs.Prelude.{ℕ, suc, ◌+◌, ◌*◌, ◌/◌, ◌≤◌, ◌≡◌, true, List, [], ◌∷◌, length}
use Rattle.std.proofs.Common.{subst, arith}
use Rattle.def_base.specs.Tests.{and_true}
use Rattle.def_layout.specs.declared.Desk.{Desk}
use Rattle.def_layout.specs.Pages.{Page}
use Rattle.def_layout.specs.PageBytes.{without_left}
use Rattle.def_layout.specs.Records.{Rec}
use Rattle.def_layout.specs.Sizes.{page_size, slot_size}
use Rattle.def_model.specs.Areas.{pages_of, blocks_ok}
use Rattle.def_model.specs.Log.{records_of, slots_ok}
use Rattle.def_model.specs.Batches.{Batch, tell, told, open_batches}
use Rattle.def_model.specs.Redo.{redo_record, replay}
use Rattle.def_model.specs.Sound.{sound, layouts_ok, log_ok}
use Rattle.def_model.specs.Calls.{run_of}
use Rattle.def_model.specs.Restart.{redone, redone_pages}
use Rattle.def_model.specs.OnBytes.{Lent, lengths_ok, parts, read_pages, read_work, read_lefts, read_log, read_areas}
use Rattle.law_areas.specs.Lengths.{Lengths, lengths_said}
use Rattle.law_areas.specs.Parts.{parts_length}
use Rattle.law_areas.specs.Logs.{AllFit as RecordsFit}
use Rattle.law_widths.specs.Each.{Each}
use Rattle.theory_calls.specs.Checks.{sound_parts}
use Rattle.theory_ranges.specs.Batches.{Valued, values_tell, Lasts, lasts_tell}
use Rattle.theory_ranges.specs.Pages.{AllFit, pages_fit}
use Rattle.theory_ranges.specs.Ranged.{Ranged}
use Rattle.theory_history.specs.Linking.{NarrowLinks}
use Rattle.theory_readback.specs.Shown.{blocks_fit, links_narrow, slots_fit}

-- ---- the open batches

told_values : (n : ℕ) (log : List Rec) (bs : List Batch) → RecordsFit n log → Each Valued bs → Each Valued (told n log bs)
unfolding told RecordsFit
told_values n [] bs f h = h
told_values n (r ∷ log) bs f h = let v = f.0.second in told_values (suc n) log (tell r.kind n r bs) f.1 (values_tell r.kind n r bs (omega arith) h)

told_lasts : (m : ℕ) (log : List Rec) (bs : List Batch) → Each (Lasts m) bs → Each (Lasts (m + length log)) (told (suc m) log bs)
unfolding told
told_lasts m [] bs h = let e : m ≡ m + 0 = omega arith in subst (λ z. Each (Lasts z) bs) e h
told_lasts m (r ∷ log) bs h =
    let e : suc m + length log ≡ m + suc (length log) = omega arith in
    subst (λ z. Each (Lasts z) (told (suc (suc m)) log (tell r.kind (suc m) r bs))) e (told_lasts (suc m) log (tell r.kind (suc m) r bs) (lasts_tell r.kind m r bs h))

open_values : (log : List Rec) → RecordsFit 1 log → Each Valued (open_batches log)
unfolding open_batches Each
open_values log f = told_values 1 log [] f tt

open_lasts : (log : List Rec) → Each (Lasts (length log)) (open_batches log)
unfolding open_batches Each
open_lasts log = let e : 0 + length log ≡ length log = omega arith in subst (λ z. Each (Lasts z) (told 1 log [])) e (told_lasts 0 log [] tt)

-- ---- redo

replay_fit : (n : ℕ) (log : List Rec) (pages : List Page) → RecordsFit n log → AllFit pages → AllFit (replay n log pages)
unfolding replay RecordsFit
replay_fit n [] pages f g = g
replay_fit n (r ∷ log) pages f g = replay_fit (suc n) log (redo_record n r pages) f.1 (pages_fit n r pages f.0 g)

-- ---- a side of bytes

work_fits : (b : List ℕ) (n : ℕ) → blocks_ok n 0 (read_work b) ≡ true → AllFit (pages_of (read_work b))
unfolding read_work
work_fits b n e = blocks_fit without_left n 0 (parts (length b / page_size) page_size b) e

stable_fits : (b : List ℕ) (n : ℕ) → blocks_ok n 0 (read_pages b) ≡ true → AllFit (pages_of (read_pages b))
unfolding read_pages
stable_fits b n e = blocks_fit (λ x. x) n 0 (parts (length b / page_size) page_size b) e

records_fit : (c : List ℕ) (n m : ℕ) → length c ≡ slot_size * m → m ≤ 16384 → slots_ok n 1 (read_log c) ≡ true → RecordsFit 1 (records_of (read_log c))
unfolding read_log
records_fit c n m size most e =
    let z = parts_length (length c / slot_size) slot_size c in
    let k : length c / slot_size ≡ m = omega arith in
    slots_fit n 1 (parts (length c / slot_size) slot_size c) (omega arith) e

module _ (l : Lent) (lens : lengths_ok l ≡ true) where
  z : Lengths l (length l.work_pages / page_size) (length l.work_log / slot_size)
  z = lengths_said l lens

  -- The working areas, if they are sound.
  pub work_ranged : (d : Desk) → sound (read_areas l) d ≡ true → Ranged (run_of (read_areas l))
  unfolding read_areas run_of layouts_ok log_ok
  work_ranged d s =
      let parts = sound_parts (read_areas l) d s in
      let r = records_fit l.work_log _ (length l.work_log / slot_size) z.work_log z.most_slots (and_true _ _ parts.log).0 in
      record {
        pages = work_fits l.work_pages _ parts.layouts;
        records = r;
        values = open_values (records_of (read_log l.work_log)) r;
        lasts = open_lasts (records_of (read_log l.work_log));
      }

  -- Their left links, sound or not.
  pub work_narrow : NarrowLinks (read_areas l).work.lefts
  unfolding read_areas read_lefts
  work_narrow = links_narrow (parts (length l.work_pages / page_size) page_size l.work_pages)

  -- Any stored image that keeps refusals 3 and 4, redone.
  pub redone_ranged : layouts_ok (read_areas l).stable ≡ true → log_ok (read_areas l).stable ≡ true → Ranged (redone (read_areas l))
  unfolding read_areas redone redone_pages layouts_ok log_ok
  redone_ranged e o =
      let r = records_fit l.stable_log _ (length l.work_log / slot_size) z.stable_log z.most_slots (and_true _ _ o).0 in
      record {
        pages = replay_fit 1 (records_of (read_log l.stable_log)) (pages_of (read_pages l.stable_pages)) r (stable_fits l.stable_pages _ e);
        records = r;
        values = open_values (records_of (read_log l.stable_log)) r;
        lasts = open_lasts (records_of (read_log l.stable_log));
      }
