-- RANGES: every number of a run's pages, records and open batches fits its field, and every lawful record more keeps that.
use Rattle.std.specs.Prelude.{ℕ, zero, suc, ◌+◌, ◌≤◌, ◌<◌, ◌^◌, ◌≡◌, refl, true, List, [], ◌∷◌, ◌++◌, length, get_or, leb}
use Rattle.std.proofs.Common.{sym, ◌∙◌, subst, arith, suc-add, add-suc, add-zero, length-append}
use Rattle.def_base.specs.Tests.{and_true}
use Rattle.def_layout.specs.declared.Entry.{Entry}
use Rattle.def_layout.specs.Desks.{most_open}
use Rattle.def_layout.specs.Pages.{at, map_bits}
use Rattle.def_layout.specs.PageBytes.{page_bytes, page, read_block}
use Rattle.def_layout.specs.Records.{Rec}
use Rattle.def_layout.specs.RecordBytes.{record_bytes, full, read_slot}
use Rattle.def_model.specs.TreeRules.{levels_of}
use Rattle.def_model.specs.Update.{Run}
use Rattle.def_model.specs.Batches.{Batch, find_batch, tell, open_batches, chains, chain_step}
use Rattle.theory_tree.specs.Shape.Rules.{Rules}
use Rattle.theory_tree.specs.Test.Test.{test_sound}
use Rattle.theory_update.specs.Run.Way.{written_by}
use Rattle.theory_ledger.specs.Telling.{numbered_open, open_more}
use Rattle.theory_history.specs.Core.{Core, NextRecord}
use Rattle.theory_history.specs.Trail.{Trail, stay, more, trail_core}
use Rattle.law_bytes.specs.PageBytes.{read_block_back}
use Rattle.law_bytes.specs.RecordBytes.{Fits as RecordFits, read_slot_back}
use Rattle.law_areas.specs.Logs.{AllFit as RecordsFit, fit_append}
use Rattle.law_widths.specs.Each.{Each}
use Rattle.theory_ranges.specs.Batches.{Valued, values_tell, Lasts, lasts_tell, of_batch, Says, chains_say}
use Rattle.theory_ranges.specs.Pages.{AllFit, pages_fit}
use Rattle.theory_ranges.specs.Records.{step_fits}

-- ---- the log's records

-- The record at a place.
pub record_at : (m : ℕ) (log : List Rec) (d : Rec) (i : ℕ) → i < length log → RecordsFit m log → RecordFits (m + i) (get_or log i d)
unfolding RecordsFit
record_at m [] d i l h = absurd (omega arith)
record_at m (r ∷ log) d zero l h = subst (λ z. RecordFits z r) (sym (add-zero m)) h.0
record_at m (r ∷ log) d (suc i) l h = subst (λ z. RecordFits z (get_or log i d)) (suc-add m i ∙ sym (add-suc m i)) (record_at (suc m) log d i (omega arith) h.1)

-- ---- a run's numbers

pub record Ranged (s : Run) : Type 0 where
  pub pages : AllFit s.pages
  pub records : RecordsFit 1 s.log
  pub values : Each Valued (open_batches s.log)
  pub lasts : Each (Lasts (length s.log)) (open_batches s.log)

-- The record that comes next fits.
pub next_fits : (n : ℕ) → n ≤ map_bits → (s : Run) (sl sl' : List Entry) (r : Rec) → Core n s sl → NextRecord s sl r sl' → s.due < 2 ^ 32 → Ranged s → RecordFits s.due r
unfolding chain_step
next_fits n most s sl sl' r c x low g =
    let e = c.size in
    let few : length s.pages ≤ map_bits = omega arith in
    let k : Rules s.pages (levels_of s.pages) = test_sound s.pages c.tree in
    step_fits s.due low s.pages few g.pages (levels_of s.pages) x.after r x.step k x.begins x.small_value said
  where
    bs : List Batch
    bs = open_batches s.log

    said : of_batch r.kind ≡ true → Says s.due r.kind r
    said t =
        let d = c.due in
        let a = (and_true (chains r.kind r (find_batch r.batch bs)) (leb (length (tell r.kind s.due r bs)) most_open) x.keeps_chain).0 in
        let w = chains_say (length s.log) r bs (numbered_open s.log).within g.lasts g.values r.kind (find_batch r.batch bs) refl t a in
        let p = w.batch_within in
        let q = w.previous_within in
        record { batch_within = omega arith; previous_within = omega arith; value_small = w.value_small }

-- ONE RECORD MORE.
pub ranged_more : (n : ℕ) → n ≤ map_bits → (s : Run) (sl sl' : List Entry) (r : Rec) → Core n s sl → NextRecord s sl r sl' → s.due < 2 ^ 32 → Ranged s → Ranged (written_by r s)
unfolding RecordsFit
ranged_more n most s sl sl' r c x low g =
    let f = next_fits n most s sl sl' r c x low g in
    let d = c.due in
    let num : s.due ≡ 1 + length s.log = omega arith in
    let v = f.second in
    let len : length (s.log ++ r ∷ []) ≡ suc (length s.log) = let l = length-append s.log (r ∷ []) in omega arith in
    let tells = open_more s.log r in
    record {
      pages = pages_fit s.due r s.pages f g.pages;
      records = fit_append 1 s.log (r ∷ []) g.records (subst (λ m. RecordFits m r) num f, tt);
      values = subst (Each Valued) (sym tells) (values_tell r.kind (suc (length s.log)) r (open_batches s.log) (omega arith) g.values);
      lasts = subst (λ m. Each (Lasts m) (open_batches (s.log ++ r ∷ []))) (sym len) (subst (Each (Lasts (suc (length s.log)))) (sym tells) (lasts_tell r.kind (length s.log) r (open_batches s.log) g.lasts));
    }

-- ALONG A TRAIL.
pub ranged_trail : {n : ℕ} {s t : Run} {sl sl' : List Entry} → n ≤ map_bits → Trail s sl t sl' → Core n s sl → t.due ≤ 2 ^ 32 → Ranged s → Ranged t
ranged_trail most stay c l g = g
ranged_trail {n} most (more {t = t} {sl₁ = a} {r = r} p x) c l g =
    ranged_more n most t a a r (trail_core most p c) x l (ranged_trail most p c (omega arith) g)

-- ---- their bytes

-- A page is read back from its bytes, and a record from its slot's.
pub page_back : (s : Run) → Ranged s → (p : ℕ) → p < length s.pages → read_block (page_bytes (at s.pages p)) ≡ page (at s.pages p)
page_back s g p h = read_block_back (at s.pages p) (g.pages p h)

pub record_back : (s : Run) → Ranged s → (d : Rec) (i : ℕ) → i < length s.log → read_slot (record_bytes (suc i) (get_or s.log i d)) ≡ full (suc i) (get_or s.log i d)
record_back s g d i h =
    let e : 1 + i ≡ suc i = omega arith in
    read_slot_back (suc i) (get_or s.log i d) (subst (λ z. RecordFits z (get_or s.log i d)) e (record_at 1 s.log d i h g.records))
