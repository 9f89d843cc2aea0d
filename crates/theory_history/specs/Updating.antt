-- An update as a trail: records of the tree, and last the batch's own.
use Rattle.std.specs.Prelude.{ℕ, suc, ◌≤◌, ◌≡◌, true, List, [], ◌∷◌, ◌++◌, length}
use Rattle.std.proofs.Math.Path.{refl, sym, subst}
use Rattle.std.proofs.Common.{ap, ◌∙◌, append_assoc, arith, length-append}
use Rattle.std.proofs.Math.Option.{none, some}
use Rattle.std.proofs.Math.Dec.{leb}
use Rattle.def_base.specs.Tests.{and_both, le_true}
use Rattle.def_layout.specs.declared.Entry.{Entry}
use Rattle.def_layout.specs.Entries.{top, look}
use Rattle.def_layout.specs.Pages.{map_bits}
use Rattle.def_layout.specs.Records.{Rec, Kind, begin, insert, data_row}
use Rattle.def_model.specs.TreeRules.{Node, levels_of, leaf_records}
use Rattle.def_model.specs.Update.{Run, put_record, remove_record}
use Rattle.def_model.specs.Batches.{tell, open_batches, chain_step, chains, find_batch}
use Rattle.theory_tree.specs.Step.Steps.{Step, Adding, Removing}
use Rattle.theory_tree.specs.Step.Leaves.{records_after}
use Rattle.theory_update.specs.Run.Wrote.{AllStructural, put_wrote, remove_wrote}
use Rattle.theory_update.specs.Laws.{ready_live}
use Rattle.theory_update.specs.Run.Way.{Way, stay, more, written_by}
use Rattle.theory_update.specs.Updates.{put_went, remove_went, unstopped}
use Rattle.theory_ledger.specs.Small.{Small}
use Rattle.theory_ledger.specs.Settles.{Settles}
use Rattle.theory_ledger.specs.Telling.{slides_by}
use Rattle.theory_history.specs.Core.{Core, NextRecord, core_ready, told_due}
use Rattle.theory_history.specs.Trail.{Trail, trail_core}
use Rattle.theory_history.specs.TreeTrail.{last_cancel, way_silent, Silently, leaves_after}

-- ---- the batch's own record

-- What it owes, from where the update started: it keeps the chain and the pending rule, whatever its number will be.
pub record Data (s : Run) (sl : List Entry) (r : Rec) : Type 0 where
  pub not_begin : r.kind ≡ begin → ⊥
  pub small_value : r.kind ≡ insert → r.second ≤ top
  pub keeps_chain : chains r.kind r (find_batch r.batch (open_batches s.log)) ≡ true
  pub few : (m : ℕ) → length (tell r.kind m r (open_batches s.log)) ≤ 8
  pub small : (m : ℕ) → Small (tell r.kind m r (open_batches s.log))
  pub same_slides : slides_by r.kind r (open_batches s.log) sl ≡ sl
  pub tells : (m : ℕ) → Settles sl (records_after r.kind r.key r.second (leaf_records s.pages)) (tell r.kind m r (open_batches s.log))

-- How it ends: number m is its record.
pub record Updated (s : Run) (sl : List Entry) (t : Run) (r : Rec) : Type 0 where
  pub trail : Trail s sl t sl
  pub number : ℕ
  pub due : t.due ≡ suc number
  pub opens : open_batches t.log ≡ tell r.kind number r (open_batches s.log)
  pub leaves : leaf_records t.pages ≡ records_after r.kind r.key r.second (leaf_records s.pages)

module _ (n : ℕ) (most : n ≤ map_bits) where
  last_next : (s t : Run) (sl : List Entry) (r : Rec) (ls₁ ls₂ : List (List Node)) → Silently n s sl t ls₁ → Step t.pages (levels_of t.pages) r ls₂ → Data s sl r → NextRecord t sl r sl
  unfolding chain_step
  last_next s t sl r ls₁ ls₂ x k d =
      let o = x.opens in
      record {
        after = ls₂;
        step = k;
        begins = λ z. absurd (d.not_begin z);
        small_value = d.small_value;
        keeps_chain =
            and_both (subst (λ bs. chains r.kind r (find_batch r.batch bs) ≡ true) (sym o) d.keeps_chain)
            (subst (λ bs. leb (length (tell r.kind t.due r bs)) 8 ≡ true) (sym o) (le_true (length (tell r.kind t.due r (open_batches s.log))) 8 (d.few t.due)));
        keeps_small = subst (λ bs. Small (tell r.kind t.due r bs)) (sym o) (d.small t.due);
        story = sym (subst (λ bs. slides_by r.kind r bs sl ≡ sl) (sym o) d.same_slides);
        tells =
            subst (λ bs. Settles sl (records_after r.kind r.key r.second (leaf_records t.pages)) (tell r.kind t.due r bs)) (sym o)
            (subst (λ es. Settles sl (records_after r.kind r.key r.second es) (tell r.kind t.due r (open_batches s.log))) (sym x.leaves) (d.tells t.due));
      }

  pub way_updated : (s t : Run) (sl : List Entry) (ls ls' : List (List Node)) (recs : List Rec) (r : Rec) → Core n s sl → ls ≡ levels_of s.pages → Way s ls t ls' → t.log ≡ (s.log ++ recs) ++ r ∷ [] → AllStructural recs → Data s sl r
      → Updated s sl t r
  way_updated s t sl ls ls' recs r c e stay l a d =
      let x = ap length l in let y = length-append (s.log ++ recs) (r ∷ []) in let z = length-append s.log recs in absurd (omega arith)
  way_updated s t sl ls ls' recs r c e (more {t = u} {ls₁ = l₁} {r = q} w k) l a d =
      let (p, f) = last_cancel u.log (s.log ++ recs) q r l in
      let x = way_silent n most sl recs c e w p a in
      let cu = trail_core most x.trail c in
      let d' : Data s sl q = subst (Data s sl) (sym f) d in
      let k' : Step u.pages (levels_of u.pages) q ls' = subst (λ z. Step u.pages z q ls') x.levels k in
      let next = last_next s u sl q l₁ ls' x k' d' in
      subst (Updated s sl (written_by q u)) f
      (record {
        trail = Trail.more x.trail next;
        number = u.due;
        due = refl;
        opens = told_due n u sl q cu ∙ ap (tell q.kind u.due q) x.opens;
        leaves = leaves_after n most u sl q ls' cu k' ∙ ap (records_after q.kind q.key q.second) x.leaves;
      })

  -- AN ADDITION that did not stop.
  pub put_updated : (kind : Kind) (batch previous k v : ℕ) (s : Run) (sl : List Entry) → Core n s sl → Adding kind → k ≤ top → look k (leaf_records s.pages) ≡ none
      → ((page : ℕ) → Data s sl (data_row kind batch previous page k v)) → (put_record kind batch previous k v s).stop ≡ 0
      → (page : ℕ) × Updated s sl (put_record kind batch previous k v s) (data_row kind batch previous page k v)
  unfolding leaf_records
  put_updated kind batch previous k v s sl c ad kt ab d z =
      let w = put_wrote kind batch previous k v s z in
      let f = unstopped s (levels_of s.pages) 13 7 _ _ (put_went kind batch previous k v s (levels_of s.pages) (ready_live s (core_ready n most s sl c)) kt ad ab) z in
      (w.page, way_updated s _ sl (levels_of s.pages) f.after w.body _ c refl f.way (w.written ∙ sym (append_assoc s.log w.body _)) w.structural (d w.page))

  -- A REMOVAL that did not stop.
  pub remove_updated : (kind : Kind) (batch previous k v u : ℕ) (s : Run) (sl : List Entry) → Core n s sl → Removing kind v u → k ≤ top → look k (leaf_records s.pages) ≡ some u
      → ((page : ℕ) → Data s sl (data_row kind batch previous page k v)) → (remove_record kind batch previous k v s).stop ≡ 0
      → (page : ℕ) × Updated s sl (remove_record kind batch previous k v s) (data_row kind batch previous page k v)
  unfolding leaf_records
  remove_updated kind batch previous k v u s sl c rm kt th d z =
      let w = remove_wrote kind batch previous k v s z in
      let f = unstopped s (levels_of s.pages) 32 6 _ _ (remove_went kind batch previous k v u s (levels_of s.pages) (ready_live s (core_ready n most s sl c)) kt rm th) z in
      (w.page, way_updated s _ sl (levels_of s.pages) f.after w.body _ c refl f.way (w.written ∙ sym (append_assoc s.log w.body _)) w.structural (d w.page))
