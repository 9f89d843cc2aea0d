-- A HISTORY: a log that lawful records wrote, from an origin of n pages on. Every first part of it is sound.
use Rattle.std.specs.Prelude.{ℕ, suc, ◌+◌, ◌≤◌, ◌<◌, ◌≡◌, refl, ◌⊎◌, true, List, [], ◌∷◌, ◌++◌, length}
use Rattle.std.proofs.Common.{sym, ap, ◌∙◌, subst, inl, inr, append_assoc, append-nil, arith, suc-add, add-suc, add-zero, length-append}
use Rattle.def_layout.specs.declared.Entry.{Entry}
use Rattle.def_layout.specs.Pages.{at, map_bits}
use Rattle.def_layout.specs.Records.{Rec}
use Rattle.def_model.specs.Redo.{redo_record, replay}
use Rattle.def_model.specs.TreeRules.{tree_ok, levels_of, leaf_records}
use Rattle.def_model.specs.Update.{Run}
use Rattle.def_model.specs.Batches.{open_batches, chain_ok}
use Rattle.theory_tree.specs.Step.Steps.{Step}
use Rattle.theory_update.specs.Run.Way.{written_by}
use Rattle.theory_update.specs.Run.Lawful.{Lawful, here, next, lawful_append}
use Rattle.theory_pages.specs.Restartable.{AllBegin}
use Rattle.theory_pages.specs.Rows.{Begins}
use Rattle.theory_pages.specs.Layout.{Laid}
use Rattle.theory_ledger.specs.Small.{Small}
use Rattle.theory_ledger.specs.Settles.{Settles}
use Rattle.theory_ledger.specs.Telling.{slides_by, slides_more}
use Rattle.theory_history.specs.Origin.{Origin, origin_pages}
use Rattle.theory_history.specs.Start.{slides_after, pages_after, pages_more, after_is}
use Rattle.theory_history.specs.Core.{Core, NextRecord, core_more, RowsOk, NamesOk}
use Rattle.theory_history.specs.Trail.{Trail, stay, more, trail_longer}
use Rattle.theory_history.specs.TreeTrail.{append_cancel, levels_after}

-- The run at the end of a log.
abbrev pub run_after : Origin → ℕ → List Rec → Run
run_after o n log = record { pages = pages_after o n log; lefts = []; log = log; due = suc (length log); room = 0; stop = 0 }

pub record History (o : Origin) (n : ℕ) (log : List Rec) : Type 0 where
  pub least : o.least ≤ n
  pub lawful : Lawful 1 (origin_pages o n) (levels_of (origin_pages o n)) log (levels_of (pages_after o n log))
  pub begins : AllBegin 1 log
  pub firsts : (a b : List Rec) → log ≡ a ++ b → Core n (run_after o n a) (slides_after o a)

pub history_now : (o : Origin) (n : ℕ) (log : List Rec) → History o n log → Core n (run_after o n log) (slides_after o log)
history_now o n log h = h.firsts log [] (sym (append-nil log))

-- Only pages, log and number due matter to soundness.
pub core_same : (n : ℕ) (s t : Run) (sl sl' : List Entry) → s.pages ≡ t.pages → s.log ≡ t.log → t.stop ≡ 0 → sl ≡ sl' → t.due ≡ suc (length t.log) → Core n s sl → Core n t sl'
core_same n s t sl sl' p l z e d c =
    let d' : s.due ≡ t.due = c.due ∙ ap (λ x. suc (length x)) l ∙ sym d in
    record {
      size = ap length (sym p) ∙ c.size;
      tree = subst (λ x. tree_ok x ≡ true) p c.tree;
      lows = λ q h. subst (λ m. (at t.pages q).lsn < m) d' (subst (λ x. (q : ℕ) → q < length x → (at x q).lsn < s.due) p c.lows q h);
      laid = subst Laid p c.laid;
      rows = subst (RowsOk 1) l c.rows;
      names = subst (NamesOk n) l c.names;
      chain = subst (λ x. chain_ok 1 x [] ≡ true) l c.chain;
      small = subst (λ x. Small (open_batches x)) l c.small;
      settles = subst (λ x. Settles sl' (leaf_records x) (open_batches t.log)) p (subst (λ x. Settles sl' (leaf_records s.pages) (open_batches x)) l (subst (λ x. Settles x (leaf_records s.pages) (open_batches s.log)) e c.settles));
      due = d;
      goes = z;
    }

-- ---- one record more

-- A first part of a log and one record more is one of the log, or all of it.
pub first_parts : (log : List Rec) (r : Rec) (a b : List Rec) → log ++ r ∷ [] ≡ a ++ b → (a ≡ log ++ r ∷ []) ⊎ ((c : List Rec) × (log ≡ a ++ c))
first_parts [] r [] b e = inr ([], refl)
first_parts [] r (x ∷ a) b e = inl (first a b e)
  where
    first : (a b : List Rec) → r ∷ [] ≡ x ∷ (a ++ b) → x ∷ a ≡ r ∷ []
    first [] b e = let z : r ≡ x = cc in ap (◌∷ []) (sym z)
    first (y ∷ a) b e = let z : ◌≡◌ {A = List Rec} [] (y ∷ (a ++ b)) = cc in let w : ◌≡◌ {A = ℕ} 0 1 = cc in absurd (omega arith)
first_parts (y ∷ log) r [] b e = inr (y ∷ log, refl)
first_parts (y ∷ log) r (x ∷ a) b e =
    let z : y ≡ x = cc in
    let w : log ++ r ∷ [] ≡ a ++ b = cc in
    go z (first_parts log r a b w)
  where
    go : y ≡ x → (a ≡ log ++ r ∷ []) ⊎ ((c : List Rec) × (log ≡ a ++ c)) → (x ∷ a ≡ y ∷ (log ++ r ∷ [])) ⊎ ((c : List Rec) × (y ∷ log ≡ x ∷ (a ++ c)))
    go z (inl f) = inl (λ i. sym z i ∷ f i)
    go z (inr f) = inr (f.0, λ i. z i ∷ f.1 i)

begins_more : (m : ℕ) (log : List Rec) (r : Rec) → AllBegin m log → Begins (m + length log) r → AllBegin m (log ++ r ∷ [])
unfolding AllBegin
begins_more m [] r h k = (λ e. subst (λ q. (r.batch ≡ q) × (r.previous ≡ 0)) (add-zero m) (k e), tt)
begins_more m (x ∷ log) r h k = (h.0, begins_more (suc m) log r h.1 (λ e. subst (λ q. (r.batch ≡ q) × (r.previous ≡ 0)) (add-suc m (length log) ∙ sym (suc-add m (length log))) (k e)))

-- A run at the end of its history.
pub record Standing (o : Origin) (n : ℕ) (s : Run) (sl : List Entry) : Type 0 where
  pub core : Core n s sl
  pub pages : s.pages ≡ pages_after o n s.log
  pub slides : sl ≡ slides_after o s.log
  pub history : History o n s.log

module _ (o : Origin) (n : ℕ) (most : n ≤ map_bits) where
  pub standing_more : (s : Run) (sl sl' : List Entry) (r : Rec) → Standing o n s sl → NextRecord s sl r sl' → Standing o n (written_by r s) sl'
  standing_more s sl sl' r t x =
      let c = core_more n most s sl sl' r t.core x in
      let d = t.core.due in
      let p : redo_record s.due r s.pages ≡ pages_after o n (s.log ++ r ∷ []) = (λ i. redo_record (d i) r (t.pages i)) ∙ sym (pages_more o n s.log r) in
      let q : sl' ≡ slides_after o (s.log ++ r ∷ []) = x.story ∙ ap (slides_by r.kind r (open_batches s.log)) t.slides ∙ sym (slides_more o.slides s.log r) in
      record { core = c; pages = p; slides = q; history = grown c p q }
    where
      grown : Core n (written_by r s) sl' → redo_record s.due r s.pages ≡ pages_after o n (s.log ++ r ∷ []) → sl' ≡ slides_after o (s.log ++ r ∷ []) → History o n (s.log ++ r ∷ [])
      grown c p q =
          let e : 1 + length s.log ≡ suc (length s.log) = omega arith in
          let d = t.core.due in
          let lv : x.after ≡ levels_of (pages_after o n (s.log ++ r ∷ [])) = levels_after n most s sl r x.after t.core x.step ∙ ap levels_of p in
          let st : Step (pages_after o n s.log) (levels_of (pages_after o n s.log)) r (levels_of (pages_after o n (s.log ++ r ∷ []))) = subst (λ z. Step z (levels_of z) r (levels_of (pages_after o n (s.log ++ r ∷ [])))) t.pages (subst (λ z. Step s.pages (levels_of s.pages) r z) lv x.step) in
          record {
            least = t.history.least;
            lawful = lawful_append t.history.lawful (one st);
            begins = begins_more 1 s.log r t.history.begins (λ z. let (u, v) = x.begins z in (u ∙ d ∙ sym e, v));
            firsts = λ a b w. first a b w (first_parts s.log r a b w);
          }
        where
          one : Step (pages_after o n s.log) (levels_of (pages_after o n s.log)) r (levels_of (pages_after o n (s.log ++ r ∷ [])))
              → Lawful (1 + length s.log) (replay 1 s.log (origin_pages o n)) (levels_of (pages_after o n s.log)) (r ∷ []) (levels_of (pages_after o n (s.log ++ r ∷ [])))
          one st = next (start st) here
            where
              start : Step (pages_after o n s.log) (levels_of (pages_after o n s.log)) r (levels_of (pages_after o n (s.log ++ r ∷ []))) → Step (replay 1 s.log (origin_pages o n)) (levels_of (pages_after o n s.log)) r (levels_of (pages_after o n (s.log ++ r ∷ [])))
              start st = subst (λ z. Step z (levels_of (pages_after o n s.log)) r (levels_of (pages_after o n (s.log ++ r ∷ [])))) (after_is o n s.log) st

          first : (a b : List Rec) → s.log ++ r ∷ [] ≡ a ++ b → (a ≡ s.log ++ r ∷ []) ⊎ ((c : List Rec) × (s.log ≡ a ++ c)) → Core n (run_after o n a) (slides_after o a)
          first a b w (inl f) =
              let l = length-append s.log (r ∷ []) in
              subst (λ z. Core n (run_after o n z) (slides_after o z)) (sym f) (core_same n (written_by r s) (run_after o n (s.log ++ r ∷ [])) sl' (slides_after o (s.log ++ r ∷ [])) p refl refl q refl c)
          first a b w (inr f) = t.history.firsts a f.0 f.1

  pub trail_standing : {s t : Run} {sl sl' : List Entry} → Trail s sl t sl' → Standing o n s sl → Standing o n t sl'
  trail_standing stay x = x
  trail_standing (more {t = t} {sl₁ = a} {r = r} p y) x = standing_more t a a r (trail_standing p x) y

  -- The slides stay at every first part of what a trail wrote.
  pub trail_fixed : {s t : Run} {sl sl' : List Entry} → Trail s sl t sl' → Standing o n s sl → (recs : List Rec) → t.log ≡ s.log ++ recs → (a b : List Rec) → recs ≡ a ++ b → slides_after o (s.log ++ a) ≡ slides_after o s.log
  trail_fixed {s = s} stay x recs l a b e =
      let z : recs ≡ [] = append_cancel s.log recs [] (sym l ∙ sym (append-nil s.log)) in
      ap (λ y. slides_after o (s.log ++ y)) (no_first a b (sym e ∙ z)) ∙ ap (slides_after o) (append-nil s.log)
    where
      no_first : (a b : List Rec) → a ++ b ≡ [] → a ≡ []
      no_first [] b e = refl
      no_first (y ∷ a) b e = let w : ◌≡◌ {A = ℕ} 0 1 = cc in absurd (omega arith)
  trail_fixed {s = s} {sl = sl} (more {t = t} {sl₁ = sl₁} {r = r} p y) x recs l a b e =
      let g = trail_longer p in
      let q : g.recs ++ r ∷ [] ≡ recs = append_cancel s.log (g.recs ++ r ∷ []) recs (sym (append_assoc s.log g.recs (r ∷ [])) ∙ ap (◌++ r ∷ []) (sym g.log) ∙ l) in
      go g.recs g.log q (first_parts g.recs r a b (q ∙ e)) (λ c d u. trail_fixed p x g.recs g.log c d u)
    where
      go : (rs : List Rec) → t.log ≡ s.log ++ rs → rs ++ r ∷ [] ≡ recs → (a ≡ rs ++ r ∷ []) ⊎ ((c : List Rec) × (rs ≡ a ++ c)) → ((a b : List Rec) → rs ≡ a ++ b → slides_after o (s.log ++ a) ≡ slides_after o s.log) → slides_after o (s.log ++ a) ≡ slides_after o s.log
      go rs w q (inr f) i = i a f.0 f.1
      go rs w q (inl f) i =
          let t₀ = trail_standing p x in
          let t₁ = standing_more t sl₁ sl₁ r t₀ y in
          let u : s.log ++ a ≡ t.log ++ r ∷ [] = ap (s.log ++◌) f ∙ sym (append_assoc s.log rs (r ∷ [])) ∙ ap (◌++ r ∷ []) (sym w) in
          ap (slides_after o) u ∙ sym t₁.slides ∙ t₀.slides ∙ ap (slides_after o) w ∙ i rs [] (sym (append-nil rs))
