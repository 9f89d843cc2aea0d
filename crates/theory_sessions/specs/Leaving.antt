-- What a call leaves on bytes is read as what it leaves on the typed areas: its working areas, and each of its stores.
use Rattle.std.specs.Prelude.{ℕ, ◌-◌, ◌*◌, ◌≤◌, ◌≡◌, refl, ◌⊎◌, false, replicate}
use Rattle.std.proofs.Common.{sym, ◌∙◌, subst₂, inl, inr, arith}
use Rattle.std.proofs.Math.Path.{ap, subst}
use mathlib.Core.List.{List, [], ◌∷◌, ◌++◌, map, append-nil}
use Rattle.std.proofs.Math.ListN.{length, length-append}
use Rattle.std.proofs.lemmas.List.{length-replicate}
use Rattle.def_base.specs.Tests.{Case, yes!, no!, case}
use Rattle.def_layout.specs.Pages.{Page, at, zero_page, map_bits}
use Rattle.def_layout.specs.Numbers.{zeros}
use Rattle.def_layout.specs.PageBytes.{page}
use Rattle.def_layout.specs.Sizes.{page_size, slot_size}
use Rattle.def_layout.specs.Records.{Rec}
use Rattle.def_model.specs.Log.{log_area}
use Rattle.def_model.specs.Areas.{Side, Store, store_page, log_stores, zero_side}
use Rattle.def_model.specs.Answers.{Outcome, passed}
use Rattle.def_model.specs.Update.{Run}
use Rattle.def_model.specs.Calls.{run_side}
use Rattle.def_model.specs.OnBytes.{Call, Lent, read_areas, read_work, read_lefts, read_log, work_bytes, log_bytes}
use Rattle.def_recovery.specs.Events.{World, Granted}
use Rattle.law_bytes.specs.Pieces.{All}
use Rattle.law_areas.specs.Lengths.{Lengths, lengths_enough}
use Rattle.law_areas.specs.Pages.{AllPagesFit, filled_whole, zero_pages_bytes}
use Rattle.law_areas.specs.Working.{AllLinks, paired, all_links, paired_lefts, work_hold, work_length, work_read, lefts_read, work_unlinked, zero_work_read, zero_lefts_read, read_work_length}
use Rattle.law_areas.specs.Logs.{AllFit, area_holds, area_bytes_length, log_read, empty_bytes, empty_log_read, read_log_length}
use Rattle.theory_history.specs.Origin.{Origin}
use Rattle.theory_history.specs.Start.{pages_after, length_after}
use Rattle.theory_history.specs.History.{History}
use Rattle.theory_history.specs.Linking.{own_links, links_length, history_linked}
use Rattle.theory_ranges.specs.Histories.{ranged_standing}
use Rattle.theory_calls.specs.Passing.{Stored, nothing, the_log, log_and_page, Follows, quietly, by_commit}
use Rattle.theory_calls.specs.LiveAreas.{side_after, run_left}
use Rattle.theory_recovery.specs.Invariant.{Inv}
use Rattle.theory_refusals.specs.Lossless.{work_lossless, log_lossless}
use Rattle.theory_recovery.specs.Passed.{ranged_run}
use Rattle.theory_recovery.specs.Going.{outcome_in, Going}
use Rattle.theory_recovery.specs.Steps.{goes}
use Rattle.theory_sessions.specs.Unpassed.{zeroed_side, work_refused, refused_stores}
use Rattle.theory_sessions.specs.StoresRead.{StoreFits, fits_append, log_fits}

-- A working side that is read back from its bytes, of n pages and m slots.
pub record SideRead (n m : ℕ) (s : Side) : Type 0 where
  pub pages_length : length (work_bytes s.pages s.lefts) ≡ page_size * n
  pub log_length : length (log_bytes s.log) ≡ slot_size * m
  pub pages : read_work (work_bytes s.pages s.lefts) ≡ s.pages
  pub lefts : read_lefts (work_bytes s.pages s.lefts) ≡ s.lefts
  pub log : read_log (log_bytes s.log) ≡ s.log

-- And every store fits.
pub record LeavesRead (n m : ℕ) (o : Outcome) : Type 0 where
  pub work : SideRead n m o.work
  pub stores : All (StoreFits n m) o.stores

-- ---- sides

pub typed_side : (n m : ℕ) (xs : List Page) (ls : List ℕ) (log : List Rec) → length xs ≡ n → length ls ≡ length xs → length log ≤ m → AllPagesFit xs → AllLinks (paired xs ls) → AllFit 1 log
    → SideRead n m (record { pages = map page xs; lefts = ls; log = log_area m log })
typed_side n m xs ls log e k h f a g =
    let none : length xs - length xs ≡ 0 = omega arith in
    record {
      pages_length = work_length xs ls ∙ ap (λ (k : ℕ). page_size * k) e;
      log_length = area_bytes_length m log h;
      pages = work_read (length xs) xs ls (work_hold xs ls) (work_length xs ls) a ∙ ap (map page) (filled_whole (length xs) xs refl);
      lefts = lefts_read (length xs) xs ls (work_hold xs ls) (work_length xs ls) a ∙ (λ i. paired_lefts xs ls k i ++ replicate (none i) 0) ∙ append-nil ls;
      log = log_read m log (area_holds m log) (area_bytes_length m log h) g;
    }

-- A history's.
pub held_read : (o : Origin) (n m : ℕ) → n ≤ map_bits → (log : List Rec) → History o n log → length log ≤ m → AllPagesFit (pages_after o n log) → AllFit 1 log → SideRead n m (side_after o n m log)
held_read o n m most log h w f r =
    let k = links_length o n most log h in
    let ls : List ℕ = own_links o n most log h in
    typed_side n m (pages_after o n log) ls log (length_after o n log) k w f (all_links (pages_after o n log) ls k (λ p q. history_linked o n most log h p) f) r

pub zero_side_read : (n m : ℕ) → SideRead n m (zero_side n m)
zero_side_read n m =
    let e : work_bytes (replicate n (page zero_page)) (replicate n 0) ≡ zeros (page_size * n) = work_unlinked (replicate n (page zero_page)) n ∙ zero_pages_bytes n in
    record {
      pages_length = ap length e ∙ length-replicate (page_size * n) 0;
      log_length = ap length (empty_bytes m) ∙ length-replicate (slot_size * m) 0;
      pages = ap read_work e ∙ zero_work_read n;
      lefts = ap read_lefts e ∙ zero_lefts_read n;
      log = ap read_log (empty_bytes m) ∙ empty_log_read m;
    }

-- What was read is read again.
pub lent_side_read : (n m : ℕ) (l : Lent) → Lengths l n m → SideRead n m (read_areas l).work
unfolding read_areas
lent_side_read n m l z =
    let p = work_lossless n l.work_pages z.work_pages in
    let q = log_lossless m l.work_log z.work_log in
    record { pages_length = ap length p ∙ z.work_pages; log_length = ap length q ∙ z.work_log; pages = ap read_work p; lefts = ap read_lefts p; log = ap read_log q }

-- As many pages and slots are read as there are.
module _ (n m : ℕ) (l : Lent) (z : Lengths l n m) where
  pub pages_count : length (read_areas l).work.pages ≡ n
  unfolding read_areas
  pages_count = read_work_length n l.work_pages z.work_pages

  pub log_count : length (read_areas l).work.log ≡ m
  unfolding read_areas
  log_count = read_log_length m l.work_log z.work_log

-- ---- a refused call

module _ (w : World) (n m : ℕ) (z : Lengths w.lent n m) (c : Call) where
  refused_reads : passed (outcome_in c w).answer ≡ false → LeavesRead n m (outcome_in c w)
  unfolding All
  refused_reads p = record { work = go (work_refused c (read_areas w.lent) w.desk p); stores = subst (All (StoreFits n m)) (sym (refused_stores c (read_areas w.lent) w.desk p)) tt }
    where
      go : ((outcome_in c w).work ≡ (read_areas w.lent).work) ⊎ ((outcome_in c w).work ≡ zeroed_side (read_areas w.lent).work) → SideRead n m (outcome_in c w).work
      go (inl e) = subst (SideRead n m) (sym e) (lent_side_read n m w.lent z)
      go (inr e) = subst (SideRead n m) (sym (e ∙ (λ i. zero_side (pages_count n m w.lent z i) (log_count n m w.lent z i)))) (zero_side_read n m)

-- ---- a call that passed

module _ (w : World) (i : Inv w) (c : Call) (g : Going i.origin w i.log c) where
  passed_reads : LeavesRead g.n g.m (outcome_in c w)
  unfolding run_side All StoreFits
  passed_reads =
      let o = i.origin in
      let e = g.ends in
      let h = ranged_run o g.n g.m w.lent g.lengths i.log g.sure g.log g.rest g.longer g.fixed g.ranged c (outcome_in c w) e w.book i.slides g.tells in
      let f = ranged_standing o g.n g.sure.most e.run _ e.standing h in
      let count : length e.run.pages ≡ g.n = ap length e.standing.pages ∙ length_after o g.n e.run.log in
      record {
        work = subst (SideRead g.n g.m) (sym (e.work ∙ run_left o g.n g.m g.sure.most e.run e.standing.pages e.standing.history)) (held_read o g.n g.m g.sure.most e.run.log e.standing.history e.within (subst AllPagesFit e.standing.pages f.pages) f.records);
        stores = go e.run f.pages f.records count e.within (longer e.run (outcome_in c w).stores e.follows) (outcome_in c w).stores e.stored;
      }
    where
      longer : (t : Run) (ts : List Store) → Follows i.origin i.log c g.log t ts → length i.log ≤ length t.log
      longer t ts (quietly more k e f) = omega (arith, ap length e, length-append g.log more, ap length g.longer, length-append i.log g.rest)
      longer t ts (by_commit b r x k e s) = omega (arith, ap length e, length-append g.log (r ∷ []), ap length g.longer, length-append i.log g.rest)

      go : (t : Run) → AllPagesFit t.pages → AllFit 1 t.log → length t.pages ≡ g.n → length t.log ≤ g.m → length i.log ≤ length t.log → (ts : List Store) → Stored g.n i.log t ts → All (StoreFits g.n g.m) ts
      go t f r e h k [] nothing = tt
      go t f r e h k _ the_log = log_fits g.n g.m (length i.log) t.log r k h
      go t f r e h k _ (log_and_page p q) = fits_append g.n g.m (log_stores (length i.log) t.log) (store_page p (at t.pages p) ∷ []) (log_fits g.n g.m (length i.log) t.log r k h) ((q, f p (omega arith)), tt)

-- ANY CALL THAT IS GRANTED.
pub call_reads : (w : World) (i : Inv w) (n m : ℕ) → Lengths w.lent n m → (c : Call) → Granted c w → LeavesRead n m (outcome_in c w)
call_reads w i n m z c g = go (case (passed (outcome_in c w).answer))
  where
    go : Case (passed (outcome_in c w).answer) → LeavesRead n m (outcome_in c w)
    go (no! p) = refused_reads w n m z c p
    go (yes! p) =
        let x = goes w i c g (lengths_enough w.lent n m z) p in
        let a : x.n ≡ n = omega (arith, x.lengths.work_pages, z.work_pages) in
        let b : x.m ≡ m = omega (arith, x.lengths.work_log, z.work_log) in
        subst₂ (λ (u v : ℕ). LeavesRead u v (outcome_in c w)) a b (passed_reads w i c x)
