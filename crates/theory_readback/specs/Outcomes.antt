-- THE BYTES THAT A CALL LEAVES SHOW WHAT IT LEFT: every call, refused or not, on bytes of any content.
use Rattle.std.specs.Prelude.{ℕ, suc, ◌*◌, ◌/◌, ◌≤◌, ◌≡◌, refl, true, ◌&&◌, length, take, replicate, leb, eqb}
use Rattle.std.proofs.Common.{sym, ap, ◌∙◌, subst₂, arith}
use Rattle.std.proofs.Math.Path.{subst}
use Rattle.std.proofs.Math.Option.{Option, none, some}
use mathlib.Core.List.{List, [], ◌∷◌}
use Rattle.std.proofs.lemmas.List.{length-replicate}
use Rattle.std.proofs.Math.ListN.{length-map}
use Rattle.std.proofs.Math.Dec.{lit<}
use Rattle.def_base.specs.Tests.{and_true, true_eq, true_le, false_le}
use Rattle.def_layout.specs.declared.Desk.{Desk}
use Rattle.def_layout.specs.Desks.{empty_desk}
use Rattle.def_layout.specs.Entries.{top}
use Rattle.def_layout.specs.Pages.{Page, at, zero_page, map_bits}
use Rattle.def_layout.specs.PageBytes.{page}
use Rattle.def_layout.specs.Records
use Rattle.def_layout.specs.Records.{batch_row}
use Rattle.def_layout.specs.RecordBytes.{empty}
use Rattle.def_layout.specs.Sizes.{page_size, slot_size}
use Rattle.def_model.specs.declared.Refusal.{Refusal}
use Rattle.def_model.specs.declared.Refusal.TheVariants.{Unsound, NoBatch, EightOpen, Held, Present, Absent, SlotsShort, PagesShort, PageNumber, AbortStopped}
use Rattle.def_model.specs.declared.Answer.{Answer}
use Rattle.def_model.specs.declared.Answer.TheVariants.{Done, Number}
use Rattle.def_model.specs.Areas.{Side, Areas, Store, page_in, store_page, store_all, log_stores, zero_side}
use Rattle.def_model.specs.Answers.{Outcome, check, first_broken, passed}
use Rattle.def_model.specs.Batches.{find_batch, unmarked}
use Rattle.def_model.specs.Pending.{held}
use Rattle.def_model.specs.Links.{relinked}
use Rattle.def_model.specs.Loading.{columns, loaded_pages}
use Rattle.def_model.specs.Lookup.{fetched}
use Rattle.def_model.specs.TreeRules.{tree_ok}
use Rattle.def_model.specs.Update.{Run, emit, put_record, remove_record}
use Rattle.def_model.specs.Sound.{sound, layouts_ok, log_ok, work_pages, work_log, work_slots, work_open, update_has_slots, update_has_pages, begin_has_slots}
use Rattle.def_model.specs.Calls.{is_none, run_of, run_side, start_side, kept_run, stored_run, present, value_or, last_of, zero_key, formatted_pages, format_stores, format_areas, load_areas, begin_checks, begin_batch, insert_checks, insert_slide, delete_checks, delete_slide, commit_checks, commit_batch, aborted, abort_of, abort_checks, abort_batch, write_out_checks, write_out_page, return_checks, return_batch, returned, return_of, no_mark}
use Rattle.def_model.specs.Restart.{stable_slots, redone, restarted, restart_areas}
use Rattle.def_model.specs.OnBytes
use Rattle.def_model.specs.OnBytes.{Call, start, restart, request, Start, Request, ask, Lent, lengths_ok, read_work, read_lefts, read_log, read_areas, work_bytes, log_bytes, checks, request_checks, does, start_does, request_does, refused, refused_work, outcome, store_all_bytes}
use Rattle.def_recovery.specs.Events.{fits_32, of_32_bits, start_32, request_32}
use Rattle.law_bytes.specs.PageBytes.{Fits as PageFits}
use Rattle.law_areas.specs.Lengths.{Lengths, lengths_said, lengths_enough}
use Rattle.law_areas.specs.Outcomes.{broken_refused, unbroken_does}
use Rattle.law_areas.specs.Pages.{AllPagesFit, read_pages_length, zero_pages_bytes}
use Rattle.law_areas.specs.Working.{work_unlinked, read_work_length, zero_work_read, zero_lefts_read}
use Rattle.law_areas.specs.Logs.{read_log_length, empty_bytes, empty_log_read}
use Rattle.theory_refusals.specs.Lossless.{work_lossless, log_lossless}
use Rattle.theory_tree.specs.Shape.LeftLinks.{relinked_length}
use Rattle.theory_history.specs.Origin.{Origin, origin_pages, origin_length, origin_page, origin_tree}
use Rattle.theory_history.specs.FormattedOrigin.{formatted_origin, formatted_is}
use Rattle.theory_history.specs.Linking.{NarrowLinks}
use Rattle.theory_load.specs.Checked.{load_starts}
use Rattle.theory_calls.specs.Checks.{none_broken, kept_check, some_of, live_batch, absent_of, present_of}
use Rattle.theory_room.specs.Restarting.{restarted_within}
use Rattle.theory_ranges.specs.Ranged.{Ranged}
use Rattle.theory_sound.specs.Kept.{Lendable}
use Rattle.theory_sound.specs.Restarted as Restarted
use Rattle.theory_sound.specs.Restarted.{Readable}
use Rattle.theory_sound.specs.OfBytes.{lendable, readable}
use Rattle.theory_readback.specs.Written.{StoreFits, StoresFit, Stable, stable_of, stores_append, stores_take, stores_again, log_stores_fit, format_stores_fit, work_again, log_again}
use Rattle.theory_readback.specs.FromBytes.{work_ranged, work_narrow, redone_ranged}
use Rattle.theory_readback.specs.Links.{linked}
use Rattle.theory_readback.specs.Runs.{Left, trail_left, nothing_left, begin_left, commit_left, insert_left, delete_left, abort_left, return_left}

-- ---- what is left, in bytes and as areas, after the first j stores

abbrev pub bytes_left : ℕ → Outcome → Lent → Lent
bytes_left j o l =
    record {
      work_pages = work_bytes o.work.pages o.work.lefts;
      stable_pages = (store_all_bytes (take j o.stores) l).stable_pages;
      work_log = log_bytes o.work.log;
      stable_log = (store_all_bytes (take j o.stores) l).stable_log;
    }

abbrev pub areas_left : ℕ → Outcome → Areas → Areas
areas_left j o a = record { work = o.work; stable = store_all (take j o.stores) a.stable }

pub record ReadsBack (l : Lent) (a : Areas) (o : Outcome) : Type 0 where
  pub lengths : (j : ℕ) → lengths_ok (bytes_left j o l) ≡ true
  pub shows : (j : ℕ) → read_areas (bytes_left j o l) ≡ areas_left j o a

-- A working side that is read back.
pub record SideBack (n m : ℕ) (s : Side) : Type 0 where
  pub pages : length (work_bytes s.pages s.lefts) ≡ page_size * n
  pub log : length (log_bytes s.log) ≡ slot_size * m
  pub pages_back : read_work (work_bytes s.pages s.lefts) ≡ s.pages
  pub lefts_back : read_lefts (work_bytes s.pages s.lefts) ≡ s.lefts
  pub log_back : read_log (log_bytes s.log) ≡ s.log

back_by : (n m : ℕ) (l : Lent) (a : Areas) (o : Outcome) → Lengths l n m → stable_of l ≡ a.stable → SideBack n m o.work → StoresFit n m o.stores → ReadsBack l a o
unfolding read_areas
back_by n m l a o z e w f =
    record {
      lengths = λ j. lengths_enough (bytes_left j o l) n m (record {
        work_pages = w.pages;
        stable_pages = (st j).pages;
        work_log = w.log;
        stable_log = (st j).log;
        least_pages = z.least_pages;
        most_pages = z.most_pages;
        least_slots = z.least_slots;
        most_slots = z.most_slots;
      });
      shows = λ j i. record { work = record { pages = w.pages_back i; lefts = w.lefts_back i; log = w.log_back i }; stable = (st j).shows i };
    }
  where
    st : (j : ℕ) → Stable n m (store_all_bytes (take j o.stores) l) (store_all (take j o.stores) a.stable)
    st j = stores_again n m (take j o.stores) l a.stable (stores_take n m j o.stores f) (record { pages = z.stable_pages; log = z.stable_log; shows = e })

left_back : (n m : ℕ) (t : Run) → Left n m t → SideBack n m (run_side m t)
unfolding run_side
left_back n m t f =
    let (p, q, k) = work_again n t.pages (relinked t.pages t.lefts) f.size (relinked_length t.pages t.lefts) f.links in
    let (r, s) = log_again m t.log f.within f.ranged.records in
    record { pages = p; log = r; pages_back = q; lefts_back = k; log_back = s }

blank_log : (m : ℕ) → (length (log_bytes (replicate m empty)) ≡ slot_size * m) × (read_log (log_bytes (replicate m empty)) ≡ replicate m empty)
blank_log m = (ap length (empty_bytes m) ∙ length-replicate {A = ℕ} (slot_size * m) 0, ap read_log (empty_bytes m) ∙ empty_log_read m)

fresh_back : (n m : ℕ) (xs : List Page) → length xs ≡ n → n ≤ map_bits → tree_ok xs ≡ true → AllPagesFit xs → SideBack n m (start_side xs m)
unfolding start_side
fresh_back n m xs e most t f =
    let (p, q, k) = work_again n xs (relinked xs []) e (relinked_length xs []) (linked xs [] (omega arith) t f (λ i. lit< tt)) in
    let (r, s) = blank_log m in
    record { pages = p; log = r; pages_back = q; lefts_back = k; log_back = s }

zero_back : (n m : ℕ) → SideBack n m (zero_side n m)
zero_back n m =
    let z = work_unlinked (replicate n (page zero_page)) n ∙ zero_pages_bytes n in
    let (r, s) = blank_log m in
    record { pages = ap length z ∙ length-replicate {A = ℕ} (page_size * n) 0; log = r; pages_back = ap read_work z ∙ zero_work_read n; lefts_back = ap read_lefts z ∙ zero_lefts_read n; log_back = s }

lent_back : (n m : ℕ) (l : Lent) → Lengths l n m → SideBack n m (record { pages = read_work l.work_pages; lefts = read_lefts l.work_pages; log = read_log l.work_log })
lent_back n m l z =
    let p = work_lossless n l.work_pages z.work_pages in
    let q = log_lossless m l.work_log z.work_log in
    record { pages = ap length p ∙ z.work_pages; log = ap length q ∙ z.work_log; pages_back = ap read_work p; lefts_back = ap read_lefts p; log_back = ap read_log q }

-- ---- what bytes of right lengths give

pub record Given (l : Lent) (a : Areas) : Type 0 where
  pub lengths : Lengths l (length a.work.pages) (work_slots a)
  pub work : SideBack (length a.work.pages) (work_slots a) a.work
  pub stable : stable_of l ≡ a.stable
  pub pages_equal : length a.stable.pages ≡ length a.work.pages
  pub lendable : Lendable a
  pub readable : Readable a
  pub ranged : (d : Desk) → sound a d ≡ true → Ranged (run_of a)
  pub narrow : NarrowLinks a.work.lefts
  pub redone : layouts_ok a.stable ≡ true → log_ok a.stable ≡ true → Ranged (redone a)

pub given : (l : Lent) → lengths_ok l ≡ true → Given l (read_areas l)
unfolding read_areas
given l lens =
    let n = length l.work_pages / page_size in
    let m = length l.work_log / slot_size in
    let z : Lengths l n m = lengths_said l lens in
    let e = read_work_length n l.work_pages z.work_pages in
    let e' = read_pages_length n l.stable_pages z.stable_pages in
    let f = read_log_length m l.work_log z.work_log in
    let y : Lengths l (length (read_work l.work_pages)) (length (read_log l.work_log)) = subst₂ (Lengths l) (sym e) (sym f) z in
    record {
      lengths = y;
      work = lent_back (length (read_work l.work_pages)) (length (read_log l.work_log)) l y;
      stable = refl;
      pages_equal = e' ∙ sym e;
      lendable = lendable l lens;
      readable = readable l lens;
      ranged = work_ranged l lens;
      narrow = work_narrow l lens;
      redone = redone_ranged l lens;
    }

-- ---- call by call

module _ (l : Lent) (a : Areas) (v : Given l a) (d : Desk) where
  few : length a.work.pages ≤ map_bits
  few = v.lendable.few

  slots : work_slots a ≤ 16384
  slots = v.lengths.most_slots

  -- Nothing was written.
  same : (x : Answer) (e : Desk) → ReadsBack l a (record { answer = x; work = a.work; desk = e; stores = [] })
  unfolding StoresFit
  same x e = back_by (length a.work.pages) (work_slots a) l a (record { answer = x; work = a.work; desk = e; stores = [] }) v.lengths v.stable v.work tt

  -- A run was, and nothing stored; or every record, and more.
  kept : (x : Answer) (t : Run) → Left (length a.work.pages) (work_slots a) t → ReadsBack l a (kept_run x a t d)
  unfolding kept_run StoresFit
  kept x t f = back_by (length a.work.pages) (work_slots a) l a (kept_run x a t d) v.lengths v.stable (left_back (length a.work.pages) (work_slots a) t f) tt

  stored : (x : Answer) (t : Run) (more : List Store) → Left (length a.work.pages) (work_slots a) t → StoresFit (length a.work.pages) (work_slots a) more → ReadsBack l a (stored_run x a t d more)
  unfolding stored_run
  stored x t more f g =
      back_by (length a.work.pages) (work_slots a) l a (stored_run x a t d more) v.lengths v.stable (left_back (length a.work.pages) (work_slots a) t f)
      (stores_append (length a.work.pages) (work_slots a) (log_stores d.stored t.log) more (log_stores_fit (length a.work.pages) (work_slots a) d.stored t.log f.ranged.records f.within) g)

  -- ---- requests where no check is broken

  begin_back : first_broken (checks (request OnBytes.begin) a d) ≡ none → ReadsBack l a (does (request OnBytes.begin) a d)
  unfolding checks request_checks does request_does begin_batch begin_checks run_of
  begin_back e =
      let (u, e₁) = kept_check (sound a d) Unsound _ e in
      let (eight, e₂) = none_broken (check (leb 8 (length (work_open a))) EightOpen) _ e₁ in
      let (room, e₃) = kept_check (begin_has_slots (work_slots a) (work_log a) (work_open a)) SlotsShort [] e₂ in
      kept (Number (suc (length (work_log a)))) (emit (batch_row Records.begin (run_of a).due 0) (run_of a))
      (begin_left a d few v.lendable.equal v.lendable.small u slots (v.ranged d u) v.narrow (false_le 8 (length (work_open a)) eight) room)

  insert_back : (b k x : ℕ) → k ≤ top → x ≤ top → first_broken (checks (request (OnBytes.insert b k x)) a d) ≡ none → ReadsBack l a (does (request (OnBytes.insert b k x)) a d)
  unfolding checks request_checks does request_does insert_slide insert_checks last_of
  insert_back b k x kt xt e =
      let (nz, e₀) = none_broken (zero_key k) _ e in
      let (w, e₁) = kept_check (sound a d) Unsound _ e₀ in
      let (un, e₂) = kept_check (unmarked (find_batch b (work_open a))) NoBatch _ e₁ in
      let (hd, e₃) = none_broken (check (held b k (work_open a)) Held) _ e₂ in
      let (pr, e₄) = none_broken (check (present k a) Present) _ e₃ in
      let (s, e₅) = kept_check (update_has_slots (work_slots a) (work_log a) (work_open a)) SlotsShort _ e₄ in
      let (pg, e₆) = kept_check (update_has_pages (work_pages a) (work_open a)) PagesShort [] e₅ in
      let (y, f, u) = live_batch (find_batch b (work_open a)) un in
      kept Done (put_record Records.insert b (last_of (find_batch b (work_open a))) k x (run_of a))
      (subst (λ o. Left (length a.work.pages) (work_slots a) (put_record Records.insert b (last_of o) k x (run_of a))) (sym f)
      (insert_left a d few v.lendable.equal v.lendable.small w slots (v.ranged d w) v.narrow b k x y kt xt f u hd (absent_of (fetched k (work_pages a)) pr) s pg))

  delete_back : (b k : ℕ) → k ≤ top → first_broken (checks (request (OnBytes.delete b k)) a d) ≡ none → ReadsBack l a (does (request (OnBytes.delete b k)) a d)
  unfolding checks request_checks does request_does delete_slide delete_checks last_of value_or
  delete_back b k kt e =
      let (w, e₁) = kept_check (sound a d) Unsound _ e in
      let (un, e₂) = kept_check (unmarked (find_batch b (work_open a))) NoBatch _ e₁ in
      let (hd, e₃) = none_broken (check (held b k (work_open a)) Held) _ e₂ in
      let (pr, e₄) = kept_check (present k a) Absent _ e₃ in
      let (s, e₅) = kept_check (update_has_slots (work_slots a) (work_log a) (work_open a)) SlotsShort _ e₄ in
      let (pg, e₆) = kept_check (update_has_pages (work_pages a) (work_open a)) PagesShort [] e₅ in
      let (y, f, u) = live_batch (find_batch b (work_open a)) un in
      let (x, th) = present_of (fetched k (work_pages a)) pr in
      kept Done (remove_record Records.delete b (last_of (find_batch b (work_open a))) k (value_or (fetched k (work_pages a))) (run_of a))
      (subst (λ o. Left (length a.work.pages) (work_slots a) (remove_record Records.delete b (last_of o) k (value_or (fetched k (work_pages a))) (run_of a))) (sym f)
      (subst (λ o. Left (length a.work.pages) (work_slots a) (remove_record Records.delete b y.last k (value_or o) (run_of a))) (sym th)
      (delete_left a d few v.lendable.equal v.lendable.small w slots (v.ranged d w) v.narrow b k x y kt f u hd th s pg)))

  commit_back : (b : ℕ) → first_broken (checks (request (OnBytes.commit b)) a d) ≡ none → ReadsBack l a (does (request (OnBytes.commit b)) a d)
  unfolding checks request_checks does request_does commit_batch commit_checks last_of StoresFit
  commit_back b e =
      let (w, e₁) = kept_check (sound a d) Unsound _ e in
      let (un, e₂) = kept_check (unmarked (find_batch b (work_open a))) NoBatch [] e₁ in
      let (y, f, u) = live_batch (find_batch b (work_open a)) un in
      stored Done (emit (batch_row Records.commit b (last_of (find_batch b (work_open a)))) (run_of a)) []
      (subst (λ o. Left (length a.work.pages) (work_slots a) (emit (batch_row Records.commit b (last_of o)) (run_of a))) (sym f)
      (commit_left a d few v.lendable.equal v.lendable.small w slots (v.ranged d w) v.narrow b y f u)) tt

  abort_back : (b : ℕ) → first_broken (checks (request (OnBytes.abort b)) a d) ≡ none → ReadsBack l a (does (request (OnBytes.abort b)) a d)
  unfolding checks request_checks does request_does abort_batch abort_checks aborted
  abort_back b e =
      let (w, e₁) = kept_check (sound a d) Unsound _ e in
      let (un, e₂) = kept_check (unmarked (find_batch b (work_open a))) NoBatch _ e₁ in
      let (z, e₃) = kept_check (eqb (abort_of b a).stop 0) AbortStopped [] e₂ in
      let (y, f, u) = live_batch (find_batch b (work_open a)) un in
      kept Done (abort_of b a)
      (subst (λ o. Left (length a.work.pages) (work_slots a) (aborted o (run_of a))) (sym f)
      (abort_left a d few v.lendable.equal v.lendable.small w slots (v.ranged d w) v.narrow b y f u (subst (λ o. (aborted o (run_of a)).stop ≡ 0) f (true_eq (abort_of b a).stop 0 z))))

  return_back : (b mark : ℕ) → first_broken (checks (request (OnBytes.return_to b mark)) a d) ≡ none → ReadsBack l a (does (request (OnBytes.return_to b mark)) a d)
  unfolding checks request_checks does request_does return_batch return_checks returned
  return_back b mark e =
      let (w, e₁) = kept_check (sound a d) Unsound _ e in
      let (op, e₂) = none_broken (check (is_none (find_batch b (work_open a))) NoBatch) _ e₁ in
      let (nm, e₃) = none_broken (no_mark b mark a) _ e₂ in
      let (z, e₄) = kept_check (eqb (return_of b mark a).stop 0) AbortStopped [] e₃ in
      let (y, f) = some_of (find_batch b (work_open a)) op in
      kept Done (return_of b mark a)
      (subst (λ o. Left (length a.work.pages) (work_slots a) (returned mark o (run_of a))) (sym f)
      (return_left a d few v.lendable.equal v.lendable.small w slots (v.ranged d w) v.narrow b mark y f (subst (λ o. (returned mark o (run_of a)).stop ≡ 0) f (true_eq (return_of b mark a).stop 0 z))))

  write_out_back : (p : ℕ) → first_broken (checks (request (OnBytes.write_out p)) a d) ≡ none → ReadsBack l a (does (request (OnBytes.write_out p)) a d)
  unfolding checks request_checks does request_does write_out_page write_out_checks StoresFit StoreFits run_of
  write_out_back p e =
      let (inside, e₁) = none_broken (check (leb (length a.work.pages) p) PageNumber) _ e in
      let (w, e₂) = kept_check (sound a d) Unsound [] e₁ in
      let h = false_le (length a.work.pages) p inside in
      let i = length-map a.work.pages page_in in
      let x : PageFits (at (work_pages a) p) = (v.ranged d w).pages p (omega arith) in
      stored Done (run_of a) (store_page p (at (work_pages a) p) ∷ []) (nothing_left a d few v.lendable.equal v.lendable.small w slots (v.ranged d w) v.narrow) ((h, x), tt)

  -- Questions leave everything as it is.
  request_back : (q : Request) → request_32 q ≡ true → first_broken (checks (request q) a d) ≡ none → ReadsBack l a (does (request q) a d)
  unfolding does request_does request_32
  request_back (ask q) k e = same _ d
  request_back OnBytes.begin k e = begin_back e
  request_back (OnBytes.insert b q x) k e =
      let (y, u) = and_true (fits_32 q) (fits_32 x) (and_true (fits_32 b) (fits_32 q && fits_32 x) k).1 in
      insert_back b q x (true_le q top y) (true_le x top u) e
  request_back (OnBytes.delete b q) k e = delete_back b q (true_le q top (and_true (fits_32 b) (fits_32 q) k).1) e
  request_back (OnBytes.commit b) k e = commit_back b e
  request_back (OnBytes.abort b) k e = abort_back b e
  request_back (OnBytes.return_to b q) k e = return_back b q e
  request_back (OnBytes.write_out p) k e = write_out_back p e

  -- ---- format, load and restart: of any bytes

  fresh : (x : Answer) (e : Desk) (xs : List Page) → length xs ≡ length a.work.pages → tree_ok xs ≡ true → AllPagesFit xs
      → ReadsBack l a (record { answer = x; work = start_side xs (length a.work.log); desk = e; stores = format_stores xs (length a.work.log) })
  fresh x e xs c t f =
      back_by (length a.work.pages) (work_slots a) l a (record { answer = x; work = start_side xs (length a.work.log); desk = e; stores = format_stores xs (length a.work.log) })
      v.lengths v.stable (fresh_back (length a.work.pages) (work_slots a) xs c few t f) (format_stores_fit (length a.work.pages) (work_slots a) xs f (omega arith))

  origin_fits : (o : Origin) (k : ℕ) → AllPagesFit (origin_pages o k)
  origin_fits o k p h = let e = origin_length o k in subst PageFits (sym (origin_page o k p (omega arith))) (o.fits p)

  -- The pages of an origin.
  fresh_origin : (o : Origin) (xs : List Page) → o.least ≤ length a.work.pages → origin_pages o (length a.work.pages) ≡ xs
      → ReadsBack l a (record { answer = Done; work = start_side xs (length a.work.log); desk = empty_desk; stores = format_stores xs (length a.work.log) })
  fresh_origin o xs h i =
      let k = length a.work.pages in
      fresh Done empty_desk xs (ap length (sym i) ∙ origin_length o k) (subst (λ z. tree_ok z ≡ true) i (origin_tree o k h few)) (subst AllPagesFit i (origin_fits o k))

  start_back : (s : Start) → start_32 s ≡ true → first_broken (checks (start s) a d) ≡ none → ReadsBack l a (does (start s) a d)
  unfolding does start_does format_areas load_areas of_32_bits formatted_origin passed
  start_back OnBytes.format k e = let q = v.lengths.least_pages in fresh_origin formatted_origin (formatted_pages (length a.work.pages)) (omega arith) (formatted_is (length a.work.pages) (omega arith))
  start_back (OnBytes.load ks vs) k e =
      let x = load_starts ks vs a d (subst (λ o. passed o.answer ≡ true) (sym (unbroken_does (start (OnBytes.load ks vs)) a d e)) refl) k few in
      fresh_origin x.origin (loaded_pages (length a.work.pages) (columns ks vs)) x.enough (sym x.pages_are)

  restart_left : passed (outcome restart a d).answer ≡ true → Left (length a.work.pages) (stable_slots a) (restarted a)
  unfolding redone
  restart_left p =
      let c = Restarted.asked a d v.readable p in
      let q = v.pages_equal in
      let e = v.lendable.equal in
      let w = slots in
      subst (λ k. Left k (stable_slots a) (restarted a)) v.pages_equal
      (trail_left (length a.stable.pages) (stable_slots a) v.readable.few (omega arith) (Restarted.trailed a d v.readable p).0 (Restarted.started a d v.readable p) (restarted_within a) (v.redone c.layouts c.log) (λ i. lit< tt))

  restart_back : first_broken (checks restart a d) ≡ none → ReadsBack l a (does restart a d)
  unfolding does restart_areas passed
  restart_back e =
      let f = restart_left (subst (λ o. passed o.answer ≡ true) (sym (unbroken_does restart a d e)) refl) in
      let z : Lengths l (length a.work.pages) (stable_slots a) = subst (Lengths l (length a.work.pages)) (sym v.lendable.equal) v.lengths in
      back_by (length a.work.pages) (stable_slots a) l a (restart_areas a) z v.stable (left_back (length a.work.pages) (stable_slots a) (restarted a) f)
      (log_stores_fit (length a.work.pages) (stable_slots a) _ (restarted a).log f.ranged.records f.within)

  -- ---- every call

  does_back : (c : Call) → of_32_bits c ≡ true → first_broken (checks c a d) ≡ none → ReadsBack l a (does c a d)
  unfolding of_32_bits
  does_back (start s) k e = start_back s k e
  does_back restart k e = restart_back e
  does_back (request q) k e = request_back q k e

  refused_back : (c : Call) (r : Refusal) → ReadsBack l a (refused c r a d)
  unfolding refused refused_work StoresFit
  refused_back (start s) r = same _ _
  refused_back restart r = back_by (length a.work.pages) (work_slots a) l a (refused restart r a d) v.lengths v.stable (zero_back (length a.work.pages) (work_slots a)) tt
  refused_back (request q) r = same _ _

  -- EVERY CALL.
  pub reads_back : (c : Call) → of_32_bits c ≡ true → ReadsBack l a (outcome c a d)
  reads_back c k = go (first_broken (checks c a d)) refl
    where
      go : (o : Option Refusal) → first_broken (checks c a d) ≡ o → ReadsBack l a (outcome c a d)
      go (some r) e = subst (ReadsBack l a) (sym (broken_refused c a d r e)) (refused_back c r)
      go none e = subst (ReadsBack l a) (sym (unbroken_does c a d e)) (does_back c k e)
