-- What every call has where refusals 1 and 11 find nothing, and what it then knows of batches, slots and pages.
use Rattle.std.specs.Prelude.{◌≡◌, ℕ, zero, suc, ◌*◌, ◌≤◌, ◌<◌, ◌≢◌, ◌⊎◌, Bool, eqb, None}
use Rattle.std.proofs.Math.Path.{refl, ap, sym, subst}
use Rattle.std.proofs.Common.{◌∙◌, arith, ⊎_elim}
use Rattle.std.proofs.Math.Bool.{true, false, not}
use Rattle.std.proofs.Math.Option.{Option, none, some}
use mathlib.Core.List.{List, [], ◌∷◌, map}
use Rattle.std.proofs.Math.ListN.{length, get_or}
use Rattle.def_base.specs.Tests.{pick, Case, yes!, no!, case, clash, and_true, true_eq, eq_true}
use Rattle.def_layout.specs.declared.Row.{Row}
use Rattle.def_layout.specs.declared.Desk.{Desk}
use Rattle.def_layout.specs.Desks.{row_at}
use Rattle.def_layout.specs.Sizes.{page_size}
use Rattle.def_layout.specs.Records.{Rec, Kind, batch_row}
use Rattle.def_model.specs.declared.Refusal.{Refusal}
use Rattle.def_model.specs.declared.Answer.{Answer}
use Rattle.def_model.specs.declared.Answer.TheVariants.{Refused}
use Rattle.def_model.specs.Log.{records_of}
use Rattle.def_model.specs.Answers.{first_broken}
use Rattle.def_model.specs.Batches.{Batch, find_batch, unmarked, chain_ok, row_of}
use Rattle.def_model.specs.Areas.{Areas}
use Rattle.def_model.specs.Change.{changes, shape}
use Rattle.def_model.specs.Update.{emit}
use Rattle.def_model.specs.Links.{of_leaves, relinked}
use Rattle.def_model.specs.Sound.{sound, layouts_ok, log_ok, work_pages, work_log, work_slots, work_open}
use Rattle.def_model.specs.Calls.{run_of, is_none, last_of, last_record, unchanged}
use Rattle.def_model.specs.OnBytes.{Request, request, checks, request_checks, refused_desk, refused_work, refused, lengths_ok, read_lefts, read_log, read_areas, outcome}
use Rattle.law_bytes.specs.Tables.{getD_tab}
use Rattle.law_areas.specs.Logs.{read_log_length}
use Rattle.law_areas.specs.Outcomes.{broken_refused}
use Rattle.law_areas.specs.Working.{paired_lefts, work_length, read_work_length, read_lefts_length}
use Rattle.law_areas.specs.WorkPages.{paired_leaves}
use Rattle.theory_tree.specs.Shape.LeftLinks.{of_leaves_length, relinked_same}
use Rattle.theory_tree.specs.Test.Test.{test_sound}
use Rattle.theory_calls.specs.Checks.{sound_parts}
use Rattle.area_lengths.specs.Lent.{lent}
use Rattle.law_bytes.specs.DeskRows.{place_of}
use Rattle.theory_desk.specs.Opened.{batch_at, log_chain, zero_not_open}
use Rattle.theory_desk.specs.Said.{said_row, said_used, said_none, said_found}
use Rattle.log_chain.specs.Shown.{marks_of}
use Rattle.tree_write.specs.declared.Run as run
use Rattle.tree_write.specs.Shows.{Shows, quiet_emit}
use Rattle.call_reply.specs.declared.Reply.{Reply}
use Rattle.call_reply.specs.Replies.{Replies, left_alone}
use Rattle.sound_register.specs.declared.Standing.{Standing}
use Rattle.sound_register.specs.Standing.{Known, pages_in, log_in}

pub record Given (n m : ℕ) (wp sp wl sl : List ℕ) (d : Desk) (r : Standing) : Type 0 where
  pub lengths : lengths_ok (lent wp sp wl sl) ≡ true
  pub is_sound : sound (read_areas (lent wp sp wl sl)) d ≡ true
  pub known : Known n m wp wl sl d r (pages_in wp) (log_in wl)

abbrev pub open_place : ℕ → List Row → ℕ
open_place b rows = pick (eqb b 0) 8 (place_of b rows)

-- The row's place of an open batch without its abort mark.
pub record Live (rows : List Row) (marked : List Bool) (b i : ℕ) : Type 0 where
  pub low : i < 8
  pub place : i ≡ open_place b rows
  pub free : get_or marked i false ≡ false

-- There is none: the batch is not open, or it has its mark.
abbrev pub NotLive : List Row → List Bool → ℕ → Type 0
NotLive rows marked b = (open_place b rows ≡ 8) ⊎ ((open_place b rows < 8) × (get_or marked (open_place b rows) false ≡ true))

module _ {n m : ℕ} {wp sp wl sl : List ℕ} {d : Desk} {r : Standing} (g : Given n m wp sp wl sl d r) where
  abbrev pub areas : Areas
  areas = read_areas (lent wp sp wl sl)

  abbrev log : List Rec
  log = records_of (read_log wl)

  -- An answer that leaves everything as it is, and a check that is broken.
  abbrev pub Answers : Request → Answer → Type 0
  Answers q answer = (budget : ℕ) (y : Reply) → (y.answer ≡ answer) × (y.desk ≡ d) → Replies (request q) (lent wp sp wl sl) d budget y (lent wp sp wl sl)

  pub answer : (q : Request) (w : Answer) → outcome (request q) areas d ≡ unchanged w areas d → Answers q w
  answer q w e budget y h = left_alone (request q) wp sp wl sl d g.lengths w budget y e h.0 h.1

  pub refuse : (q : Request) (why : Refusal) → first_broken (request_checks q areas d) ≡ some why → Answers q (Refused why)
  unfolding checks refused refused_work refused_desk
  refuse q why e = answer q (Refused why) (broken_refused (request q) areas d why e)

  pub given_chain : chain_ok 1 (work_log areas) [] ≡ true
  unfolding sound read_areas
  given_chain =
      let p = and_true (layouts_ok areas.work) _ g.is_sound in
      let q = and_true (log_ok areas.work) _ p.1 in
      log_chain areas.work q.0

  pub given_slots : work_slots areas ≡ m
  unfolding read_areas
  given_slots = read_log_length m wl (g.known.shows sp).size

  pub given_length : length wp ≡ page_size * n
  given_length = let h = g.known.pages in ap length h.bytes ∙ work_length (pages_in wp) (read_lefts wp) ∙ ap (λ (k : ℕ). page_size * k) h.size

  pub given_pages : length areas.work.pages ≡ n
  unfolding read_areas
  given_pages = read_work_length n wp given_length

  -- Its left links are as they are worked out: they agree with the right ones.
  pub given_links : relinked (run_of areas).pages (run_of areas).lefts ≡ (run_of areas).lefts
  unfolding read_areas run_of
  given_links =
      let p = g.known.pages in
      let xs = work_pages areas in
      let ls = read_lefts wp in
      let e : length ls ≡ length xs = read_lefts_length n wp given_length ∙ sym p.size in
      let same : of_leaves xs ls ≡ ls = sym (paired_lefts xs (of_leaves xs ls) (of_leaves_length xs ls)) ∙ ap (map (λ y. y.left)) (paired_leaves xs ls p.links) ∙ paired_lefts xs ls e in
      let s = sound_parts areas d g.is_sound in
      relinked_same xs (test_sound xs s.tree) ls same s.lefts

  -- The areas show a run that begins at the desk's last record.
  pub run_shown : (t : run.Run) → t ≡ record { logged = d.logged; stop = None } → Shows n m wp wl t (run_of areas)
  run_shown t e = subst (λ (v : run.Run). Shows n m wp wl v (run_of areas)) (sym e) (g.known.shows sp)

  -- A record that changes no page leaves them.
  pub quiet_links : (kind : Kind) (b previous : ℕ) → shape kind ≡ changes false false false false
      → relinked (emit (batch_row kind b previous) (run_of areas)).pages (emit (batch_row kind b previous) (run_of areas)).lefts ≡ (emit (batch_row kind b previous) (run_of areas)).lefts
  quiet_links kind b previous q =
      let (x, y) = quiet_emit kind b previous (run_of areas) q in
      (λ i. relinked (x i) (y i)) ∙ given_links ∙ sym y

  -- ---- a batch by its row

  abbrev bs : List Batch
  bs = work_open areas

  no_rows_zero : (b : ℕ) → b ≡ 0 → find_batch b bs ≡ none
  unfolding read_areas
  no_rows_zero b e = ap (λ (i : ℕ). find_batch i bs) e ∙ zero_not_open log

  no_row_none : (b i : ℕ) → i ≡ place_of b d.rows → 8 ≤ i → find_batch b bs ≡ none
  unfolding read_areas
  no_row_none b i e h = said_none log d given_chain g.known.desk b i e h

  row_found : (b i : ℕ) → b ≢ 0 → i ≡ place_of b d.rows → i < 8 → find_batch b bs ≡ some (batch_at bs i)
  unfolding read_areas
  row_found b i z e h = said_found log d given_chain g.known.desk b i z e h

  pub row_is : (i : ℕ) → row_at d.rows i ≡ row_of (batch_at bs i)
  unfolding read_areas
  row_is i = said_row log d given_chain g.known.desk i

  marks_at : (cs : List Batch) (i : ℕ) → get_or (marks_of cs) i false ≡ (batch_at cs i).marked
  marks_at [] i = refl
  marks_at (c ∷ cs) zero = refl
  marks_at (c ∷ cs) (suc i) = marks_at cs i

  pub mark_is : (i : ℕ) → i < 8 → get_or r.marked i false ≡ (batch_at bs i).marked
  unfolding read_areas
  mark_is i h = ap (λ (ms : List Bool). get_or ms i false) g.known.marked ∙ getD_tab 8 i (λ j. get_or (marks_of bs) j false) false h ∙ marks_at bs i

  pub open_count : place_of 0 d.rows ≡ length bs
  unfolding read_areas
  open_count = said_used log d given_chain g.known.desk

  -- ---- batches by number

  -- The place of an open batch's row, or 8: batch 0 is never open.
  pub open_none : (b i : ℕ) → i ≡ open_place b d.rows → 8 ≤ i → is_none (find_batch b bs) ≡ true
  unfolding is_none
  open_none b i e h = go (case (eqb b 0))
    where
      go : Case (eqb b 0) → is_none (find_batch b bs) ≡ true
      go (yes! z) = ap is_none (no_rows_zero b (true_eq b 0 z))
      go (no! z) = ap is_none (no_row_none b i (e ∙ rw z) h)

  pub open_zero : (b i : ℕ) → i ≡ open_place b d.rows → i < 8 → (b ≢ 0) × (i ≡ place_of b d.rows)
  open_zero b i e h = go (case (eqb b 0))
    where
      go : Case (eqb b 0) → (b ≢ 0) × (i ≡ place_of b d.rows)
      go (yes! z) = let k : i ≡ 8 = e ∙ rw z in absurd (omega arith)
      go (no! z) = (λ q. clash (sym (eq_true b 0 q) ∙ z), e ∙ rw z)

  pub open_found : (b i : ℕ) → i ≡ open_place b d.rows → i < 8 → find_batch b bs ≡ some (batch_at bs i)
  open_found b i e h = let z = open_zero b i e h in row_found b i z.0 z.1 h

  pub open_some : (b i : ℕ) → i ≡ open_place b d.rows → i < 8 → is_none (find_batch b bs) ≡ false
  unfolding is_none
  open_some b i e h = ap is_none (open_found b i e h)

  -- The same of a batch without its abort mark.
  live_none : (b i : ℕ) → i ≡ open_place b d.rows → 8 ≤ i → unmarked (find_batch b bs) ≡ false
  unfolding is_none unmarked
  live_none b i e h = go (find_batch b bs) (open_none b i e h)
    where
      go : (o : Option Batch) → is_none o ≡ true → unmarked o ≡ false
      go none q = refl
      go (some x) q = clash (sym q)

  pub live_marked : (b i : ℕ) → i ≡ open_place b d.rows → i < 8 → get_or r.marked i false ≡ true → unmarked (find_batch b bs) ≡ false
  unfolding unmarked
  live_marked b i e h q = ap unmarked (open_found b i e h) ∙ ap not (sym (mark_is i h) ∙ q)

  pub live_some : (b i : ℕ) → i ≡ open_place b d.rows → i < 8 → get_or r.marked i false ≡ false → unmarked (find_batch b bs) ≡ true
  unfolding unmarked
  live_some b i e h q = ap unmarked (open_found b i e h) ∙ ap not (sym (mark_is i h) ∙ q)

  pub live_is : (b i : ℕ) → Live d.rows r.marked b i → unmarked (find_batch b bs) ≡ true
  live_is b i l = live_some b i l.place l.low l.free

  pub last_is : (b i : ℕ) → i ≡ open_place b d.rows → i < 8 → (row_at d.rows i).last ≡ last_record b areas
  unfolding last_of row_of
  last_is b i e h = ap (λ (x : Row). x.last) (row_is i) ∙ sym (ap last_of (open_found b i e h))

  pub live_not : (b : ℕ) → NotLive d.rows r.marked b → unmarked (find_batch b bs) ≡ false
  live_not b h =
      ⊎_elim (λ (q : open_place b d.rows ≡ 8). live_none b (open_place b d.rows) refl (omega (arith, q)))
      (λ (q : (open_place b d.rows < 8) × (get_or r.marked (open_place b d.rows) false ≡ true)). live_marked b (open_place b d.rows) refl q.0 q.1) h
