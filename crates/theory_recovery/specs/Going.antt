-- A call that passed its checks, restart or another, on a register that keeps the invariant: what it ends with.
use Rattle.std.specs.Prelude.{ℕ, ◌/◌, ◌≤◌, ◌≡◌, true, false, ◌&&◌, List, [], ◌++◌, length}
use Rattle.std.proofs.Common.{sym, ◌∙◌, append-nil, arith}
use Rattle.std.proofs.Math.Path.{ap}
use Rattle.def_base.specs.Tests.{clash, and_true, true_le}
use Rattle.def_layout.specs.declared.Desk.{Desk}
use Rattle.def_layout.specs.Entries.{top}
use Rattle.def_layout.specs.Pages.{map_bits}
use Rattle.def_layout.specs.Sizes.{page_size, slot_size}
use Rattle.def_layout.specs.Records.{Rec}
use Rattle.def_model.specs.Areas.{Areas}
use Rattle.def_model.specs.Log.{log_area}
use Rattle.def_model.specs.Answers.{Outcome, passed}
use Rattle.def_model.specs.OnBytes.{Call, start, restart, request, Request, ask, begin, insert, delete, commit, abort, write_out, return_to, outcome, read_areas, lengths_ok}
use Rattle.def_recovery.specs.Events.{World, is_format, is_restart, fits_32, request_32, of_32_bits}
use Rattle.theory_history.specs.Origin.{Origin}
use Rattle.theory_history.specs.History.{History}
use Rattle.theory_history.specs.Redoing.{Image}
use Rattle.theory_ranges.specs.Histories.{RangedHistory}
use Rattle.law_areas.specs.Lengths.{Lengths, lengths_said}
use Rattle.theory_calls.specs.Stories.{story}
use Rattle.theory_calls.specs.LiveAreas.{Holds}
use Rattle.theory_calls.specs.Passing.{book_of, Fixed, Passes}
use Rattle.theory_calls.specs.Questions.{question_passes, write_out_passes}
use Rattle.theory_calls.specs.Batching.{begin_passes, commit_passes, abort_passes, return_passes}
use Rattle.theory_calls.specs.Changing.{insert_passes, delete_passes}
use Rattle.theory_calls.specs.Restarting.{passed_stop, restart_book}
use Rattle.theory_calls.specs.Ends.{Ends, passes_ends, restart_ends}
use Rattle.theory_recovery.specs.Invariant.{Sure, Mode, live, dead, lost, Inv}
use Rattle.theory_recovery.specs.AtLengths.{more_pages, sure_now, live_now, image, holding, zeros_read}
use Rattle.theory_recovery.specs.Fixing.{fixed_none}
use Rattle.theory_calls.specs.Refused.{asks_sound, zeros_unsound}

abbrev pub outcome_in : Call → World → Outcome
outcome_in c w = outcome c (read_areas w.lent) w.desk

pub record Going (o : Origin) (w : World) (stable : List Rec) (c : Call) : Type 0 where
  pub n : ℕ
  pub m : ℕ
  pub lengths : Lengths w.lent n m
  pub sure : Sure o n w.lent stable
  pub log : List Rec
  pub rest : List Rec
  pub longer : log ≡ stable ++ rest
  pub fixed : Fixed o stable rest
  pub ranged : RangedHistory o n log
  pub ends : Ends o n m stable log c (outcome_in c w)
  pub tells : book_of c (outcome_in c w) w.book ≡ story o ends.run.log

-- ---- the calls that ask for sound areas

module _ (o : Origin) (n m : ℕ) (most : n ≤ map_bits) (stable log : List Rec) (a : Areas) (d : Desk) (h : Holds o n m log a.work) (x : History o n log) (t : a.stable.log ≡ log_area m stable) where
  pub all_pass : (q : Request) → request_32 q ≡ true → passed (outcome (request q) a d).answer ≡ true → Passes o n m stable log (request q) a d
  unfolding request_32
  all_pass begin k p = begin_passes o n m most stable log a d h x p
  all_pass (ask q) k p = question_passes o n m most stable log a d h x q p
  all_pass (insert b q v) k p =
      let (y, u) = and_true (fits_32 q) (fits_32 v) (and_true (fits_32 b) (fits_32 q && fits_32 v) k).1 in
      insert_passes o n m most stable log a d h x b q v (true_le q top y) (true_le v top u) p
  all_pass (delete b q) k p = delete_passes o n m most stable log a d h x b q (true_le q top (and_true (fits_32 b) (fits_32 q) k).1) p
  all_pass (commit b) k p = commit_passes o n m most stable log a d h x b t p
  all_pass (abort b) k p = abort_passes o n m most stable log a d h x b p
  all_pass (write_out q) k p = write_out_passes o n m most stable log a d h x q t p
  all_pass (return_to b q) k p = return_passes o n m most stable log a d h x b q p

-- ---- where the invariant holds

module _ (w : World) (i : Inv w) (lens : lengths_ok w.lent ≡ true) where
  -- Pages and slots.
  pub n : ℕ
  n = length w.lent.work_pages / page_size

  pub m : ℕ
  m = length w.lent.work_log / slot_size

  pub z : Lengths w.lent n m
  unfolding n m
  z = lengths_said w.lent lens

  pub sure : Sure i.origin n w.lent i.log
  sure = sure_now i.origin n m i.n w.lent z i.log i.sure

  pub shows : Image i.origin n m i.log (read_areas w.lent).stable
  shows = image i.origin n m w.lent z i.log sure

  restarts : passed (outcome_in restart w).answer ≡ true → Going i.origin w i.log restart
  restarts p =
      let stop = passed_stop i.origin n m sure.least sure.most i.log sure.history (read_areas w.lent) w.desk shows p in
      let (e, run) = restart_ends i.origin n m sure.least sure.most i.log sure.history (read_areas w.lent) w.desk shows stop in
      record {
        n = n;
        m = m;
        lengths = z;
        sure = sure;
        log = i.log;
        rest = [];
        longer = sym (append-nil i.log);
        fixed = fixed_none i.origin i.log;
        ranged = sure.ranged;
        ends = e;
        tells = restart_book i.origin n m sure.least sure.most i.log sure.history (read_areas w.lent) w.desk shows stop w.book i.slides ∙ ap (λ t. story i.origin t.log) (sym run);
      }

  requests : (c : Request) → request_32 c ≡ true → (w.since_cut ≡ true → is_restart (request c) ≡ true) → passed (outcome_in (request c) w).answer ≡ true → Mode i.origin i.n w.lent i.log w.book w.since_cut → Going i.origin w i.log (request c)
  unfolding is_restart
  requests c k g p (live log y b) =
      let more = more_pages i.origin n m i.n w.lent z i.log i.sure in
      let v = live_now i.origin n m i.n w.lent z i.log log i.sure.least more y in
      let h = holding i.origin n m w.lent z i.log log v in
      let q = all_pass i.origin n m sure.most i.log log (read_areas w.lent) w.desk h v.history shows.logged c k p in
      let (e, run) = passes_ends i.origin n m sure.most i.log log (read_areas w.lent) w.desk h v.history (request c) q in
      record {
        n = n;
        m = m;
        lengths = z;
        sure = sure;
        log = log;
        rest = v.rest;
        longer = v.longer;
        fixed = v.fixed;
        ranged = v.ranged;
        ends = e;
        tells = ap (book_of (request c) (outcome_in (request c) w)) b ∙ q.book ∙ ap (λ t. story i.origin t.log) (sym run);
      }
  requests c k g p (dead j q a b) =
      let l = z.least_pages in
      zeros_unsound n m (omega arith) (read_areas w.lent) w.desk (zeros_read n m w.lent z j q a b) (asks_sound c (read_areas w.lent) w.desk p)
  requests c k g p (lost e) = clash (sym (g e))

  pub going : (c : Call) → of_32_bits c ≡ true → is_format c ≡ false → (w.since_cut ≡ true → is_restart c ≡ true) → passed (outcome_in c w).answer ≡ true → Going i.origin w i.log c
  unfolding is_format of_32_bits
  going (start s) k f g p = clash f
  going restart k f g p = restarts p
  going (request q) k f g p = requests q k g p i.mode
