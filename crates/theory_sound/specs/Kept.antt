-- SOUND IS KEPT, call by call, as one statement.
use Rattle.std.specs.Prelude.{ℕ, ◌≤◌, ◌≡◌, true, ◌&&◌, length, leb}
use Rattle.std.proofs.Common.{sym, ap}
use Rattle.std.proofs.Math.Path.{subst}
use Rattle.std.proofs.Math.Option.{none}
use mathlib.Core.List.{[], ◌∷◌, ◌++◌, append-nil}
use Rattle.def_base.specs.Tests.{and_true, true_le, false_le}
use Rattle.def_layout.specs.declared.Desk.{Desk}
use Rattle.def_layout.specs.Entries.{top}
use Rattle.def_layout.specs.Pages.{at, map_bits}
use Rattle.def_layout.specs.Records
use Rattle.def_layout.specs.Records.{batch_row}
use Rattle.def_model.specs.declared.Refusal.TheVariants.{Unsound, NoBatch, EightOpen, Held, Present, Absent, SlotsShort, PagesShort}
use Rattle.def_model.specs.declared.Answer.TheVariants.{Done}
use Rattle.def_model.specs.Areas.{Areas, store_page, store_all, log_stores}
use Rattle.def_model.specs.Answers.{Outcome, check, first_broken, passed}
use Rattle.def_model.specs.Batches.{find_batch, unmarked}
use Rattle.def_model.specs.Pending.{held}
use Rattle.def_model.specs.Lookup.{fetched}
use Rattle.def_model.specs.Update.{emit, put_record, remove_record}
use Rattle.def_model.specs.Sound.{sound, work_pages, work_log, work_slots, work_open, update_has_slots, update_has_pages, begin_has_slots}
use Rattle.def_model.specs.Calls.{is_none, run_of, kept_run, stored_run, present, value_or, last_of, zero_key, begin_checks, begin_batch, insert_checks, insert_slide, delete_checks, delete_slide, commit_checks, commit_batch, aborted, abort_checks, abort_batch, write_out_page, return_checks, return_batch, returned}
use Rattle.def_model.specs.OnBytes.{request, Request, ask, begin, insert, delete, commit, abort, write_out, return_to, checks, request_checks, does, request_does, outcome}
use Rattle.def_recovery.specs.Events.{fits_32, request_32}
use Rattle.theory_ledger.specs.Small.{Small}
use Rattle.theory_calls.specs.Checks.{none_broken, kept_check, some_of, live_batch, absent_of, present_of}
use Rattle.theory_refusals.specs.Order.{passed_does}
use Rattle.theory_calls.specs.Refused.{asks_sound}
use Rattle.theory_sound.specs.SoundAfter.{page_after}
use Rattle.theory_sound.specs.SoundKept.{areas_after, insert_sound, delete_sound, begin_sound, commit_sound, abort_sound, return_sound, write_out_sound}

-- What a lent register is: at most 896 pages, equal logs, keys of 32 bits.
pub record Lendable (a : Areas) : Type 0 where
  pub few : length a.work.pages ≤ map_bits
  pub equal : length a.stable.log ≡ length a.work.log
  pub small : Small (work_open a)

abbrev SoundAfter : Areas → Desk → Outcome → Type 0
SoundAfter a d o = sound (record { work = o.work; stable = store_all o.stores a.stable }) o.desk ≡ true

module _ (a : Areas) (d : Desk) (l : Lendable a) (s : sound a d ≡ true) where
  begin_kept : first_broken (checks (request begin) a d) ≡ none → SoundAfter a d (does (request begin) a d)
  unfolding checks request_checks does request_does begin_batch begin_checks kept_run store_all run_of
  begin_kept e =
      let (u, e₁) = kept_check (sound a d) Unsound _ e in
      let (eight, e₂) = none_broken (check (leb 8 (length (work_open a))) EightOpen) _ e₁ in
      let (room, e₃) = kept_check (begin_has_slots (work_slots a) (work_log a) (work_open a)) SlotsShort [] e₂ in
      begin_sound a d l.few l.equal l.small s (false_le 8 (length (work_open a)) eight) room

  insert_kept : (b k v : ℕ) → k ≤ top → v ≤ top → first_broken (checks (request (insert b k v)) a d) ≡ none → SoundAfter a d (does (request (insert b k v)) a d)
  unfolding checks request_checks does request_does insert_slide insert_checks kept_run store_all last_of
  insert_kept b k v kt vt e =
      let (nz, e₀) = none_broken (zero_key k) _ e in
      let (w, e₁) = kept_check (sound a d) Unsound _ e₀ in
      let (un, e₂) = kept_check (unmarked (find_batch b (work_open a))) NoBatch _ e₁ in
      let (hd, e₃) = none_broken (check (held b k (work_open a)) Held) _ e₂ in
      let (pr, e₄) = none_broken (check (present k a) Present) _ e₃ in
      let (sl, e₅) = kept_check (update_has_slots (work_slots a) (work_log a) (work_open a)) SlotsShort _ e₄ in
      let (pg, e₆) = kept_check (update_has_pages (work_pages a) (work_open a)) PagesShort [] e₅ in
      let (y, f, u) = live_batch (find_batch b (work_open a)) un in
      subst (λ o. SoundAfter a d (kept_run Done a (put_record Records.insert b (last_of o) k v (run_of a)) d)) (sym f)
      (insert_sound a d l.few l.equal l.small s b k v y kt vt f u hd (absent_of (fetched k (work_pages a)) pr) sl pg)

  delete_kept : (b k : ℕ) → k ≤ top → first_broken (checks (request (delete b k)) a d) ≡ none → SoundAfter a d (does (request (delete b k)) a d)
  unfolding checks request_checks does request_does delete_slide delete_checks kept_run store_all last_of value_or
  delete_kept b k kt e =
      let (w, e₁) = kept_check (sound a d) Unsound _ e in
      let (un, e₂) = kept_check (unmarked (find_batch b (work_open a))) NoBatch _ e₁ in
      let (hd, e₃) = none_broken (check (held b k (work_open a)) Held) _ e₂ in
      let (pr, e₄) = kept_check (present k a) Absent _ e₃ in
      let (sl, e₅) = kept_check (update_has_slots (work_slots a) (work_log a) (work_open a)) SlotsShort _ e₄ in
      let (pg, e₆) = kept_check (update_has_pages (work_pages a) (work_open a)) PagesShort [] e₅ in
      let (y, f, u) = live_batch (find_batch b (work_open a)) un in
      let (v, th) = present_of (fetched k (work_pages a)) pr in
      subst (λ o. SoundAfter a d (kept_run Done a (remove_record Records.delete b (last_of o) k (value_or (fetched k (work_pages a))) (run_of a)) d)) (sym f)
      (subst (λ o. SoundAfter a d (kept_run Done a (remove_record Records.delete b y.last k (value_or o) (run_of a)) d)) (sym th)
      (delete_sound a d l.few l.equal l.small s b k v y kt f u hd th sl pg))

  commit_kept : (b : ℕ) → first_broken (checks (request (commit b)) a d) ≡ none → SoundAfter a d (does (request (commit b)) a d)
  unfolding checks request_checks does request_does commit_batch commit_checks stored_run last_of
  commit_kept b e =
      let (w, e₁) = kept_check (sound a d) Unsound _ e in
      let (un, e₂) = kept_check (unmarked (find_batch b (work_open a))) NoBatch [] e₁ in
      let (y, f, u) = live_batch (find_batch b (work_open a)) un in
      subst (λ o. SoundAfter a d (stored_run Done a (emit (batch_row Records.commit b (last_of o)) (run_of a)) d [])) (sym f)
      (commit_sound a d l.few l.equal l.small s b y f u (store_all (log_stores d.stored (emit (batch_row Records.commit b y.last) (run_of a)).log ++ []) a.stable) (ap (λ z. (store_all z a.stable).log) (append-nil (log_stores d.stored (emit (batch_row Records.commit b y.last) (run_of a)).log))))

  abort_kept : (b : ℕ) → first_broken (checks (request (abort b)) a d) ≡ none → SoundAfter a d (does (request (abort b)) a d)
  unfolding checks request_checks does request_does abort_batch abort_checks kept_run store_all aborted
  abort_kept b e =
      let (w, e₁) = kept_check (sound a d) Unsound _ e in
      let (un, e₂) = kept_check (unmarked (find_batch b (work_open a))) NoBatch _ e₁ in
      let (y, f, u) = live_batch (find_batch b (work_open a)) un in
      subst (λ o. SoundAfter a d (kept_run Done a (aborted o (run_of a)) d)) (sym f) (abort_sound a d l.few l.equal l.small s b y f u)

  return_kept : (b mark : ℕ) → first_broken (checks (request (return_to b mark)) a d) ≡ none → SoundAfter a d (does (request (return_to b mark)) a d)
  unfolding checks request_checks does request_does return_batch return_checks kept_run store_all returned
  return_kept b mark e =
      let (w, e₁) = kept_check (sound a d) Unsound _ e in
      let (op, e₂) = none_broken (check (is_none (find_batch b (work_open a))) NoBatch) _ e₁ in
      let (y, f) = some_of (find_batch b (work_open a)) op in
      subst (λ o. SoundAfter a d (kept_run Done a (returned mark o (run_of a)) d)) (sym f) (return_sound a d l.few l.equal l.small s b mark y f)

  write_out_kept : (q : ℕ) → SoundAfter a d (does (request (write_out q)) a d)
  unfolding does request_does write_out_page stored_run
  write_out_kept q = write_out_sound a d l.few l.equal l.small s (store_all (log_stores d.stored (run_of a).log ++ store_page q (at (work_pages a) q) ∷ []) a.stable) (page_after (log_stores d.stored (run_of a).log) q (at (work_pages a) q) a.stable)

  -- Questions leave everything as it is.
  request_kept : (q : Request) → request_32 q ≡ true → first_broken (checks (request q) a d) ≡ none → SoundAfter a d (does (request q) a d)
  unfolding does request_does store_all request_32
  request_kept begin k e = begin_kept e
  request_kept (ask q) k e = s
  request_kept (insert b q v) k e =
      let (y, u) = and_true (fits_32 q) (fits_32 v) (and_true (fits_32 b) (fits_32 q && fits_32 v) k).1 in
      insert_kept b q v (true_le q top y) (true_le v top u) e
  request_kept (delete b q) k e = delete_kept b q (true_le q top (and_true (fits_32 b) (fits_32 q) k).1) e
  request_kept (commit b) k e = commit_kept b e
  request_kept (abort b) k e = abort_kept b e
  request_kept (return_to b m) k e = return_kept b m e
  request_kept (write_out q) k e = write_out_kept q

-- THE WHOLE, of every call that asks for sound areas.
pub sound_kept : (q : Request) (a : Areas) (d : Desk) → request_32 q ≡ true → Lendable a → passed (outcome (request q) a d).answer ≡ true → sound (areas_after (request q) a d) (outcome (request q) a d).desk ≡ true
sound_kept q a d k l p = let (e, did) = passed_does (request q) a d p in subst (SoundAfter a d) (sym did) (request_kept a d l (asks_sound q a d p) q k e)
