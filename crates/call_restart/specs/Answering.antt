-- WHAT A RESTART REPLIES: refused, with zeros in the working areas; or done, with the records that it wrote stored by a budget.
use Prim.Native.Nat.{ℕ, zero, suc, ◌*◌, ◌/◌, ◌≤◌}
use Rattle.std.specs.Prelude.{◌≡◌, true, replicate, take}
use Rattle.std.proofs.Math.Path.{refl, sym, ap, ap₂, subst}
use Rattle.std.proofs.Common.{◌∙◌, arith}
use Rattle.std.proofs.Math.Option.{none, some}
use mathlib.Core.List.{List, []}
use Rattle.std.proofs.Math.ListN.{length}
use Rattle.def_layout.specs.declared.Desk.{Desk}
use Rattle.def_layout.specs.Desks.{empty_desk, no_row}
use Rattle.def_layout.specs.Numbers.{zeros}
use Rattle.def_layout.specs.Sizes.{page_size, slot_size}
use Rattle.def_layout.specs.Records.{Rec}
use Rattle.def_model.specs.declared.Refusal.{Refusal}
use Rattle.def_model.specs.declared.Answer.TheVariants.{Pair, Refused}
use Rattle.def_layout.specs.Pages.{zero_page}
use Rattle.def_layout.specs.PageBytes.{page}
use Rattle.def_model.specs.Areas.{Areas, log_stores, pages_of}
use Rattle.def_model.specs.TreeRules.{tree_ok}
use Rattle.def_model.specs.Calls.{run_side}
use Rattle.def_model.specs.Answers.{Outcome, first_broken, passed}
use Rattle.def_model.specs.Batches.{open_batches, desk_of}
use Rattle.def_model.specs.Redo.{redo_count}
use Rattle.def_model.specs.Restart.{stable_log, stable_pages, stable_slots, restarted, restart_checks, restart_areas}
use Rattle.def_model.specs.OnBytes.{Lent, restart, checks, does, refused_desk, refused_work, refused, lengths_ok, read_areas, store_all_bytes}
use Rattle.def_recovery.specs.Events.{of_32_bits}
use Rattle.law_areas.specs.Typed.{pages_back}
use Rattle.law_areas.specs.Pages.{zero_pages_bytes}
use Rattle.law_areas.specs.Working.{work_unlinked, read_work_length}
use Rattle.theory_calls.specs.Checks.{sound_parts}
use Rattle.theory_sound.specs.SoundKept.{areas_after}
use Rattle.law_areas.specs.Logs.{read_log_length, empty_bytes, log_filled}
use Rattle.law_areas.specs.Outcomes.{broken_refused, unbroken_does}
use Rattle.area_lengths.specs.Lent.{lent, Sized, lengths_numbers}
use Rattle.area_store.specs.Beside.{SlotsLeft}
use Rattle.area_store.specs.Unstored.{records_left}
use Rattle.tree_write.specs.declared.Run as run
use Rattle.tree_write.specs.Shows.{Shows}
use Rattle.call_reply.specs.declared.Reply.{Reply}
use Rattle.call_reply.specs.Replies.{Replies, Links, Leaves, leaves_linked, by_outcome, run_pages, run_log}
use Rattle.theory_sound.specs.OfBytes.{readable, calls_leave_sound}
use Rattle.theory_sound.specs.RestartDesk.{restart_desk}

module _ (wp sp wl sl : List ℕ) (d : Desk) (lens : lengths_ok (lent wp sp wl sl) ≡ true) (budget : ℕ) (r : Reply) where
  abbrev l : Lent
  l = lent wp sp wl sl

  abbrev a : Areas
  a = read_areas (lent wp sp wl sl)

  unstored : (b : ℕ) → store_all_bytes (take b []) l ≡ l
  unfolding store_all_bytes
  unstored zero = refl
  unstored (suc b) = refl

  -- REFUSED by 3 to 18.
  pub restart_refused : (why : Refusal) → first_broken (restart_checks a) ≡ some why → (wp' wl' : List ℕ) → wp' ≡ zeros (length wp) → wl' ≡ zeros (length wl) → r.answer ≡ Refused why → r.desk ≡ empty_desk
      → Replies restart l d budget r (lent wp' sp wl' sl)
  unfolding checks refused refused_work refused_desk read_areas
  restart_refused why e wp' wl' zp zl y k =
      let z : Sized wp sp wl sl = lengths_numbers wp sp wl sl lens in
      let s = unstored budget in
      let np : page_size * length a.work.pages ≡ length wp = ap (λ (i : ℕ). page_size * i) (read_work_length (length wp / page_size) wp z.0) ∙ sym z.0 in
      let nl : slot_size * length a.work.log ≡ length wl = ap (λ (i : ℕ). slot_size * i) (read_log_length (length wl / slot_size) wl z.4) ∙ sym z.4 in
      by_outcome restart wp sp wl sl d lens (refused restart why a d) budget r wp' sp wl' sl (broken_refused restart a d why e) y k
      (work_unlinked (replicate (length a.work.pages) (page zero_page)) (length a.work.pages) ∙ zero_pages_bytes (length a.work.pages) ∙ ap zeros np ∙ sym zp)
      (empty_bytes (length a.work.log) ∙ ap zeros nl ∙ sym zl)
      (ap (λ (x : Lent). x.stable_pages) s)
      (ap (λ (x : Lent). x.stable_log) s)

  -- DONE: no check is broken, and the areas show the run after its batches are settled.
  module _ {n m : ℕ} {wp₁ wp' wl' : List ℕ} (u : run.Run) (e : first_broken (restart_checks a) ≡ none) (f : stable_slots a ≡ m) (h : Shows n m wp₁ wl' u (restarted a)) (links : Links n wp₁ wp') where
    tree : tree_ok (restarted a).pages ≡ true
    unfolding checks does restart_areas run_side of_32_bits passed
    tree =
        let q = unbroken_does restart a d e in
        subst (λ xs. tree_ok xs ≡ true) (ap (λ (o : Outcome). pages_of o.work.pages) q ∙ pages_back (restarted a).pages) (sound_parts (areas_after restart a d) _ (calls_leave_sound l lens restart d refl (ap (λ (o : Outcome). passed o.answer) q))).tree

    left : Leaves n m wp' wl' (restarted a)
    left = leaves_linked h (λ q. links (restarted a).pages (restarted a).lefts q tree)

    pub restart_done : (ended count old : ℕ) (sl' : List ℕ) → ended ≡ length (open_batches (stable_log a)) → count ≡ redo_count 1 (stable_log a) (stable_pages a) → old ≡ length (stable_log a)
        → old ≤ u.logged → SlotsLeft old u.logged budget wl' sl sl' → r.answer ≡ Pair ended count
        → r.desk ≡ record { rows = replicate 8 no_row; logged = u.logged; stored = u.logged }
        → Replies restart l d budget r (lent wp' sp wl' sl')
    unfolding checks does restart_areas
    restart_done ended count old sl' ee ec eo fewer slots y k =
        let log : List Rec = (restarted a).log in
        let n : length log ≡ u.logged = h.logged in
        let s = records_left m old budget log wl' (log_filled m log h.log h.size) (omega arith) _ (ap (λ (i : ℕ). log_stores i log) (sym eo)) u.logged (sym n) wp sp wl sl sl' slots in
        by_outcome restart wp sp wl sl d lens (restart_areas a) budget r wp' sp wl' sl' (unbroken_does restart a d e)
        (y ∙ ap₂ Pair ee ec)
        (k ∙ sym (ap (desk_of log) n ∙ restart_desk a (readable l lens) e u.logged u.logged (sym n)))
        (run_pages (stable_slots a) left)
        (run_log f left)
        s.0
        s.1
