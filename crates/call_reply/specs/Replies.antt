-- What a call answers and leaves, as the definitions say it: of calls that change nothing, that leave a run, and that store.
use Rattle.std.specs.Prelude.{◌≡◌, Bool, false, length, take}
use Rattle.std.proofs.Math.Path.{refl, ap, sym, subst}
use Rattle.std.proofs.Common.{◌∙◌}
use Prim.Native.Nat.{ℕ, zero, suc, ◌*◌, ◌/◌}
use Rattle.std.proofs.Math.Bool.{true}
use mathlib.Core.List.{List, [], ◌++◌}
use Rattle.def_layout.specs.declared.Desk.{Desk}
use Rattle.def_layout.specs.Sizes.{page_size, slot_size}
use Rattle.def_model.specs.declared.Refusal.TheVariants.{Lengths}
use Rattle.def_model.specs.declared.Answer.{Answer}
use Rattle.def_model.specs.declared.Answer.TheVariants.{Refused}
use Rattle.def_model.specs.Log.{last_number, log_area}
use Rattle.def_model.specs.Areas.{Store, log_stores, pages_of}
use Rattle.def_model.specs.TreeRules.{tree_ok}
use Rattle.def_model.specs.Answers.{Outcome, passed}
use Rattle.def_model.specs.Batches.{desk_of}
use Rattle.def_model.specs.Update.{Run}
use Rattle.def_model.specs.Links.{relinked}
use Rattle.def_model.specs.Sound.{work_slots}
use Rattle.def_model.specs.Calls.{run_side, kept_run, stored_run, unchanged}
use Rattle.def_model.specs.OnBytes.{Lent, Call, Result, lengths_ok, refused_desk, read_areas, work_bytes, log_bytes, outcome, call_by, call, store_all_bytes, lent_after}
use Rattle.def_layout.specs.Pages.{Page}
use Rattle.def_recovery.specs.Events.{of_32_bits}
use Rattle.law_areas.specs.Logs.{HoldsLog, log_filled}
use Rattle.law_areas.specs.Typed.{pages_back}
use Rattle.theory_calls.specs.Checks.{sound_parts}
use Rattle.theory_sound.specs.SoundKept.{areas_after}
use Rattle.theory_sound.specs.OfBytes.{calls_leave_sound}
use Rattle.theory_refusals.specs.Lossless.{work_lossless, log_lossless}
use Rattle.record_pages.specs.Pages.{Pages}
use Rattle.area_lengths.specs.Lent.{lent, Sized, lengths_numbers}
use Rattle.tree_write.specs.declared.Run as run
use Rattle.tree_write.specs.Shows.{Shows}
use Rattle.call_reply.specs.declared.Reply.{Reply}

-- THE REPLY to call c on the areas l and the desk d: answer, desk, and the four areas after it, of whose stores the first `budget` were carried out.
pub record Replies (c : Call) (l : Lent) (d : Desk) (budget : ℕ) (r : Reply) (after : Lent) : Type 0 where
  pub answer : r.answer ≡ (call c l d).answer
  pub desk : r.desk ≡ (call c l d).desk
  pub areas : after ≡ lent_after budget (call c l d) l

-- The reply to a call of which every store was carried out.
abbrev pub RepliesWhole : (c : Call) (l : Lent) (d : Desk) (r : Reply) (after : Lent) → Type 0
RepliesWhole c l d r after = Replies c l d (length (call c l d).stores) r after

-- ---- refusal 1

pub lengths_refused : (c : Call) (l : Lent) (d : Desk) (budget : ℕ) (r : Reply) → lengths_ok l ≡ false → r.answer ≡ Refused Lengths → r.desk ≡ refused_desk c d
    → Replies c l d budget r l
unfolding call call_by lent_after store_all_bytes
lengths_refused c l d budget r e p q =
    let f : call c l d ≡ call_by false c l d = ap (λ (b : Bool). call_by b c l d) e in
    record {
      answer = p ∙ ap (λ (x : Result). x.answer) (sym f);
      desk = q ∙ ap (λ (x : Result). x.desk) (sym f);
      areas = none_stored budget ∙ ap (λ (x : Result). lent_after budget x l) (sym f);
    }
  where
    none_stored : (b : ℕ) → l ≡ lent_after b (call_by false c l d) l
    none_stored zero = refl
    none_stored (suc b) = refl

-- ---- every other outcome

-- WHAT A RUN LEAVES: its pages, their left links worked out, and its log.
pub record Leaves (n m : ℕ) (wp wl : List ℕ) (s : Run) : Type 0 where
  pub pages : Pages n wp s.pages (relinked s.pages s.lefts)
  pub log : HoldsLog wl s.log
  pub size : length wl ≡ slot_size * m

-- What the program that works links out does (tree_links/src: relink).
abbrev pub Links : (n : ℕ) (wp wp' : List ℕ) → Type 0
Links n wp wp' = (xs : List Page) (ls : List ℕ) → Pages n wp xs ls → tree_ok xs ≡ true → Pages n wp' xs (relinked xs ls)

-- Where the program has worked them out; and where they are as they were.
pub leaves_linked : {n m : ℕ} {wp wl : List ℕ} {t : run.Run} {s : Run} → Shows n m wp wl t s → {wp' : List ℕ} → (Pages n wp s.pages s.lefts → Pages n wp' s.pages (relinked s.pages s.lefts)) → Leaves n m wp' wl s
leaves_linked h f = record { pages = f h.pages; log = h.log; size = h.size }

pub leaves_same : {n m : ℕ} {wp wl : List ℕ} {t : run.Run} {s : Run} → Shows n m wp wl t s → relinked s.pages s.lefts ≡ s.lefts → Leaves n m wp wl s
leaves_same {n} {m} {wp} {wl} {t} {s} h e = leaves_linked h (subst (Pages n wp s.pages) (sym e))

pub run_pages : {n m : ℕ} {wp wl : List ℕ} {s : Run} (k : ℕ) → Leaves n m wp wl s → work_bytes (run_side k s).pages (run_side k s).lefts ≡ wp
unfolding run_side
run_pages k h = sym h.pages.bytes

pub run_log : {n m k : ℕ} {wp wl : List ℕ} {s : Run} → k ≡ m → Leaves n m wp wl s → log_bytes (run_side k s).log ≡ wl
unfolding run_side
run_log {m = m} {s = s} e h = ap (λ (k : ℕ). log_bytes (log_area k s.log)) e ∙ sym (log_filled m s.log h.log h.size)

module _ (c : Call) (wp sp wl sl : List ℕ) (d : Desk) (lens : lengths_ok (lent wp sp wl sl) ≡ true) where
  abbrev l : Lent
  l = lent wp sp wl sl

  passed_by : call c l d ≡ call_by true c l d
  unfolding call
  passed_by = ap (λ (b : Bool). call_by b c l d) lens

  -- By the outcome: what the working areas become, and which stores there are.
  pub by_outcome : (o : Outcome) (budget : ℕ) (r : Reply) (wp' sp' wl' sl' : List ℕ) → outcome c (read_areas l) d ≡ o → r.answer ≡ o.answer → r.desk ≡ o.desk
      → work_bytes o.work.pages o.work.lefts ≡ wp' → log_bytes o.work.log ≡ wl'
      → (store_all_bytes (take budget o.stores) l).stable_pages ≡ sp' → (store_all_bytes (take budget o.stores) l).stable_log ≡ sl'
      → Replies c l d budget r (lent wp' sp' wl' sl')
  unfolding call_by lent_after
  by_outcome o budget r wp' sp' wl' sl' e a k p g sp_is sl_is =
      let f : call c l d ≡ record { answer = o.answer; work_pages = work_bytes o.work.pages o.work.lefts; work_log = log_bytes o.work.log; desk = o.desk; stores = o.stores } =
      passed_by ∙ ap (λ (x : Outcome). record { answer = x.answer; work_pages = work_bytes x.work.pages x.work.lefts; work_log = log_bytes x.work.log; desk = x.desk; stores = x.stores }) e in
      record {
        answer = a ∙ ap (λ (x : Result). x.answer) (sym f);
        desk = k ∙ ap (λ (x : Result). x.desk) (sym f);
        areas = sym (ap (λ (x : Result). lent_after budget x l) f ∙ rw (p, g, sp_is, sl_is));
      }

  nothing : (b : ℕ) (ts : List Store) → ts ≡ [] → store_all_bytes (take b ts) l ≡ l
  unfolding store_all_bytes
  nothing zero ts e = refl
  nothing (suc b) ts e = ap (λ (x : List Store). store_all_bytes (take (suc b) x) l) e

  -- A call that changes no area, and leaves such a desk.
  pub left_with : (d' : Desk) (answer : Answer) (budget : ℕ) (r : Reply) → outcome c (read_areas l) d ≡ unchanged answer (read_areas l) d' → r.answer ≡ answer → r.desk ≡ d' → Replies c l d budget r l
  unfolding read_areas
  left_with d' answer budget r e a k =
      let z : Sized wp sp wl sl = lengths_numbers wp sp wl sl lens in
      let s : store_all_bytes (take budget []) l ≡ l = nothing budget [] refl in
      by_outcome (unchanged answer (read_areas l) d') budget r wp sp wl sl e a k (work_lossless (length wp / page_size) wp z.0) (log_lossless (length wl / slot_size) wl z.4) (ap (λ (x : Lent). x.stable_pages) s) (ap (λ (x : Lent). x.stable_log) s)

  -- A call that changes nothing: a refusal, or an answer.
  pub left_alone : (answer : Answer) (budget : ℕ) (r : Reply) → outcome c (read_areas l) d ≡ unchanged answer (read_areas l) d → r.answer ≡ answer → r.desk ≡ d → Replies c l d budget r l
  left_alone = left_with d

  -- A call that leaves a run, and stores nothing.
  pub left_run : {n m : ℕ} {wp' wl' : List ℕ} (answer : Answer) (budget : ℕ) (s : Run) (r : Reply) → work_slots (read_areas l) ≡ m → outcome c (read_areas l) d ≡ kept_run answer (read_areas l) s d → Leaves n m wp' wl' s
      → r.answer ≡ answer → r.desk ≡ desk_of s.log d.stored → Replies c l d budget r (lent wp' sp wl' sl)
  unfolding kept_run
  left_run {n} {m} {wp'} {wl'} answer budget s r f e h a k =
      let q : store_all_bytes (take budget []) l ≡ l = nothing budget [] refl in
      by_outcome (kept_run answer (read_areas l) s d) budget r wp' sp wl' sl e a k (run_pages (work_slots (read_areas l)) h) (run_log f h) (ap (λ (x : Lent). x.stable_pages) q) (ap (λ (x : Lent). x.stable_log) q)

  -- The same, where the program worked out the left links of the pages that the run left: these keep the rules of the tree.
  run_tree : (answer : Answer) (s : Run) → of_32_bits c ≡ true → passed answer ≡ true → outcome c (read_areas l) d ≡ kept_run answer (read_areas l) s d → tree_ok s.pages ≡ true
  unfolding kept_run run_side
  run_tree answer s k p e =
      let q : passed (outcome c (read_areas l) d).answer ≡ true = ap (λ (o : Outcome). passed o.answer) e ∙ p in
      subst (λ xs. tree_ok xs ≡ true) (ap (λ (o : Outcome). pages_of o.work.pages) e ∙ pages_back s.pages) (sound_parts (areas_after c (read_areas l) d) _ (calls_leave_sound l lens c d k q)).tree

  pub left_linked : {n m : ℕ} {wp₁ wp' wl' : List ℕ} {t : run.Run} (answer : Answer) (budget : ℕ) (s : Run) (r : Reply) → of_32_bits c ≡ true → passed answer ≡ true → work_slots (read_areas l) ≡ m
      → outcome c (read_areas l) d ≡ kept_run answer (read_areas l) s d → Shows n m wp₁ wl' t s → Links n wp₁ wp' → r.answer ≡ answer → r.desk ≡ desk_of s.log d.stored → Replies c l d budget r (lent wp' sp wl' sl)
  left_linked answer budget s r k p f e h g a = left_run answer budget s r f e (leaves_linked h (λ q. g s.pages s.lefts q (run_tree answer s k p e))) a

  -- A call that leaves a run, and stores its unstored records and then more.
  pub left_stored : {n m : ℕ} {wp' wl' : List ℕ} (answer : Answer) (budget : ℕ) (s : Run) (more : List Store) (r : Reply) (sp' sl' : List ℕ)
      → work_slots (read_areas l) ≡ m → outcome c (read_areas l) d ≡ stored_run answer (read_areas l) s d more → Leaves n m wp' wl' s → r.answer ≡ answer → r.desk ≡ desk_of s.log (last_number s.log)
      → (store_all_bytes (take budget (log_stores d.stored s.log ++ more)) l).stable_pages ≡ sp'
      → (store_all_bytes (take budget (log_stores d.stored s.log ++ more)) l).stable_log ≡ sl' → Replies c l d budget r (lent wp' sp' wl' sl')
  unfolding stored_run
  left_stored {n} {m} {wp'} {wl'} answer budget s more r sp' sl' f e h a k p q =
      by_outcome (stored_run answer (read_areas l) s d more) budget r wp' sp' wl' sl' e a k (run_pages (work_slots (read_areas l)) h) (run_log f h) p q
