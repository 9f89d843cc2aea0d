-- THE LAWS OF AN UPDATE, from the test of the tree rules to the test: what calls and restart use.
use Rattle.std.specs.Prelude.{ℕ, ◌+◌, ◌≤◌, ◌<◌, ◌≡◌, refl, true, List, ◌++◌, length}
use Rattle.std.proofs.Common.{sym, ap, ◌∙◌, subst, arith}
use Rattle.std.proofs.Math.Option.{none, some}
use Rattle.def_base.specs.Tests.{lt_true}
use Rattle.def_layout.specs.declared.Entry.{Entry}
use Rattle.def_layout.specs.Entries.{top, look, insert_sorted, remove_key}
use Rattle.def_layout.specs.Pages.{map_bits}
use Rattle.def_layout.specs.Records.{Kind, Rec, batch_row}
use Rattle.def_model.specs.Redo.{replay}
use Rattle.def_model.specs.TreeRules.{levels_of, leaves, leaf_records, counted, used_pages, tree_ok}
use Rattle.def_model.specs.Update.{Run, emit, put_record, remove_record}
use Rattle.def_model.specs.Sound.{update_slots, update_pages}
use Rattle.theory_redo.specs.Area.{length_redo_record}
use Rattle.theory_tree.specs.Test.Test.{test_sound, test_complete, rules_levels}
use Rattle.theory_tree.specs.Step.Steps.{Adding, Removing, Noting, Step, notes}
use Rattle.theory_tree.specs.Step.Parts.{Lows}
use Rattle.theory_update.specs.Run.Way.{written_by, Live, stay, more, live_more, emit_goes}
use Rattle.theory_update.specs.Run.Keeps.{Stuck, Halt}
use Rattle.theory_update.specs.Updates.{put_went, remove_went, Finished, enough, unstopped, stopped_short}
use Rattle.theory_update.specs.Run.Lawful.{Lawful, way_written, prefix_rules}

-- A run at the start of an update, and again at its end: the pages pass the test, their numbers are below the number due.
pub record Ready (s : Run) : Type 0 where
  pub test : tree_ok s.pages ≡ true
  pub lows : Lows s.due s.pages
  pub goes : s.stop ≡ 0
  pub few : length s.pages ≤ map_bits

-- From run s to run t: t is ready again, its leaves hold L, and what was written between is a lawful log, within an update's bounds, after
-- every first part of which the pages pass the test.
pub record Kept (s t : Run) (L : List Entry) : Type 0 where
  pub ready : Ready t
  pub holds : leaf_records t.pages ≡ L
  pub recs : List Rec
  pub written : t.log ≡ s.log ++ recs
  pub pages : t.pages ≡ replay s.due recs s.pages
  pub due : t.due ≡ s.due + length recs
  pub room : t.room + length recs ≡ s.room
  pub size : length t.pages ≡ length s.pages
  pub few_records : length recs ≤ update_slots
  pub few_pages : used_pages t.pages ≤ used_pages s.pages + update_pages
  pub lawful : Lawful s.due s.pages (levels_of s.pages) recs (levels_of t.pages)
  pub always : (a b : List Rec) → recs ≡ a ++ b → tree_ok (replay s.due a s.pages) ≡ true

-- ---- from the test to the rules and back

pub ready_live : (s : Run) → Ready s → Live s (levels_of s.pages)
ready_live s r = record { rules = test_sound s.pages r.test; lows = r.lows; goes = r.goes; few = r.few }

-- The pages used are the map and those reached.
pub used_counted : (s : Run) → Ready s → used_pages s.pages ≡ counted (levels_of s.pages)
used_counted s r = sym (test_sound s.pages r.test).mapped.count

finished_kept : (s : Run) (a b : ℕ) (t : Run) (L : List Entry) → a ≤ update_slots → b ≤ update_pages → Ready s
    → Finished s (levels_of s.pages) a b t L → Kept s t L
unfolding leaf_records
finished_kept s a b t L ha hb r f =
    let x = way_written f.way in
    let v = ready_live s r in
    let k = f.live.rules in
    let e = rules_levels t.pages f.after k in
    let z = f.size in
    let y = r.few in
    let d = x.due in
    let n = f.records in
    let m = f.taken in
    let q = f.room in
    let u₁ = used_counted s r in
    let u₂ = k.mapped.count in
    record {
      ready = record { test = test_complete t.pages f.after k; lows = f.live.lows; goes = f.live.goes; few = omega arith };
      holds = ap leaves e ∙ f.holds;
      recs = x.recs;
      written = x.written;
      pages = x.pages;
      due = d;
      room = omega arith;
      size = f.size;
      few_records = omega arith;
      few_pages = omega arith;
      lawful = subst (Lawful s.due s.pages (levels_of s.pages) x.recs) (sym e) x.lawful;
      always = λ a b w.
          let (ls, j, p, q) = prefix_rules a b (subst (λ c. Lawful s.due s.pages (levels_of s.pages) c f.after) w x.lawful) r.few v.rules v.lows in
          test_complete (replay s.due a s.pages) ls j;
    }

-- ---- WITH ROOM FOR 32 RECORDS AND 7 FREE PAGES an update does all of it

pub put_law : (kind : Kind) (batch previous k v : ℕ) (s : Run) → Ready s → k ≤ top → Adding kind → look k (leaf_records s.pages) ≡ none
    → update_slots ≤ s.room → used_pages s.pages + update_pages ≤ length s.pages
    → Kept s (put_record kind batch previous k v s) (insert_sorted k v (leaf_records s.pages))
unfolding leaf_records
put_law kind batch previous k v s r kt a ab h₁ h₂ =
    let ls = levels_of s.pages in
    let u = used_counted s r in
    finished_kept s 13 7 _ _ (omega arith) (omega arith) r (enough s ls 13 7 _ _ (put_went kind batch previous k v s ls (ready_live s r) kt a ab) (omega arith) (omega arith))

pub remove_law : (kind : Kind) (batch previous k v u : ℕ) (s : Run) → Ready s → k ≤ top → Removing kind v u
    → look k (leaf_records s.pages) ≡ some u
    → update_slots ≤ s.room → used_pages s.pages + update_pages ≤ length s.pages
    → Kept s (remove_record kind batch previous k v s) (remove_key k (leaf_records s.pages))
unfolding leaf_records
remove_law kind batch previous k v u s r kt a th h₁ h₂ =
    let ls = levels_of s.pages in
    let us = used_counted s r in
    finished_kept s 32 6 _ _ (omega arith) (omega arith) r (enough s ls 32 6 _ _ (remove_went kind batch previous k v u s ls (ready_live s r) kt a th) (omega arith) (omega arith))

-- ---- WHATEVER THE ROOM (restart has no reserve): where it did not stop, it did all of it

pub put_unstopped : (kind : Kind) (batch previous k v : ℕ) (s : Run) → Ready s → k ≤ top → Adding kind → look k (leaf_records s.pages) ≡ none
    → (put_record kind batch previous k v s).stop ≡ 0 → Kept s (put_record kind batch previous k v s) (insert_sorted k v (leaf_records s.pages))
unfolding leaf_records
put_unstopped kind batch previous k v s r kt a ab z =
    let ls = levels_of s.pages in
    finished_kept s 13 7 _ _ (omega arith) (omega arith) r (unstopped s ls 13 7 _ _ (put_went kind batch previous k v s ls (ready_live s r) kt a ab) z)

pub remove_unstopped : (kind : Kind) (batch previous k v u : ℕ) (s : Run) → Ready s → k ≤ top → Removing kind v u
    → look k (leaf_records s.pages) ≡ some u
    → (remove_record kind batch previous k v s).stop ≡ 0 → Kept s (remove_record kind batch previous k v s) (remove_key k (leaf_records s.pages))
unfolding leaf_records
remove_unstopped kind batch previous k v u s r kt a th z =
    let ls = levels_of s.pages in
    finished_kept s 32 6 _ _ (omega arith) (omega arith) r (unstopped s ls 32 6 _ _ (remove_went kind batch previous k v u s ls (ready_live s r) kt a th) z)

-- Where it stopped for want of a page, none was free.

pub put_stopped : (kind : Kind) (batch previous k v : ℕ) (s : Run) → Ready s → k ≤ top → Adding kind → look k (leaf_records s.pages) ≡ none
    → Stuck (put_record kind batch previous k v s) → Halt (put_record kind batch previous k v s)
unfolding leaf_records
put_stopped kind batch previous k v s r kt a ab z = stopped_short s (levels_of s.pages) 13 7 _ _ (put_went kind batch previous k v s _ (ready_live s r) kt a ab) z

pub remove_stopped : (kind : Kind) (batch previous k v u : ℕ) (s : Run) → Ready s → k ≤ top → Removing kind v u → look k (leaf_records s.pages) ≡ some u
    → Stuck (remove_record kind batch previous k v s) → Halt (remove_record kind batch previous k v s)
unfolding leaf_records
remove_stopped kind batch previous k v u s r kt a th z = stopped_short s (levels_of s.pages) 32 6 _ _ (remove_went kind batch previous k v u s _ (ready_live s r) kt a th) z

-- ---- a record that changes no page (a begin, a commit, an abort mark, an end)

pub note_law : (kind : Kind) (batch previous : ℕ) (s : Run) → Ready s → Noting kind → 0 < s.room
    → Kept s (emit (batch_row kind batch previous) s) (leaf_records s.pages)
unfolding leaf_records
note_law kind batch previous s r q h =
    let ls = levels_of s.pages in
    let row = batch_row kind batch previous in
    let w = emit_goes row s r.goes (lt_true 0 s.room h) in
    let st : Step s.pages ls row ls = notes kind batch previous q in
    let v = ready_live s r in
    subst (λ t. Kept s t (leaves ls)) (sym w)
    (finished_kept s 1 0 (written_by row s) (leaves ls) (omega arith) (omega arith) r
    (record { after = ls; way = more stay st; live = live_more row s ls ls v st; holds = refl; records = omega arith; taken = omega arith; room = omega arith; size = length_redo_record s.due row s.pages }))
