-- WHAT AN UNDO SPENDS: undoing one update writes at most 32 records and takes at most 7 pages; where it stops for want of a page, none is free.
use Rattle.std.specs.Prelude.{ℕ, ◌+◌, ◌≤◌, ◌<◌, ◌≡◌, refl, Bool, List, ◌∷◌, length}
use Rattle.std.proofs.Common.{sym, ap, ◌∙◌, subst, arith}
use Rattle.std.proofs.Math.Bool.{true, false}
use Rattle.std.proofs.Math.Option.{Option, some}
use Rattle.def_base.specs.Tests.{lt_true}
use Rattle.def_layout.specs.declared.Entry.{Entry}
use Rattle.def_layout.specs.Entries.{top, look}
use Rattle.def_layout.specs.Pages.{Page, map_bits}
use Rattle.def_layout.specs.Records.{Rec, undo_insert, undo_delete, abort_mark, end, commit, begin, batch_row}
use Rattle.def_model.specs.Redo.{redo_record, places, when_named, redo_places}
use Rattle.def_model.specs.TreeRules.{leaf_records, used_pages}
use Rattle.def_model.specs.Update.{Run, emit}
use Rattle.def_model.specs.Batches.{Line, Batch, open_batches, find_batch, next_undo}
use Rattle.def_model.specs.Undo.{undo_by, undo_line}
use Rattle.theory_tree.specs.Step.Steps.{by_undo_insert, by_undo_delete}
use Rattle.theory_update.specs.Run.Way.{written_by, emit_goes}
use Rattle.theory_update.specs.Run.Keeps.{Stuck, Halt}
use Rattle.theory_update.specs.Laws.{Kept, put_law, remove_law, put_stopped, remove_stopped}
use Rattle.theory_ledger.specs.Runs.{DoesBy}
use Rattle.theory_ledger.specs.Settles.{newest_does}
use Rattle.theory_ledger.specs.Small.{SmallLines, found_small, small_first}
use Rattle.theory_history.specs.Core.{Core, core_ready}

-- A run that has room logs its next record.
pub emit_room : (r : Rec) (s : Run) → s.stop ≡ 0 → 0 < s.room → emit r s ≡ written_by r s
emit_room r s z l = emit_goes r s z (lt_true 0 s.room l)

-- From run s to run t: it goes on, with at most so many records and pages more.
pub record Spent (records pages : ℕ) (s t : Run) : Type 0 where
  pub goes : t.stop ≡ 0
  pub room : s.room ≤ t.room + records
  pub size : length t.pages ≡ length s.pages
  pub used : used_pages t.pages ≤ used_pages s.pages + pages

kept_spent : (s t : Run) (l : List Entry) → Kept s t l → Spent 32 7 s t
kept_spent s t l k =
    let d = k.room in
    let f = k.few_records in
    record { goes = k.ready.goes; room = omega arith; size = k.size; used = k.few_pages }

pub spent_then : (a b c d : ℕ) (s t u : Run) → Spent a b s t → Spent c d t u → Spent (a + c) (b + d) s u
spent_then a b c d s t u x y =
    let p = x.room in
    let q = y.room in
    let v = x.used in
    let w = y.used in
    record { goes = y.goes; room = omega arith; size = y.size ∙ x.size; used = omega arith }

pub spent_none : (s : Run) → s.stop ≡ 0 → Spent 0 0 s s
spent_none s z = record { goes = z; room = omega arith; size = refl; used = omega arith }

pub spent_more : (a b c d : ℕ) (s t : Run) → a ≤ c → b ≤ d → Spent a b s t → Spent c d s t
spent_more a b c d s t h k x =
    let p = x.room in
    let v = x.used in
    record { goes = x.goes; room = omega arith; size = x.size; used = omega arith }

-- Records of a batch's own change no page.
pub mark_pages : (m n q : ℕ) (pages : List Page) → redo_record m (batch_row abort_mark n q) pages ≡ pages
unfolding redo_record places when_named redo_places
mark_pages m n q pages = refl

pub end_pages : (m n q : ℕ) (pages : List Page) → redo_record m (batch_row end n q) pages ≡ pages
unfolding redo_record places when_named redo_places
end_pages m n q pages = refl

pub commit_pages : (m n q : ℕ) (pages : List Page) → redo_record m (batch_row commit n q) pages ≡ pages
unfolding redo_record places when_named redo_places
commit_pages m n q pages = refl

pub begin_pages : (m n q : ℕ) (pages : List Page) → redo_record m (batch_row begin n q) pages ≡ pages
unfolding redo_record places when_named redo_places
begin_pages m n q pages = refl

pub note_spent : (r : Rec) (s : Run) → s.stop ≡ 0 → 0 < s.room → redo_record s.due r s.pages ≡ s.pages → Spent 1 0 s (emit r s)
note_spent r s z l e =
    let w = emit_room r s z l in
    subst (Spent 1 0 s) (sym w) (record { goes = refl; room = omega arith; size = ap length e; used = let u : used_pages (redo_record s.due r s.pages) ≡ used_pages s.pages = ap used_pages e in omega arith })

-- One line: with room and pages enough it is undone; else it halts.
pub record LineLaw (s t : Run) : Type 0 where
  pub spends : 32 ≤ s.room → used_pages s.pages + 7 ≤ length s.pages → Spent 32 7 s t
  pub halts : Stuck t → Halt t

module _ (n : ℕ) (most : n ≤ map_bits) where
  by_law : (s : Run) (sl : List Entry) (number : ℕ) (l : Line) (ls : List Line) → Core n s sl → l.key ≤ top → (a : Bool) (m : Option ℕ) → DoesBy a l.value m (look l.key (leaf_records s.pages))
      → LineLaw s (undo_by a number (next_undo ls) l s)
  unfolding undo_by DoesBy
  by_law s sl number l ls c kt true m d =
      let r = core_ready n most s sl c in
      record {
        spends = λ h₁ h₂. kept_spent s _ _ (remove_law undo_insert number (next_undo ls) l.key 0 l.value s r kt by_undo_insert d.1 h₁ h₂);
        halts = λ z. remove_stopped undo_insert number (next_undo ls) l.key 0 l.value s r kt by_undo_insert d.1 z;
      }
  by_law s sl number l ls c kt false m d =
      let r = core_ready n most s sl c in
      record {
        spends = λ h₁ h₂. kept_spent s _ _ (put_law undo_delete number (next_undo ls) l.key l.value s r kt by_undo_delete d.1 h₁ h₂);
        halts = λ z. put_stopped undo_delete number (next_undo ls) l.key l.value s r kt by_undo_delete d.1 z;
      }

  pub line_law : (s : Run) (sl : List Entry) (number : ℕ) (b : Batch) (l : Line) (ls : List Line) → Core n s sl → find_batch number (open_batches s.log) ≡ some b → b.lines ≡ l ∷ ls
      → LineLaw s (undo_line number (next_undo ls) l s)
  unfolding undo_line
  line_law s sl number b l ls c e w =
      let kt = small_first l ls (subst SmallLines w (found_small number (open_batches s.log) b c.small e)) in
      let (m, d) = newest_does number l ls sl (leaf_records s.pages) (open_batches s.log) b e w c.settles in
      by_law s sl number l ls c kt l.adds m d
