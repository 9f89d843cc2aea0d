-- THE RESERVES MAKE ABORT AND RETURN FIND ROOM: undoing p updates writes at most 32p records and takes at most 7p pages; an abort writes two more.
use Rattle.std.specs.Prelude.{ℕ, suc, ◌+◌, ◌-◌, ◌*◌, ◌≤◌, ◌<◌, ◌≡◌, Bool, true, false, ltb}
use Rattle.std.proofs.Math.Path.{refl, ap, subst}
use Rattle.std.proofs.Common.{sym, ◌∙◌}
use Rattle.std.proofs.Math.Option.{some}
use mathlib.Core.List.{List, [], ◌∷◌}
use native.Mathlib.Omega.{arith}
use Rattle.std.proofs.Math.ListN.{length}
use Rattle.def_base.specs.Tests.{pick}
use Rattle.def_layout.specs.declared.Entry.{Entry}
use Rattle.def_layout.specs.Pages.{map_bits}
use Rattle.def_layout.specs.Records.{abort_mark, end, batch_row}
use Rattle.def_model.specs.TreeRules.{used_pages}
use Rattle.def_model.specs.Update.{Run, emit}
use Rattle.def_model.specs.Batches.{Line, Batch, undone, mark_set, rest_of, tell, open_batches, find_batch, change_batch, next_undo}
use Rattle.def_model.specs.Undo.{undo_line, undo_above, return_run, end_batch, abort_run}
use Rattle.theory_ledger.specs.Batching.{find_change}
use Rattle.theory_ledger.specs.Marks.{above, above_kept}
use Rattle.theory_history.specs.Core.{Core, told_due}
use Rattle.theory_history.specs.Notes.{mark_next}
use Rattle.theory_history.specs.Trail.{trail_core, trail_emit}
use Rattle.theory_history.specs.Undoing.{line_undone}
use Rattle.theory_reserve.specs.LineRoom.{emit_room, Spent, spent_none, spent_more, spent_then, mark_pages, end_pages, note_spent, line_law}

module _ (n : ℕ) (most : n ≤ map_bits) where
  -- A RETURN, by how many lines are above the mark.
  pub above_spent : (mark : ℕ) (ls : List Line) (s : Run) (sl : List Entry) (number : ℕ) (b : Batch) → Core n s sl → find_batch number (open_batches s.log) ≡ some b → b.lines ≡ ls
      → 32 * above mark ls ≤ s.room → used_pages s.pages + 7 * above mark ls ≤ length s.pages → Spent (32 * above mark ls) (7 * above mark ls) s (undo_above mark number ls s)
  unfolding undo_above above undone rest_of
  above_spent mark [] s sl number b c e w h₁ h₂ = spent_none s c.goes
  above_spent mark (l ∷ ls) s sl number b c e w h₁ h₂ = go (ltb mark l.number) h₁ h₂ (λ x d f v k₁ k₂. above_spent mark ls (undo_line number (next_undo ls) l s) sl number x d f v k₁ k₂)
    where
      t : Run
      t = undo_line number (next_undo ls) l s

      More : Type 0
      More = (x : Batch) → Core n t sl → find_batch number (open_batches t.log) ≡ some x → x.lines ≡ ls → 32 * above mark ls ≤ t.room → used_pages t.pages + 7 * above mark ls ≤ length t.pages
          → Spent (32 * above mark ls) (7 * above mark ls) t (undo_above mark number ls t)

      go : (z : Bool) → 32 * pick z (suc (above mark ls)) 0 ≤ s.room → used_pages s.pages + 7 * pick z (suc (above mark ls)) 0 ≤ length s.pages
          → More → Spent (32 * pick z (suc (above mark ls)) 0) (7 * pick z (suc (above mark ls)) 0) s (pick z (undo_above mark number ls t) s)
      go false h₁ h₂ more = spent_none s c.goes
      go true h₁ h₂ more =
          let x = (line_law n most s sl number b l ls c e w).spends (omega arith) (omega arith) in
          let u = line_undone n most s sl number b l ls c e w x.goes in
          let ct = trail_core most u.trail c in
          let f : find_batch number (open_batches t.log) ≡ some (undone u.number b) = ap (find_batch number) u.opens ∙ find_change number (undone u.number) (open_batches s.log) b e refl in
          let d = x.room in
          let v = x.used in
          let j = x.size in
          let y = more (undone u.number b) ct f (ap rest_of w) (omega arith) (omega arith) in
          let a : 32 + 32 * above mark ls ≡ 32 * suc (above mark ls) = omega arith in
          let g : 7 + 7 * above mark ls ≡ 7 * suc (above mark ls) = omega arith in
          subst (λ z. Spent z (7 * suc (above mark ls)) s (undo_above mark number ls t)) a (subst (λ z. Spent (32 + 32 * above mark ls) z s (undo_above mark number ls t)) g (spent_then 32 7 (32 * above mark ls) (7 * above mark ls) s t (undo_above mark number ls t) x y))

  -- A WHOLE ABORT.
  pub abort_spent : (s : Run) (sl : List Entry) (number : ℕ) (b : Batch) → Core n s sl → find_batch number (open_batches s.log) ≡ some b → b.number ≡ number → b.marked ≡ false
      → 32 * length b.lines + 2 ≤ s.room → used_pages s.pages + 7 * length b.lines ≤ length s.pages → Spent (2 + 32 * length b.lines) (7 * length b.lines) s (abort_run b s)
  unfolding abort_run return_run end_batch mark_set tell
  abort_spent s sl number b c e k u h₁ h₂ =
      let r = batch_row abort_mark b.number b.last in
      let s₁ = emit r s in
      let e' : find_batch b.number (open_batches s.log) ≡ some b = subst (λ m. find_batch m (open_batches s.log) ≡ some b) (sym k) e in
      let room : 0 < s.room = omega arith in
      let x₁ = note_spent r s c.goes room (mark_pages s.due b.number b.last s.pages) in
      let t₁ = trail_emit r s sl (mark_next n s sl c b.number b e' u) x₁.goes in
      let c₁ = trail_core most t₁ c in
      let is = emit_room r s c.goes room in
      let o₁ : open_batches s₁.log ≡ change_batch b.number (mark_set s.due) (open_batches s.log) = ap (λ t. open_batches t.log) is ∙ told_due n s sl r c in
      let f₁ = ap (find_batch b.number) o₁ ∙ find_change b.number (mark_set s.due) (open_batches s.log) b e' refl in
      let d₁ = x₁.room in
      let u₁ = x₁.used in
      let j₁ = x₁.size in
      let s₂ = undo_above 0 b.number b.lines s₁ in
      let few = above_kept 0 b.lines in
      let x₂ = spent_more (32 * above 0 b.lines) (7 * above 0 b.lines) (32 * length b.lines) (7 * length b.lines) s₁ s₂ (omega arith) (omega arith) (above_spent 0 b.lines s₁ sl b.number (mark_set s.due b) c₁ f₁ refl (omega arith) (omega arith)) in
      let d₂ = x₂.room in
      let x₃ = note_spent (batch_row end b.number (s₂.due - 1)) s₂ x₂.goes (omega arith) (end_pages s₂.due b.number (s₂.due - 1) s₂.pages) in
      let y = spent_then 1 0 (32 * length b.lines + 1) (7 * length b.lines + 0) s s₁ _ x₁ (spent_then (32 * length b.lines) (7 * length b.lines) 1 0 s₁ s₂ _ x₂ x₃) in
      let a : 1 + (32 * length b.lines + 1) ≡ 2 + 32 * length b.lines = omega arith in
      let g : 0 + (7 * length b.lines + 0) ≡ 7 * length b.lines = omega arith in
      subst (λ z. Spent z (7 * length b.lines) s (abort_run b s)) a (subst (λ z. Spent (1 + (32 * length b.lines + 1)) z s (abort_run b s)) g y)
