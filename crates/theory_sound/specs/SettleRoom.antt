-- THE RESERVES MAKE A RESTART FINISH: settling p updates of b batches writes at most 32p + 2b records and takes at most 7p pages.
use Prim.Native.Nat.{ℕ, zero, suc, ◌+◌, ◌-◌, ◌*◌, ◌≤◌, ◌<◌}
use Rattle.std.specs.Prelude.{◌≡◌, refl, ◌≢◌, Bool, true, false, List, [], ◌∷◌, ◌++◌}
use Rattle.std.proofs.Common.{sym, ap, ◌∙◌, arith}
use Rattle.std.proofs.Math.Path.{subst}
use Rattle.std.proofs.Math.ListN.{length}
use Rattle.def_layout.specs.declared.Entry.{Entry}
use Rattle.def_layout.specs.Pages.{map_bits}
use Rattle.def_model.specs.TreeRules.{used_pages}
use Rattle.def_model.specs.Update.{Run}
use Rattle.def_model.specs.Batches.{Line, Batch, rest_of, open_batches, find_batch, change_batch, pending_count, next_undo}
use Rattle.def_model.specs.Undo.{mark_by, mark_all, end_by, end_idle, with_lines, without_newest, end_batch, undo_line, after_line, undo_newest, undo_step, undo_all}
use Rattle.def_model.specs.Sound.{reserve}
use Rattle.def_model.specs.Restart.{settle}
use Rattle.theory_ledger.specs.Held.{Distinct}
use Rattle.theory_history.specs.Core.{Core}
use Rattle.theory_history.specs.Trail.{trail_core}
use Rattle.theory_history.specs.Marking.{find_mid, change_mid, distinct_mid, open_fresh, busy_one, busy_count}
use Rattle.theory_history.specs.Settling.{Positive, picked_line, Carried, carried_at, left_after, all_marked, idle_ended, marked_count, begun}
use Rattle.theory_reserve.specs.LineRoom.{Spent, spent_none, spent_then, spent_more, mark_pages, end_pages, note_spent, LineLaw, line_law}

-- ---- marks and ends: a record for each batch at most

mark_spent : (m : Bool) (b : Batch) (s : Run) → s.stop ≡ 0 → 0 < s.room → Spent 1 0 s (mark_by m b s)
unfolding mark_by
mark_spent true b s z h = spent_more 0 0 1 0 s s (omega arith) (omega arith) (spent_none s z)
mark_spent false b s z h = note_spent _ s z h (mark_pages s.due b.number b.last s.pages)

marks_spent : (bs : List Batch) (s : Run) → s.stop ≡ 0 → length bs ≤ s.room → Spent (length bs) 0 s (mark_all bs s)
unfolding mark_all
marks_spent [] s z h = spent_none s z
marks_spent (b ∷ bs) s z h =
    let t = mark_by b.marked b s in
    let x = mark_spent b.marked b s z (omega arith) in
    let d = x.room in
    spent_more (1 + length bs) 0 (suc (length bs)) 0 s _ (omega arith) (omega arith) (spent_then 1 0 (length bs) 0 s t _ x (marks_spent bs t x.goes (omega arith)))

-- An 8 is for a batch with nothing pending.
end_spent : (ls : List Line) (b : Batch) (s : Run) → s.stop ≡ 0 → 1 - busy_one ls ≤ s.room → Spent (1 - busy_one ls) 0 s (end_by ls b s)
unfolding end_by busy_one
end_spent [] b s z h = note_spent _ s z (omega arith) (end_pages s.due b.number b.last s.pages)
end_spent (l ∷ ls) b s z h = spent_none s z

busy_one_few : (ls : List Line) → busy_one ls ≤ 1
unfolding busy_one
busy_one_few [] = omega arith
busy_one_few (l ∷ ls) = omega arith

busy_few : (bs : List Batch) → busy_count bs ≤ length bs
unfolding busy_count
busy_few [] = omega arith
busy_few (b ∷ bs) = let h = busy_one_few b.lines in let k = busy_few bs in omega arith

ends_spent : (bs : List Batch) (s : Run) → s.stop ≡ 0 → length bs - busy_count bs ≤ s.room → Spent (length bs - busy_count bs) 0 s (end_idle bs s)
unfolding end_idle busy_count
ends_spent [] s z h = spent_none s z
ends_spent (b ∷ bs) s z h =
    let t = end_by b.lines b s in
    let o = busy_one_few b.lines in
    let f = busy_few bs in
    let x = end_spent b.lines b s z (omega arith) in
    let d = x.room in
    let y = ends_spent bs t x.goes (omega arith) in
    spent_more ((1 - busy_one b.lines) + (length bs - busy_count bs)) 0 _ 0 s _ (omega arith) (omega arith) (spent_then (1 - busy_one b.lines) 0 (length bs - busy_count bs) 0 s t _ x y)

-- ---- undo

-- An 8 right after a batch's last line.
after_spent : (ls : List Line) (number : ℕ) (s : Run) → s.stop ≡ 0 → 1 - busy_one ls ≤ s.room → Spent (1 - busy_one ls) 0 s (after_line ls number s)
unfolding after_line end_batch busy_one
after_spent [] number s z h = note_spent _ s z (omega arith) (end_pages s.due number (s.due - 1) s.pages)
after_spent (l ∷ ls) number s z h = spent_none s z

busy_append : (xs ys : List Batch) → busy_count (xs ++ ys) ≡ busy_count xs + busy_count ys
unfolding busy_count
busy_append [] ys = omega arith
busy_append (x ∷ xs) ys = let i = busy_append xs ys in omega arith

busy_first : (l : Line) (ls : List Line) → busy_one (l ∷ ls) ≡ 1
unfolding busy_one
busy_first l ls = refl

-- A batch whose last line is undone has nothing pending.
busy_after : (cs xs : List Batch) (b : Batch) (ys : List Batch) (l : Line) (ls : List Line) → cs ≡ xs ++ b ∷ ys → b.lines ≡ l ∷ ls → Distinct cs → busy_count cs ≡ busy_count (without_newest b cs) + (1 - busy_one ls)
unfolding without_newest with_lines rest_of busy_count
busy_after cs xs b ys l ls o w d =
    let g = with_lines (rest_of b.lines) in
    let e : change_batch b.number g cs ≡ xs ++ g b ∷ ys = ap (change_batch b.number g) o ∙ change_mid g xs b ys (distinct_mid xs b ys (subst Distinct o d)) in
    let p = ap busy_count o ∙ busy_append xs (b ∷ ys) in
    let q = ap busy_count e ∙ busy_append xs (g b ∷ ys) in
    let h : busy_one b.lines ≡ 1 = ap busy_one w ∙ busy_first l ls in
    let k : busy_one (rest_of b.lines) ≡ busy_one ls = ap (λ x. busy_one (rest_of x)) w in
    let m = busy_one_few ls in
    omega arith

module _ (n : ℕ) (most : n ≤ map_bits) where
  -- The law of the line that is undone.
  pub newest_law : (cs : List Batch) (s : Run) (sl : List Entry) (xs : List Batch) (b : Batch) (ys : List Batch) (l : Line) (ls : List Line) → cs ≡ xs ++ b ∷ ys → b.lines ≡ l ∷ ls → Core n s sl → Carried cs (open_batches s.log)
      → LineLaw s (undo_line b.number (next_undo ls) l s)
  newest_law cs s sl xs b ys l ls o w c r =
      let some_line : b.lines ≢ [] = λ q. let y : ◌≡◌ {A = ℕ} 0 1 = let u : l ∷ ls ≡ [] = sym w ∙ q in cc in omega arith in
      let x = carried_at xs b ys some_line (subst (λ v. Carried v (open_batches s.log)) o r) in
      let f = ap (find_batch x.batch.number) x.whole ∙ find_mid x.before x.batch x.later (open_fresh s x.before x.batch x.later x.whole) in
      subst (λ m. LineLaw s (undo_line m (next_undo ls) l s)) (sym x.number) (line_law n most s sl x.batch.number x.batch l ls c f (sym x.lines ∙ w))

  newest_spent : (ls : List Line) (l : Line) (number : ℕ) (s : Run) → LineLaw s (undo_line number (next_undo ls) l s) → 32 + (1 - busy_one ls) ≤ s.room → used_pages s.pages + 7 ≤ length s.pages
      → Spent (32 + (1 - busy_one ls)) (7 + 0) s (undo_newest (l ∷ ls) number s)
  unfolding undo_newest
  newest_spent ls l number s k h₁ h₂ =
      let t = undo_line number (next_undo ls) l s in
      let x = k.spends (omega arith) h₂ in
      let d = x.room in
      spent_then 32 7 (1 - busy_one ls) 0 s t _ x (after_spent ls number t x.goes (omega arith))

  -- All lines, newest first over the batches.
  undo_spent : (f : ℕ) (cs : List Batch) (s : Run) (sl : List Entry) → f ≡ pending_count cs → Distinct cs → Positive cs → Core n s sl → Carried cs (open_batches s.log)
      → 32 * f + busy_count cs ≤ s.room → used_pages s.pages + 7 * f ≤ length s.pages → Spent (32 * f + busy_count cs) (7 * f) s (undo_all f cs s)
  unfolding undo_all undo_step
  undo_spent zero cs s sl e d g c r h₁ h₂ = spent_more 0 0 _ 0 s s (omega arith) (omega arith) (spent_none s c.goes)
  undo_spent (suc f) cs s sl e d g c r h₁ h₂ =
      let (p, l, ls, w) = picked_line cs g (omega arith) in
      let b = p.batch in
      let rest = without_newest b cs in
      let t = undo_newest b.lines b.number s in
      let i = busy_after cs p.before b p.later l ls p.whole w d in
      let k = newest_law cs s sl p.before b p.later l ls p.whole w c r in
      let x : Spent (32 + (1 - busy_one ls)) (7 + 0) s t = subst (λ z. Spent (32 + (1 - busy_one ls)) (7 + 0) s (undo_newest z b.number s)) (sym w) (newest_spent ls l b.number s k (omega arith) (omega arith)) in
      let a = left_after n most f cs s sl p.before b p.later l ls p.whole w e d g c r x.goes in
      let q = x.room in
      let v = x.used in
      let j = x.size in
      let y = undo_spent f rest t sl a.due a.distinct a.positive (trail_core most a.trail c) a.carried (omega arith) (omega arith) in
      subst (λ o. Spent (32 * suc f + busy_count cs) (7 * suc f) s (undo_all f (undo_step o cs s).batches (undo_step o cs s).run)) (sym p.is)
      (spent_more _ _ (32 * suc f + busy_count cs) (7 * suc f) s (undo_all f rest t) (omega arith) (omega arith)
      (spent_then (32 + (1 - busy_one ls)) (7 + 0) (32 * f + busy_count rest) (7 * f) s t (undo_all f rest t) x y))

  -- ALL THAT A RESTART SETTLES.
  pub settle_spent : (s : Run) (sl : List Entry) → Core n s sl → reserve (pending_count (open_batches s.log)) (length (open_batches s.log)) ≤ s.room → used_pages s.pages + 7 * pending_count (open_batches s.log) ≤ length s.pages
      → Spent (reserve (pending_count (open_batches s.log)) (length (open_batches s.log))) (7 * pending_count (open_batches s.log)) s (settle s)
  unfolding settle reserve
  settle_spent s sl c h₁ h₂ =
      let bs = open_batches s.log in
      let f = pending_count bs in
      let t = all_marked s in
      let ts = open_batches t.log in
      let u = idle_ended s in
      let us = open_batches u.log in
      let x = marks_spent bs s c.goes (omega arith) in
      let d₁ = x.room in
      let a₁ = busy_few ts in
      let k₁ = marked_count n most s sl c x.goes in
      let y = ends_spent ts t x.goes (omega arith) in
      let d₂ = y.room in
      let v₁ = x.used in
      let v₂ = y.used in
      let j₁ = x.size in
      let j₂ = y.size in
      let b = begun n most s sl c y.goes in
      let l = b.left in
      let k₂ = b.busy in
      let a₂ = busy_few us in
      let z = undo_spent f us u sl l.due l.distinct l.positive (trail_core most l.trail c) l.carried (omega arith) (omega arith) in
      spent_more _ _ (32 * f + 2 * length bs) (7 * f) s (undo_all f us u) (omega arith) (omega arith)
      (spent_then (length bs) 0 _ _ s t (undo_all f us u) x (spent_then (length ts - busy_count ts) 0 (32 * f + busy_count us) (7 * f) t u (undo_all f us u) y z))
