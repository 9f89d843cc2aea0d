-- A RESTART STOPS WITH 18 ONLY WHERE NO PAGE IS FREE: each undo is of a tree that keeps the rules, by which the map tells what is free.
use Prim.Native.Nat.{ℕ, zero, suc, ◌≤◌}
use Rattle.std.specs.Prelude.{◌≡◌, Bool, true, false, List, [], ◌∷◌}
use Rattle.std.proofs.Common.{sym, arith}
use Rattle.std.proofs.Math.Path.{subst}
use Rattle.std.proofs.Math.Decide.{ℕ_discrete}
use Rattle.def_layout.specs.declared.Entry.{Entry}
use Rattle.def_layout.specs.Pages.{map_bits}
use Rattle.def_layout.specs.Records.{Rec}
use Rattle.def_model.specs.Update.{Run, logged, emit, emit_taking}
use Rattle.def_model.specs.Batches.{Line, Batch, open_batches, pending_count, next_undo}
use Rattle.def_model.specs.Undo.{mark_by, mark_all, end_by, end_idle, without_newest, end_batch, undo_line, after_line, undo_newest, undo_step, undo_all}
use Rattle.def_model.specs.Restart.{settle}
use Rattle.theory_room.specs.Emitting.{emit_cases, taking_cases}
use Rattle.theory_room.specs.CountedUndo.{kept_updates, count_undo_all}
use Rattle.theory_update.specs.Run.Keeps.{Full, Halt, halt_emit}
use Rattle.theory_ledger.specs.Held.{Distinct}
use Rattle.theory_history.specs.Core.{Core}
use Rattle.theory_history.specs.Trail.{trail_core}
use Rattle.theory_history.specs.Settling.{Positive, picked_line, Carried, left_after, all_marked, idle_ended, begun}
use Rattle.theory_reserve.specs.LineRoom.{LineLaw}
use Rattle.theory_sound.specs.SettleRoom.{newest_law}

-- ---- a run that has halted stays so

halt_taking : (f : ℕ → Rec) (near : ℕ) (s : Run) → Halt s → Halt (emit_taking f near s)
halt_taking f near s h = taking_cases Halt f near s (halt_emit _ s h) (λ z d. absurd (h.stuck z))

undo_halt : (f : ℕ) (bs : List Batch) (s : Run) → Halt s → Halt (undo_all f bs s)
undo_halt f bs s h = count_undo_all (λ n t. Halt t) 0 (kept_updates Halt halt_emit halt_taking) f bs 0 s h

-- ---- records that take no page

going_full : (s : Run) → s.stop ≡ 0 → Full s
going_full s z e = absurd (omega arith)

full_emit : (r : Rec) (s : Run) → Full s → Full (emit r s)
unfolding logged
full_emit r s h = emit_cases Full r s (λ z. h) (λ z d e. absurd (omega (arith, e))) (λ z d e. absurd (omega (arith, e)))

mark_full : (m : Bool) (b : Batch) (s : Run) → Full s → Full (mark_by m b s)
unfolding mark_by
mark_full true b s h = h
mark_full false b s h = full_emit _ s h

marks_full : (bs : List Batch) (s : Run) → Full s → Full (mark_all bs s)
unfolding mark_all
marks_full [] s h = h
marks_full (b ∷ bs) s h = marks_full bs (mark_by b.marked b s) (mark_full b.marked b s h)

end_full : (ls : List Line) (b : Batch) (s : Run) → Full s → Full (end_by ls b s)
unfolding end_by
end_full [] b s h = full_emit _ s h
end_full (l ∷ ls) b s h = h

ends_full : (bs : List Batch) (s : Run) → Full s → Full (end_idle bs s)
unfolding end_idle
ends_full [] s h = h
ends_full (b ∷ bs) s h = ends_full bs (end_by b.lines b s) (end_full b.lines b s h)

after_full : (ls : List Line) (number : ℕ) (s : Run) → Full s → Full (after_line ls number s)
unfolding after_line end_batch
after_full [] number s h = full_emit _ s h
after_full (l ∷ ls) number s h = h

-- ---- undo

-- What holds of a run that goes on, and of one that has halted, holds of it.
either : (s : Run) (P : Type 0) → (s.stop ≡ 0 → P) → (Halt s → P) → Full s → P
either s P a b h = go (ℕ_discrete s.stop 0)
  where
    go : Dec (s.stop ≡ 0) → P
    go (yes e) = a e
    go (no e) = b (record { stuck = e; full = h })

newest_full : (ls : List Line) (l : Line) (number : ℕ) (s : Run) → LineLaw s (undo_line number (next_undo ls) l s) → Full (undo_newest (l ∷ ls) number s)
unfolding undo_newest
newest_full ls l number s k = after_full ls number t go
  where
    t : Run
    t = undo_line number (next_undo ls) l s

    go : Full t
    go e = (k.halts (λ z. absurd (omega arith))).full e

module _ (n : ℕ) (most : n ≤ map_bits) where
  undo_full : (f : ℕ) (cs : List Batch) (s : Run) (sl : List Entry) → f ≡ pending_count cs → Distinct cs → Positive cs → Core n s sl → Carried cs (open_batches s.log) → Full (undo_all f cs s)
  unfolding undo_all undo_step
  undo_full zero cs s sl e d g c r = going_full s c.goes
  undo_full (suc f) cs s sl e d g c r =
      let (p, l, ls, w) = picked_line cs g (omega arith) in
      let b = p.batch in
      let rest = without_newest b cs in
      let t = undo_newest b.lines b.number s in
      let k = newest_law n most cs s sl p.before b p.later l ls p.whole w c r in
      let h : Full t = subst (λ z. Full (undo_newest z b.number s)) (sym w) (newest_full ls l b.number s k) in
      subst (λ o. Full (undo_all f (undo_step o cs s).batches (undo_step o cs s).run)) (sym p.is)
      (either t (Full (undo_all f rest t))
      (λ z.
      let a = left_after n most f cs s sl p.before b p.later l ls p.whole w e d g c r z in
      undo_full f rest t sl a.due a.distinct a.positive (trail_core most a.trail c) a.carried)
      (λ x. (undo_halt f rest t x).full) h)

  pub settle_full : (s : Run) (sl : List Entry) → Core n s sl → Full (settle s)
  unfolding settle
  settle_full s sl c =
      let f = pending_count (open_batches s.log) in
      let u = idle_ended s in
      let us = open_batches u.log in
      either u (Full (undo_all f us u))
      (λ z. let l = (begun n most s sl c z).left in undo_full f us u sl l.due l.distinct l.positive (trail_core most l.trail c) l.carried)
      (λ x. (undo_halt f us u x).full)
      (ends_full (open_batches (all_marked s).log) (all_marked s) (marks_full (open_batches s.log) s (going_full s c.goes)))
