-- What every record of a change of the tree keeps, going down keeps: one induction over the update, used for every property of runs.
use Prim.Native.Nat.{ℕ, zero, suc}
use Rattle.std.specs.Prelude.{◌≡◌, ◌≢◌, Bool, ◌&&◌, List, [], ◌∷◌}
use Rattle.std.proofs.Math.Option.{Option, none, some}
use Rattle.std.proofs.Math.Bool.{true, false}
use Rattle.std.proofs.Common.{arith}
use Rattle.std.proofs.Math.Dec.{ltb, eqb}
use Rattle.def_base.specs.Tests.{pick, Case, yes!, no!, case, true_eq, and_true, neq_false}
use Rattle.def_layout.specs.declared.Entry.{Entry}
use Rattle.def_layout.specs.Records.{Kind, split, link, unlink, merge, redistribute, raise, lower, Rec}
use Rattle.def_model.specs.TreeRules.{free_pages}
use Rattle.def_model.specs.Batches.{Line, next_undo}
use Rattle.def_model.specs.Undo.{undo_line, undo_above}
use Rattle.def_model.specs.Update.{Run, going, stopped, emit_by, emit, fresh, taking_by, emit_taking, split_page, room_by, make_room, link_child, Pair, linked_by, direct_by, direct_for, direct, raise_by, raise_root, descend_add, find_add, join_by, join, link_after_by, link_after, unlink_join, join_left, join_by_entry, restock, refind, stocked_by, stocked, lower_root, lone, step_by, descend_remove}

-- The kinds that change the tree and belong to no batch: 01's 9 to 15.
pub data Structural : Kind → Type 0 where
  splitting : Structural split
  linking : Structural link
  unlinking : Structural unlink
  merging : Structural merge
  sharing : Structural redistribute
  raising : Structural raise
  lowering : Structural lower

module _ (I : Run → Type 0) (by_emit : (r : Rec) → Structural r.kind → (s : Run) → I s → I (emit r s)) (by_stop : (s : Run) → s.stop ≡ 0 → I s → I (stopped 18 s)) where
  pub keep_taking : (f : ℕ → Rec) → ((b : ℕ) → Structural (f b).kind) → (near : ℕ) (s : Run) → I s → I (emit_taking f near s)
  unfolding emit_taking taking_by
  keep_taking f q near s i = go (case (going s && ltb 0 s.room && eqb (fresh s.pages near) 0))
    where
      go : Case (going s && ltb 0 s.room && eqb (fresh s.pages near) 0) → I (taking_by (going s && ltb 0 s.room && eqb (fresh s.pages near) 0) (f (fresh s.pages near)) s)
      go (yes! e) =
          let x = and_true (going s && ltb 0 s.room) _ e in
          rw e (by_stop s (true_eq _ _ (and_true (going s) _ x.0).0) i)
      go (no! e) = rw e (by_emit _ (q _) s i)

  pub keep_split : (p : ℕ) (s : Run) → I s → I (split_page p s)
  unfolding split_page
  keep_split p s i = keep_taking _ (λ b. splitting) _ s i

  pub keep_room_by : (b : Bool) (k p : ℕ) (s : Run) → I s → I (room_by b k p s).run
  unfolding room_by
  keep_room_by true k p s i = keep_split p s i
  keep_room_by false k p s i = i

  pub keep_room : (k p : ℕ) (s : Run) → I s → I (make_room k p s).run
  unfolding make_room
  keep_room k p s i = keep_room_by _ k p s i

  pub keep_link : (p q w : ℕ) (s : Run) → I s → I (link_child p q w s)
  unfolding link_child
  keep_link p q w s i = by_emit _ linking s i

  pub keep_direct_by : (b : Bool) (k p : ℕ) (s : Run) (e : Entry) → I s → I (direct_by b k p s e).run
  unfolding direct_by linked_by
  keep_direct_by true k p s e i = keep_link _ _ _ (make_room k p s).run (keep_room k p s i)
  keep_direct_by false k p s e i = i

  pub keep_direct : (k p : ℕ) (s : Run) → I s → I (direct k p s).run
  unfolding direct direct_for
  keep_direct k p s i = keep_direct_by _ k p s _ i

  pub keep_descend_add : (l k p : ℕ) (s : Run) → I s → I (descend_add l k p s).run
  unfolding descend_add
  keep_descend_add zero k p s i = i
  keep_descend_add (suc l) k p s i = keep_descend_add l k (direct k p s).child (direct k p s).run (keep_direct k p s i)

  pub keep_raise_by : (b : Bool) (s : Run) → I s → I (raise_by b s)
  unfolding raise_by
  keep_raise_by true s i = i
  keep_raise_by false s i = keep_taking _ (λ b. raising) _ s i

  pub keep_raise : (s : Run) → I s → I (raise_root s)
  unfolding raise_root
  keep_raise s i = keep_raise_by _ s i

  -- Going down to add.
  pub keep_find_add : (k : ℕ) (s : Run) → I s → I (find_add k s).run
  unfolding find_add
  keep_find_add k s i = keep_room _ _ _ (keep_descend_add _ _ _ _ (keep_raise s i))

  pub keep_join_by : (b : Bool) (p l r w : ℕ) (s : Run) → I s → I (join_by b p l r w s)
  unfolding join_by
  keep_join_by true p l r w s i = by_emit _ merging s i
  keep_join_by false p l r w s i = keep_link p l w _ (by_emit _ sharing s i)

  pub keep_unlink_join : (p l r : ℕ) (s : Run) → I s → I (unlink_join p l r s)
  unfolding unlink_join join
  keep_unlink_join p l r s i = keep_join_by _ p l r _ _ (by_emit _ unlinking s i)

  pub keep_after_by : (b : Bool) (p r w : ℕ) (s : Run) → I s → I (link_after_by b p r w s)
  unfolding link_after_by
  keep_after_by true p r w s i = keep_link p r w s i
  keep_after_by false p r w s i = i

  pub keep_after : (p r w : ℕ) (s : Run) → I s → I (link_after p r w s)
  unfolding link_after
  keep_after p r w s i = keep_after_by _ p r w s i

  pub keep_entry : (o : Option Entry) (p q : ℕ) (d : Entry) (s : Run) → I s → I (join_by_entry o p q d s)
  unfolding join_by_entry join_left
  keep_entry (some f) p q d s i = keep_unlink_join p q f.val _ (keep_after p f.val f.key s i)
  keep_entry none p q d s i = keep_unlink_join p _ q _ (keep_after p d.val d.key s i)

  pub keep_stocked_by : (b : Bool) (k : ℕ) (d : Pair) → I d.run → I (stocked_by b k d).run
  unfolding stocked_by refind restock
  keep_stocked_by true k d i = keep_entry _ _ _ _ _ (keep_room k d.parent d.run i)
  keep_stocked_by false k d i = i

  pub keep_step : (b : Bool) (k : ℕ) (d : Pair) → I d.run → I (step_by b k d).run
  unfolding step_by stocked lower_root
  keep_step true k d i = by_emit _ lowering _ i
  keep_step false k d i = keep_stocked_by _ k d i

  pub keep_descend_remove : (l k p : ℕ) (s : Run) → I s → I (descend_remove l k p s).run
  unfolding descend_remove
  keep_descend_remove zero k p s i = i
  keep_descend_remove (suc l) k p s i = keep_descend_remove l k _ _ (keep_step (lone (direct k p s)) k (direct k p s) (keep_direct k p s i))

  -- Going down to remove.
  pub keep_find_remove : (l k : ℕ) (s : Run) → I s → I (descend_remove l k 1 (raise_root s)).run
  keep_find_remove l k s i = keep_descend_remove l k 1 (raise_root s) (keep_raise s i)

-- ---- a run that has stopped stays so

abbrev pub Stuck : Run → Type 0
Stuck s = s.stop ≢ 0

pub stuck_emit : (r : Rec) (s : Run) → Stuck s → Stuck (emit r s)
unfolding emit emit_by
stuck_emit r s n = rw (neq_false n) n

pub stuck_by : (r : Rec) → Structural r.kind → (s : Run) → Stuck s → Stuck (emit r s)
stuck_by r q s n = stuck_emit r s n

pub stuck_stop : (s : Run) → s.stop ≡ 0 → Stuck s → Stuck (stopped 18 s)
stuck_stop s z n = absurd (n z)

-- ---- and for the reason that it had

-- A run that is short of a page (18) has no free page.
abbrev pub Full : Run → Type 0
Full s = s.stop ≡ 18 → free_pages s.pages ≡ 0

pub record Halt (s : Run) : Type 0 where
  pub stuck : Stuck s
  pub full : Full s

pub halt_short : (s : Run) → Halt (stopped 17 s)
halt_short s = record { stuck = λ e. absurd (omega (arith, e)); full = λ e. absurd (omega (arith, e)) }

pub halt_emit : (r : Rec) (s : Run) → Halt s → Halt (emit r s)
unfolding emit emit_by
halt_emit r s h = rw (neq_false h.stuck) h

pub halt_by : (r : Rec) → Structural r.kind → (s : Run) → Halt s → Halt (emit r s)
halt_by r q s h = halt_emit r s h

pub halt_stop : (s : Run) → s.stop ≡ 0 → Halt s → Halt (stopped 18 s)
halt_stop s z h = absurd (h.stuck z)

-- What undoing a line keeps, a return keeps.
pub keep_above : (P : Run → Type 0) (n : ℕ) → ((next : ℕ) (l : Line) (s : Run) → P s → P (undo_line n next l s)) → (mark : ℕ) (ls : List Line) (s : Run) → P s → P (undo_above mark n ls s)
unfolding undo_above
keep_above P n k mark [] s h = h
keep_above P n k mark (l ∷ ls) s h = go (ltb mark l.number) (keep_above P n k mark ls (undo_line n (next_undo ls) l s) (k (next_undo ls) l s h))
  where
    go : (b : Bool) → P (undo_above mark n ls (undo_line n (next_undo ls) l s)) → P (pick b (undo_above mark n ls (undo_line n (next_undo ls) l s)) s)
    go true i = i
    go false i = h
