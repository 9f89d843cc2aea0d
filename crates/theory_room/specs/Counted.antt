-- What every record keeps, an update keeps, with a count of the records that it may write: one induction for every such property of runs.
use Prim.Native.Nat.{ℕ, zero, suc, ◌+◌, ◌*◌}
use Rattle.std.specs.Prelude.{◌≡◌, Bool}
use Rattle.std.proofs.Math.Path.{subst}
use Rattle.std.proofs.Math.Option.{Option, none, some}
use Rattle.std.proofs.Math.Bool.{true, false}
use native.Mathlib.Omega.{arith}
use Rattle.def_layout.specs.declared.Entry.{Entry}
use Rattle.def_layout.specs.Pages.{at}
use Rattle.def_layout.specs.Records.{Kind, Rec}
use Rattle.def_model.specs.Update.{Run, emit, emit_taking, split_page, room_by, make_room, link_child, Pair, linked_by, direct_by, direct_for, direct, raise_by, raise_root, At, descend_add, find_add, put_record, join_by, join, link_after_by, link_after, unlink_join, join_left, join_by_entry, restock, refind, stocked_by, stocked, lower_root, lone, step_by, descend_remove, remove_record}

-- (`I n s`: the run s, when at most n records more have been written than at the start.)
pub record Counted (I : ℕ → Run → Type 0) : Type 0 where
  pub emits : (n : ℕ) (r : Rec) (s : Run) → I n s → I (suc n) (emit r s)
  pub takes : (n : ℕ) (f : ℕ → Rec) (near : ℕ) (s : Run) → I n s → I (suc n) (emit_taking f near s)
  pub later : (n : ℕ) (s : Run) → I n s → I (suc n) s

module _ (I : ℕ → Run → Type 0) (c : Counted I) where
  pub count_split : (n p : ℕ) (s : Run) → I n s → I (suc n) (split_page p s)
  unfolding split_page
  count_split n p s i = c.takes n _ _ s i

  pub count_room_by : (b : Bool) (n k p : ℕ) (s : Run) → I n s → I (suc n) (room_by b k p s).run
  unfolding room_by
  count_room_by true n k p s i = count_split n p s i
  count_room_by false n k p s i = c.later n s i

  pub count_room : (n k p : ℕ) (s : Run) → I n s → I (suc n) (make_room k p s).run
  unfolding make_room
  count_room n k p s i = count_room_by _ n k p s i

  pub count_link : (n p q w : ℕ) (s : Run) → I n s → I (suc n) (link_child p q w s)
  unfolding link_child
  count_link n p q w s i = c.emits n _ s i

  pub count_linked : (n k : ℕ) (e : Entry) (a : At) → I n a.run → I (suc n) (linked_by k e a).run
  unfolding linked_by
  count_linked n k e a i = count_link n _ _ _ a.run i

  pub count_direct_by : (b : Bool) (n k p : ℕ) (s : Run) (e : Entry) → I n s → I (suc (suc n)) (direct_by b k p s e).run
  unfolding direct_by
  count_direct_by true n k p s e i = count_linked (suc n) k e (make_room k p s) (count_room n k p s i)
  count_direct_by false n k p s e i = c.later _ s (c.later n s i)

  pub count_direct : (n k p : ℕ) (s : Run) → I n s → I (suc (suc n)) (direct k p s).run
  unfolding direct direct_for
  count_direct n k p s i = count_direct_by _ n k p s _ i

  -- ---- adding

  pub count_descend_add : (l n k p : ℕ) (s : Run) → I n s → I (2 * l + n) (descend_add l k p s).run
  unfolding descend_add
  count_descend_add zero n k p s i = let e : n ≡ 2 * 0 + n = omega arith in subst (λ m. I m s) e i
  count_descend_add (suc l) n k p s i =
      let d = direct k p s in
      let e : 2 * l + suc (suc n) ≡ 2 * suc l + n = omega arith in
      subst (λ m. I m (descend_add l k d.child d.run).run) e (count_descend_add l (suc (suc n)) k d.child d.run (count_direct n k p s i))

  pub count_raise_by : (b : Bool) (n : ℕ) (s : Run) → I n s → I (suc n) (raise_by b s)
  unfolding raise_by
  count_raise_by true n s i = c.later n s i
  count_raise_by false n s i = c.takes n _ _ s i

  pub count_raise : (n : ℕ) (s : Run) → I n s → I (suc n) (raise_root s)
  unfolding raise_root
  count_raise n s i = count_raise_by _ n s i

  pub count_find_add : (n k : ℕ) (s : Run) → I n s → I (suc (2 * (at (raise_root s).pages 1).level + suc n)) (find_add k s).run
  unfolding find_add
  count_find_add n k s i = count_room _ k _ _ (count_descend_add (at (raise_root s).pages 1).level (suc n) k 1 (raise_root s) (count_raise n s i))

  -- An addition: its way down, and its record.
  pub count_put : (n : ℕ) (kind : Kind) (batch previous k v : ℕ) (s : Run) → I n s
      → I (suc (suc (2 * (at (raise_root s).pages 1).level + suc n))) (put_record kind batch previous k v s)
  unfolding put_record
  count_put n kind batch previous k v s i = c.emits _ _ _ (count_find_add n k s i)

  -- ---- removing

  pub count_join_by : (b : Bool) (n p l r w : ℕ) (s : Run) → I n s → I (suc (suc n)) (join_by b p l r w s)
  unfolding join_by
  count_join_by true n p l r w s i = c.later _ _ (c.emits n _ s i)
  count_join_by false n p l r w s i = count_link (suc n) p l w _ (c.emits n _ s i)

  pub count_join : (n p l r w : ℕ) (s : Run) → I n s → I (suc (suc n)) (join p l r w s)
  unfolding join
  count_join n p l r w s i = count_join_by _ n p l r w s i

  pub count_unlink_join : (n p l r : ℕ) (s : Run) → I n s → I (suc (suc (suc n))) (unlink_join p l r s)
  unfolding unlink_join
  count_unlink_join n p l r s i = count_join (suc n) p l r _ _ (c.emits n _ s i)

  pub count_after_by : (b : Bool) (n p r w : ℕ) (s : Run) → I n s → I (suc n) (link_after_by b p r w s)
  unfolding link_after_by
  count_after_by true n p r w s i = count_link n p r w s i
  count_after_by false n p r w s i = c.later n s i

  pub count_after : (n p r w : ℕ) (s : Run) → I n s → I (suc n) (link_after p r w s)
  unfolding link_after
  count_after n p r w s i = count_after_by _ n p r w s i

  pub count_join_left : (n p d q : ℕ) (s : Run) → I n s → I (suc (suc (suc n))) (join_left p d q s)
  unfolding join_left
  count_join_left n p d q s i = count_unlink_join n p _ q s i

  pub count_entry : (o : Option Entry) (n p q : ℕ) (d : Entry) (s : Run) → I n s → I (4 + n) (join_by_entry o p q d s)
  unfolding join_by_entry
  count_entry (some f) n p q d s i =
      let e : suc (suc (suc (suc n))) ≡ 4 + n = omega arith in
      subst (λ m. I m (join_by_entry (some f) p q d s)) e (count_unlink_join (suc n) p q f.val _ (count_after n p f.val f.key s i))
  count_entry none n p q d s i =
      let e : suc (suc (suc (suc n))) ≡ 4 + n = omega arith in
      subst (λ m. I m (join_by_entry none p q d s)) e (count_join_left (suc n) p d.val q _ (count_after n p d.val d.key s i))

  pub count_restock : (n k q : ℕ) (a : At) → I n a.run → I (4 + n) (restock k q a)
  unfolding restock
  count_restock n k q a i = count_entry _ n _ q _ a.run i

  pub count_stocked_by : (b : Bool) (n k : ℕ) (d : Pair) → I n d.run → I (4 + suc n) (stocked_by b k d).run
  unfolding stocked_by refind
  count_stocked_by true n k d i = count_restock (suc n) k d.child (make_room k d.parent d.run) (count_room n k d.parent d.run i)
  count_stocked_by false n k d i =
      let e : suc (suc (suc (suc (suc n)))) ≡ 4 + suc n = omega arith in
      subst (λ m. I m d.run) e (c.later _ _ (c.later _ _ (c.later _ _ (c.later _ _ (c.later _ _ i)))))

  pub count_stocked : (n k : ℕ) (d : Pair) → I n d.run → I (4 + suc n) (stocked k d).run
  unfolding stocked
  count_stocked n k d i = count_stocked_by _ n k d i

  pub count_step : (b : Bool) (n k : ℕ) (d : Pair) → I n d.run → I (4 + suc n) (step_by b k d).run
  unfolding step_by lower_root
  count_step true n k d i =
      let e : suc (suc (suc (suc (suc n)))) ≡ 4 + suc n = omega arith in
      subst (λ m. I m (lower_root d.child d.run)) e (c.later _ _ (c.later _ _ (c.later _ _ (c.later _ _ (c.emits n _ d.run i)))))
  count_step false n k d i = count_stocked n k d i

  pub count_descend_remove : (l n k p : ℕ) (s : Run) → I n s → I (7 * l + n) (descend_remove l k p s).run
  unfolding descend_remove
  count_descend_remove zero n k p s i = let e : n ≡ 7 * 0 + n = omega arith in subst (λ m. I m s) e i
  count_descend_remove (suc l) n k p s i =
      let d = direct k p s in
      let a = step_by (lone d) k d in
      let e : 7 * l + (4 + suc (suc (suc n))) ≡ 7 * suc l + n = omega arith in
      subst (λ m. I m (descend_remove l k a.page a.run).run) e (count_descend_remove l (4 + suc (suc (suc n))) k a.page a.run (count_step (lone d) (suc (suc n)) k d (count_direct n k p s i)))

  -- A removal: its way down, and its record.
  pub count_remove : (n : ℕ) (kind : Kind) (batch previous k v : ℕ) (s : Run) → I n s
      → I (suc (7 * (at (raise_root s).pages 1).level + suc n)) (remove_record kind batch previous k v s)
  unfolding remove_record
  count_remove n kind batch previous k v s i = c.emits _ _ _ (count_descend_remove (at (raise_root s).pages 1).level (suc n) k 1 (raise_root s) (count_raise n s i))
