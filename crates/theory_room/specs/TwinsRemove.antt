-- Twin runs stay twins through a removal.
use Prim.Native.Nat.{ℕ, zero, suc}
use Rattle.std.proofs.Math.Option.{Option, none, some}
use Rattle.std.specs.Prelude.{Bool}
use Rattle.std.proofs.Math.Bool.{true, false}
use Rattle.def_layout.specs.declared.Entry.{Entry}
use Rattle.def_layout.specs.Pages.{at}
use Rattle.def_layout.specs.Records.{Kind}
use Rattle.def_model.specs.Update.{Run, At, Pair, link_child, join_by, join, link_after_by, link_after, unlink_join, join_left, join_by_entry, restock, refind, stocked_by, stocked, lower_root, lone, step_by, descend_remove, remove_record}
use Rattle.theory_room.specs.Counted.{count_link, count_join, count_unlink_join, count_join_left, count_restock, count_step, count_descend_remove}
use Rattle.theory_room.specs.Twins.{short_records, past_records, Ample, twin, Twins, same, parted, TwinsAt, same_at, parted_at, TwinsPair, same_pair, parted_pair, twins_emit}
use Rattle.theory_room.specs.TwinsAdd.{twins_room, twins_link, twins_direct, twins_raise, twins_data}

module _ (m : ℕ) where
  -- ---- two pages are joined

  twins_link_on : (p q w : ℕ) {s t : Run} → Twins m s t → Twins m (link_child p q w s) (link_child p q w t)
  twins_link_on p q w (same t a) = twins_link m p q w t a
  twins_link_on p q w (parted {s = s} {t = t} x y) = parted (count_link _ short_records 0 p q w s x) (count_link _ (past_records m) 0 p q w t y)

  twins_join_by : (b : Bool) (p l r w : ℕ) (t : Run) → Ample m t → Twins m (join_by b p l r w (twin m t)) (join_by b p l r w t)
  unfolding join_by
  twins_join_by true p l r w t a = twins_emit m _ t a
  twins_join_by false p l r w t a = twins_link_on p l w (twins_emit m _ t a)

  twins_join : (p l r w : ℕ) {s t : Run} → Twins m s t → Twins m (join p l r w s) (join p l r w t)
  unfolding join
  twins_join p l r w (same t a) = twins_join_by _ p l r w t a
  twins_join p l r w (parted {s = s} {t = t} x y) = parted (count_join _ short_records 0 p l r w s x) (count_join _ (past_records m) 0 p l r w t y)

  twins_unlink_join : (p l r : ℕ) {s t : Run} → Twins m s t → Twins m (unlink_join p l r s) (unlink_join p l r t)
  unfolding unlink_join
  twins_unlink_join p l r (same t a) = twins_join p l r _ (twins_emit m _ t a)
  twins_unlink_join p l r (parted {s = s} {t = t} x y) = parted (count_unlink_join _ short_records 0 p l r s x) (count_unlink_join _ (past_records m) 0 p l r t y)

  twins_join_left : (p d q : ℕ) {s t : Run} → Twins m s t → Twins m (join_left p d q s) (join_left p d q t)
  unfolding join_left
  twins_join_left p d q (same t a) = twins_unlink_join p _ q (same t a)
  twins_join_left p d q (parted {s = s} {t = t} x y) = parted (count_join_left _ short_records 0 p d q s x) (count_join_left _ (past_records m) 0 p d q t y)

  twins_after_by : (b : Bool) (p r w : ℕ) (t : Run) → Ample m t → Twins m (link_after_by b p r w (twin m t)) (link_after_by b p r w t)
  unfolding link_after_by
  twins_after_by true p r w t a = twins_link m p r w t a
  twins_after_by false p r w t a = same t a

  twins_after : (p r w : ℕ) (t : Run) → Ample m t → Twins m (link_after p r w (twin m t)) (link_after p r w t)
  unfolding link_after
  twins_after p r w t a = twins_after_by _ p r w t a

  twins_entry : (o : Option Entry) (p q : ℕ) (d : Entry) (t : Run) → Ample m t → Twins m (join_by_entry o p q d (twin m t)) (join_by_entry o p q d t)
  unfolding join_by_entry
  twins_entry (some f) p q d t a = twins_unlink_join p q f.val (twins_after p f.val f.key t a)
  twins_entry none p q d t a = twins_join_left p d.val q (twins_after p d.val d.key t a)

  -- ---- a page gets its neighbour's entries

  twins_restock : (k q p : ℕ) (t : Run) → Ample m t → Twins m (restock k q (record { run = twin m t; page = p })) (restock k q (record { run = t; page = p }))
  unfolding restock
  twins_restock k q p t a = twins_entry _ p q _ t a

  twins_refind : (k p : ℕ) {s t : Run} → Twins m s t → TwinsAt m (refind k p s) (refind k p t)
  unfolding refind
  twins_refind k p (same t a) = same_at t _ a
  twins_refind k p (parted x y) = parted_at x y

  twins_restocked : (k q : ℕ) {a b : At} → TwinsAt m a b → TwinsAt m (refind k a.page (restock k q a)) (refind k b.page (restock k q b))
  unfolding refind
  twins_restocked k q (same_at t p a) = twins_refind k p (twins_restock k q p t a)
  twins_restocked k q (parted_at {a = a} {b = b} x y) = parted_at (count_restock _ short_records 0 k q a x) (count_restock _ (past_records m) 0 k q b y)

  twins_stocked_by : (b : Bool) (k p q : ℕ) (t : Run) → Ample m t
      → TwinsAt m (stocked_by b k (record { run = twin m t; parent = p; child = q })) (stocked_by b k (record { run = t; parent = p; child = q }))
  unfolding stocked_by
  twins_stocked_by true k p q t a = twins_restocked k q (twins_room m k p t a)
  twins_stocked_by false k p q t a = same_at t q a

  -- ---- the way down

  twins_lowered : {s t : Run} → Twins m s t → TwinsAt m (record { run = s; page = 1 }) (record { run = t; page = 1 })
  twins_lowered (same t a) = same_at t 1 a
  twins_lowered (parted x y) = parted_at x y

  twins_step_by : (b : Bool) (k p q : ℕ) (t : Run) → Ample m t
      → TwinsAt m (step_by b k (record { run = twin m t; parent = p; child = q })) (step_by b k (record { run = t; parent = p; child = q }))
  unfolding step_by lower_root stocked
  twins_step_by true k p q t a = twins_lowered (twins_emit m _ t a)
  twins_step_by false k p q t a = twins_stocked_by _ k p q t a

  twins_step : (k : ℕ) {d e : Pair} → TwinsPair m d e → TwinsAt m (step_by (lone d) k d) (step_by (lone e) k e)
  twins_step k (same_pair t p q a) = twins_step_by _ k p q t a
  twins_step k (parted_pair {a = d} {b = e} x y) = parted_at (count_step _ short_records (lone d) 0 k d x) (count_step _ (past_records m) (lone e) 0 k e y)

  pub twins_descend_remove : (l k p : ℕ) (t : Run) → Ample m t → TwinsAt m (descend_remove l k p (twin m t)) (descend_remove l k p t)
  unfolding descend_remove
  twins_descend_remove zero k p t a = same_at t p a
  twins_descend_remove (suc l) k p t a = go (twins_step k (twins_direct m k p t a)) (λ q u b. twins_descend_remove l k q u b)
    where
      go : {d e : At} → TwinsAt m d e → ((q : ℕ) (u : Run) → Ample m u → TwinsAt m (descend_remove l k q (twin m u)) (descend_remove l k q u))
          → TwinsAt m (descend_remove l k d.page d.run) (descend_remove l k e.page e.run)
      go (same_at u q b) further = further q u b
      go (parted_at {a = d} {b = e} x y) further = parted_at (count_descend_remove _ short_records l 0 k d.page d.run x) (count_descend_remove _ (past_records m) l 0 k e.page e.run y)

  twins_to_leaf : (k : ℕ) {s t : Run} → Twins m s t → TwinsAt m (descend_remove (at s.pages 1).level k 1 s) (descend_remove (at t.pages 1).level k 1 t)
  twins_to_leaf k (same t a) = twins_descend_remove _ k 1 t a
  twins_to_leaf k (parted {s = s} {t = t} x y) = parted_at (count_descend_remove _ short_records _ 0 k 1 s x) (count_descend_remove _ (past_records m) _ 0 k 1 t y)

  -- ---- a removal

  pub twins_remove : (kind : Kind) (batch previous k v : ℕ) (t : Run) → Ample m t → Twins m (remove_record kind batch previous k v (twin m t)) (remove_record kind batch previous k v t)
  unfolding remove_record
  twins_remove kind batch previous k v t a = twins_data m kind batch previous k v (twins_to_leaf k (twins_raise m t a))
