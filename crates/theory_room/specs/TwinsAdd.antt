-- Twin runs stay twins through an addition.
use Prim.Native.Nat.{ℕ, zero, suc}
use Rattle.std.specs.Prelude.{Bool}
use Rattle.std.proofs.Math.Bool.{true, false}
use Rattle.def_layout.specs.declared.Entry.{Entry}
use Rattle.def_layout.specs.Pages.{at}
use Rattle.def_layout.specs.Records.{Kind, data_row}
use Rattle.def_model.specs.Lookup.{covering}
use Rattle.def_model.specs.Update.{Run, At, Pair, emit, split_page, room_by, make_room, link_child, linked_by, direct_by, direct_for, direct, raise_by, raise_root, descend_add, find_add, put_record}
use Rattle.theory_room.specs.Counted.{count_room, count_linked, count_descend_add}
use Rattle.theory_room.specs.Twins.{short_emit, short_records, past_emit, past_records, Ample, twin, Twins, same, parted, TwinsAt, same_at, parted_at, TwinsPair, same_pair, parted_pair, twins_emit, twins_taking}

module _ (m : ℕ) where
  pub twins_split : (p : ℕ) (t : Run) → Ample m t → Twins m (split_page p (twin m t)) (split_page p t)
  unfolding split_page
  twins_split p t a = twins_taking m _ p t a

  -- ---- room, and the step down

  twins_half : (k p : ℕ) {s t : Run} → Twins m s t → TwinsAt m (record { run = s; page = covering k p s.pages }) (record { run = t; page = covering k p t.pages })
  twins_half k p (same t a) = same_at t (covering k p t.pages) a
  twins_half k p (parted x y) = parted_at x y

  twins_room_by : (b : Bool) (k p : ℕ) (t : Run) → Ample m t → TwinsAt m (room_by b k p (twin m t)) (room_by b k p t)
  unfolding room_by
  twins_room_by true k p t a = twins_half k p (twins_split p t a)
  twins_room_by false k p t a = same_at t p a

  pub twins_room : (k p : ℕ) (t : Run) → Ample m t → TwinsAt m (make_room k p (twin m t)) (make_room k p t)
  unfolding make_room
  twins_room k p t a = twins_room_by _ k p t a

  pub twins_room_at : (k : ℕ) {a b : At} → TwinsAt m a b → TwinsAt m (make_room k a.page a.run) (make_room k b.page b.run)
  twins_room_at k (same_at t p a) = twins_room k p t a
  twins_room_at k (parted_at {a = a} {b = b} x y) = parted_at (count_room _ short_records 0 k a.page a.run x) (count_room _ (past_records m) 0 k b.page b.run y)

  pub twins_link : (p q w : ℕ) (t : Run) → Ample m t → Twins m (link_child p q w (twin m t)) (link_child p q w t)
  unfolding link_child
  twins_link p q w t a = twins_emit m _ t a

  twins_pair : (k p q : ℕ) {s t : Run} → Twins m s t → TwinsPair m (record { run = s; parent = p; child = covering k q s.pages }) (record { run = t; parent = p; child = covering k q t.pages })
  twins_pair k p q (same t a) = same_pair t p (covering k q t.pages) a
  twins_pair k p q (parted x y) = parted_pair x y

  twins_linked : (k : ℕ) (e : Entry) {a b : At} → TwinsAt m a b → TwinsPair m (linked_by k e a) (linked_by k e b)
  unfolding linked_by
  twins_linked k e (same_at t p a) = twins_pair k p e.val (twins_link p e.val e.key t a)
  twins_linked k e (parted_at {a = a} {b = b} x y) = parted_pair (count_linked _ short_records 0 k e a x) (count_linked _ (past_records m) 0 k e b y)

  twins_direct_by : (b : Bool) (k p : ℕ) (t : Run) (e : Entry) → Ample m t → TwinsPair m (direct_by b k p (twin m t) e) (direct_by b k p t e)
  unfolding direct_by
  twins_direct_by true k p t e a = twins_linked k e (twins_room k p t a)
  twins_direct_by false k p t e a = same_pair t p e.val a

  pub twins_direct : (k p : ℕ) (t : Run) → Ample m t → TwinsPair m (direct k p (twin m t)) (direct k p t)
  unfolding direct direct_for
  twins_direct k p t a = twins_direct_by _ k p t _ a

  -- ---- the root, and the way down

  twins_raise_by : (b : Bool) (t : Run) → Ample m t → Twins m (raise_by b (twin m t)) (raise_by b t)
  unfolding raise_by
  twins_raise_by true t a = same t a
  twins_raise_by false t a = twins_taking m _ 1 t a

  pub twins_raise : (t : Run) → Ample m t → Twins m (raise_root (twin m t)) (raise_root t)
  unfolding raise_root
  twins_raise t a = twins_raise_by _ t a

  pub twins_descend_add : (l k p : ℕ) (t : Run) → Ample m t → TwinsAt m (descend_add l k p (twin m t)) (descend_add l k p t)
  unfolding descend_add
  twins_descend_add zero k p t a = same_at t p a
  twins_descend_add (suc l) k p t a = go (twins_direct k p t a) (λ q u b. twins_descend_add l k q u b)
    where
      go : {d e : Pair} → TwinsPair m d e → ((q : ℕ) (u : Run) → Ample m u → TwinsAt m (descend_add l k q (twin m u)) (descend_add l k q u))
          → TwinsAt m (descend_add l k d.child d.run) (descend_add l k e.child e.run)
      go (same_pair u p' q b) further = further q u b
      go (parted_pair {a = d} {b = e} x y) further = parted_at (count_descend_add _ short_records l 0 k d.child d.run x) (count_descend_add _ (past_records m) l 0 k e.child e.run y)

  twins_to_leaf : (k : ℕ) {s t : Run} → Twins m s t → TwinsAt m (descend_add (at s.pages 1).level k 1 s) (descend_add (at t.pages 1).level k 1 t)
  twins_to_leaf k (same t a) = twins_descend_add _ k 1 t a
  twins_to_leaf k (parted {s = s} {t = t} x y) = parted_at (count_descend_add _ short_records _ 0 k 1 s x) (count_descend_add _ (past_records m) _ 0 k 1 t y)

  pub twins_find_add : (k : ℕ) (t : Run) → Ample m t → TwinsAt m (find_add k (twin m t)) (find_add k t)
  unfolding find_add
  twins_find_add k t a = twins_room_at k (twins_to_leaf k (twins_raise t a))

  -- ---- an addition

  pub twins_data : (kind : Kind) (batch previous k v : ℕ) {a b : At} → TwinsAt m a b
      → Twins m (emit (data_row kind batch previous a.page k v) a.run) (emit (data_row kind batch previous b.page k v) b.run)
  twins_data kind batch previous k v (same_at t p a) = twins_emit m _ t a
  twins_data kind batch previous k v (parted_at {a = a} {b = b} x y) = parted (short_emit _ a.run x) (past_emit m _ b.run y)

  pub twins_put : (kind : Kind) (batch previous k v : ℕ) (t : Run) → Ample m t → Twins m (put_record kind batch previous k v (twin m t)) (put_record kind batch previous k v t)
  unfolding put_record
  twins_put kind batch previous k v t a = twins_data kind batch previous k v (twins_find_add k t a)
