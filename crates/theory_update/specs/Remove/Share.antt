-- What a redistribution moves: the larger half to the left, by count.
use Rattle.std.specs.Prelude.{ℕ, zero, suc, ◌+◌, ◌-◌, ◌/◌, ◌≤◌, ◌<◌, ◌≡◌, refl, ◌⊎◌, true, false, List, [], ◌∷◌, ◌++◌, length, take, drop, ltb}
use Rattle.std.proofs.Common.{sym, ap, ◌∙◌, subst, inl, inr, arith, length-append, length-drop, take-append-drop}
use Rattle.def_base.specs.Tests.{Case, yes!, no!, case, true_lt, false_lt, le_true, le_false}
use Rattle.def_layout.specs.declared.Entry.{Entry}
use Rattle.def_layout.specs.Entries.{key_at}
use Rattle.def_layout.specs.Sizes.{room}
use Rattle.def_model.specs.Change.{first_key}
use Rattle.def_model.specs.Fit.{after}
use Rattle.def_model.specs.TreeRules.{Node, least}
use Rattle.def_model.specs.Update.{share, moved_by}
use Rattle.theory_tree.specs.Order.Keys.{Rising, after_append, rising_cut, after_grows}
use Rattle.theory_tree.specs.Change.LevelChanges.{Splits}
use Rattle.theory_tree.specs.Change.Merge.{merged}
use Rattle.theory_tree.specs.Change.Share.{shared_left, shared_right}
use Rattle.theory_update.specs.Add.Splitting.{after_take, after_more}

-- ---- parts of two lists by count

take_under : (h : ℕ) (a b : List Entry) → h ≤ length a → (take h (a ++ b) ≡ take h a) × (drop h (a ++ b) ≡ drop h a ++ b)
take_under zero a b l = (refl, refl)
take_under (suc h) [] b l = absurd (omega arith)
take_under (suc h) (e ∷ a) b l = let (x, y) = take_under h a b (omega arith) in (ap (e ∷◌) x, y)

take_over : (h : ℕ) (a b : List Entry) → length a ≤ h
    → (take h (a ++ b) ≡ a ++ drop (length a) (take h (a ++ b))) × (b ≡ drop (length a) (take h (a ++ b)) ++ drop h (a ++ b))
take_over h [] b l = (refl, sym (take-append-drop h b))
take_over zero (e ∷ a) b l = absurd (omega arith)
take_over (suc h) (e ∷ a) b l = let (x, y) = take_over h a b (omega arith) in (ap (e ∷◌) x, y)

length_take_le : (h : ℕ) (a : List Entry) → h ≤ length a → length (take h a) ≡ h
length_take_le zero a l = refl
length_take_le (suc h) [] l = absurd (omega arith)
length_take_le (suc h) (e ∷ a) l = ap suc (length_take_le h a (omega arith))

-- What stands after a first part.
drop_length : (a b : List Entry) → drop (length a) (a ++ b) ≡ b
drop_length [] b = refl
drop_length (e ∷ a) b = drop_length a b

key_first : (from key : ℕ) (z : List Entry) → Rising from z → after from z ≡ suc key → 0 < length z → first_key z ≤ key
unfolding Rising after
key_first from key [] r a l = absurd (omega arith)
key_first from key (e ∷ z) r a l = let g = after_grows (suc e.key) z r.1 in omega arith

key_above : (key : ℕ) (z : List Entry) → Rising (suc key) z → 0 < length z → key < first_key z
unfolding Rising
key_above key [] r l = absurd (omega arith)
key_above key (e ∷ z) r l = r.0

-- ---- the halves

-- The halves: h entries to the left, where the two hold 15 to 18 together and one of them 4.
pub record Shared (q r : Node) (key : ℕ) (moved : List Entry) : Type 0 where
  pub left : (shared_left q key moved).items ≡ take (share q.items r.items) (q.items ++ r.items)
  pub right : (shared_right r key moved).items ≡ drop (share q.items r.items) (q.items ++ r.items)
  pub parts : Splits (merged q r) (shared_left q key moved) (shared_right r key moved)
  pub left_size : length (shared_left q key moved).items ≡ share q.items r.items
  pub right_size : length (shared_right r key moved).items ≡ length q.items + length r.items - share q.items r.items

half_up : (t : ℕ) → 15 ≤ t → t ≤ 18 → (8 ≤ (t + 1) / 2) × ((t + 1) / 2 ≤ 9)
half_up t a b = (omega arith, omega arith)

module _ (q r : Node) (c : ℕ) (four : (length q.items ≡ least) ⊎ (length r.items ≡ least)) (qs : length q.items ≤ room) (rs : length r.items ≤ room) (many : room < length q.items + length r.items)
    (rises : Rising c (q.items ++ r.items)) (ends : after c (q.items ++ r.items) ≤ suc r.high) where
  abbrev a : List Entry
  a = q.items

  abbrev b : List Entry
  b = r.items

  abbrev h : ℕ
  h = share a b

  abbrev key : ℕ
  key = key_at (a ++ b) (h - 1)

  abbrev x : List Entry
  x = take h (a ++ b)

  abbrev y : List Entry
  y = drop h (a ++ b)

  total : length a + length b ≤ 18
  total = go four
    where
      go : (length a ≡ 4) ⊎ (length b ≡ 4) → length a + length b ≤ 18
      go (inl e) = omega arith
      go (inr e) = omega arith

  bounds : (8 ≤ h) × (h ≤ 9)
  bounds = half_up (length a + length b) (omega arith) total

  last : (f : ℕ) → after f x ≡ suc key
  last f =
      let (l, u) = bounds in
      let n = length-append a b in
      let e : suc (h - 1) ≡ h = omega arith in
      ap (λ z. after f (take z (a ++ b))) (sym e) ∙ after_take f (h - 1) (a ++ b) (omega arith)

  rises_x : Rising c x
  rises_x = (rising_cut c x y (subst (Rising c) (sym (take-append-drop h (a ++ b))) rises)).0

  rises_y : Rising (suc key) y
  rises_y = subst (λ z. Rising z y) (last c) (rising_cut c x y (subst (Rising c) (sym (take-append-drop h (a ++ b))) rises)).1

  size_x : length x ≡ h
  size_x = let (l, u) = bounds in let n = length-append a b in length_take_le h (a ++ b) (omega arith)

  size_y : length y ≡ length a + length b - h
  size_y = length-drop h (a ++ b) ∙ ap (◌- h) (length-append a b)

  low : key < r.high
  low =
      let (l, u) = bounds in
      let s = size_y in
      let g = after_more (suc key) y rises_y (omega arith) in
      let d : after c (a ++ b) ≡ after (after c x) y = ap (after c) (sym (take-append-drop h (a ++ b))) ∙ after_append c x y in
      let e = last c in
      let f : after (after c x) y ≡ after (suc key) y = ap (λ z. after z y) e in
      omega arith

  make : (moved : List Entry) → (shared_left q key moved).items ≡ x → (shared_right r key moved).items ≡ y → Shared q r key moved
  make moved l g =
      record {
        left = l;
        right = g;
        parts = record { same_page = refl; same_items = sym (take-append-drop h (a ++ b)) ∙ (λ i. sym l i ++ sym g i); same_high = refl; lower_high = low; last_key = λ f. ap (after f) l ∙ last f };
        left_size = ap length l ∙ size_x;
        right_size = ap length g ∙ size_y;
      }

  -- the left page receives
  over : length a < h → Shared q r key (drop (length a) x)
  over lt =
      let z = drop (length a) x in
      let (e₁, e₂) = take_over h a b (omega arith) in
      let n : length x ≡ length a + length z = ap length e₁ ∙ length-append a z in
      let s = size_x in
      let rz = (rising_cut c a z (subst (Rising c) e₁ rises_x)).1 in
      let az : after (after c a) z ≡ suc key = sym (after_append c a z) ∙ ap (after c) (sym e₁) ∙ last c in
      let k = key_first (after c a) key z rz az (omega arith) in
      make z (rw (le_true (first_key z) key k) (sym e₁))
      (rw (le_true (first_key z) key k) (ap (drop (length z)) e₂ ∙ drop_length z y))

  -- the left page gives
  under : h ≤ length a → Shared q r key (drop h a)
  under le =
      let z = drop h a in
      let (e₁, e₂) = take_under h a b le in
      let (l, u) = bounds in
      let n : length z ≡ length a - h = length-drop h a in
      let lt : h < length a = strict four in
      let ry : Rising (suc key) (z ++ b) = subst (Rising (suc key)) e₂ rises_y in
      let rz = (rising_cut (suc key) z b ry).0 in
      let k = key_above key z rz (omega arith) in
      let d : length a - length z ≡ h = omega arith in
      make z (rw (le_false (first_key z) key k) (ap (λ m. take m a) d ∙ sym e₁))
      (rw (le_false (first_key z) key k) (sym e₂))
    where
      strict : (length a ≡ 4) ⊎ (length b ≡ 4) → h < length a
      strict (inl e) = let (l, u) = bounds in absurd (omega arith)
      strict (inr e) = let (l, u) = bounds in omega arith

  moved_true : ltb (length a) h ≡ true → moved_by (ltb (length a) h) a b ≡ drop (length a) x
  unfolding moved_by
  moved_true e = rw e

  moved_false : ltb (length a) h ≡ false → moved_by (ltb (length a) h) a b ≡ drop h a
  unfolding moved_by
  moved_false e = rw e

  pub shared : Shared q r (key_at (q.items ++ r.items) (share q.items r.items - 1))
      (moved_by (ltb (length q.items) (share q.items r.items)) q.items r.items)
  shared = go (case (ltb (length a) h))
    where
      go : Case (ltb (length a) h) → Shared q r key (moved_by (ltb (length a) h) a b)
      go (yes! e) = subst (Shared q r key) (sym (moved_true e)) (over (true_lt _ _ e))
      go (no! e) = subst (Shared q r key) (sym (moved_false e)) (under (false_lt _ _ e))
