-- The search in a page: the entry that leads to k, the one after it and the one before.
use Rattle.std.specs.Prelude.{ℕ, suc, ◌≤◌, ◌<◌, ◌≡◌, List, [], ◌∷◌, ◌++◌, ltb}
use Rattle.std.proofs.Common.{ap, ◌∙◌, arith}
use Rattle.std.proofs.Math.Option.{some}
use Rattle.def_base.specs.Tests.{pick, Case, yes!, no!, case, none_some, some_inj, lt_true, true_lt, false_lt, lt_false}
use Rattle.def_layout.specs.declared.Entry.{Entry}
use Rattle.def_layout.specs.Entries.{seek}
use Rattle.def_model.specs.Fit.{after}
use Rattle.def_model.specs.Lookup.{first_of}
use Rattle.def_model.specs.Update.{next_entry, entry_before}
use Rattle.theory_tree.specs.Order.Keys.{Rising, rising_cut, after_grows}
use Rattle.theory_tree.specs.Order.Sorted.{seek_skip}

-- The entry that leads to k, and what stands before it.
pub record Sought (k : ℕ) (es : List Entry) (e : Entry) : Type 0 where
  pub pre : List Entry
  pub post : List Entry
  pub whole : es ≡ pre ++ e ∷ post
  pub reaches : k ≤ e.key
  pub before : (from : ℕ) → from ≤ k → after from pre ≤ k

pub sought : (k : ℕ) (es : List Entry) (e : Entry) → seek k es ≡ some e → Sought k es e
unfolding seek after
sought k [] e s = none_some s
sought k (x ∷ es) e s = go (case (ltb x.key k)) (sought k es e)
  where
    go : Case (ltb x.key k) → (seek k es ≡ some e → Sought k es e) → Sought k (x ∷ es) e
    go (yes! c) i =
        let q = i (rw c at s) in
        record { pre = x ∷ q.pre; post = q.post; whole = ap (x ∷◌) q.whole; reaches = q.reaches; before = λ from l. q.before (suc x.key) (true_lt _ _ c) }
    go (no! c) i =
        let z : x ≡ e = some_inj (rw c at s) in
        record { pre = []; post = es; whole = ap (◌∷ es) z; reaches = rw z at (false_lt x.key k c); before = λ from l. l }

-- In an index page that covers k there is such an entry.
pub finds : (k from : ℕ) (es : List Entry) → from ≤ k → k < after from es → (e : Entry) × (seek k es ≡ some e)
unfolding seek after
finds k from [] l h = absurd (omega arith)
finds k from (x ∷ es) l h = go (case (ltb x.key k)) (λ q. finds k (suc x.key) es q h)
  where
    go : Case (ltb x.key k) → (suc x.key ≤ k → (e : Entry) × (seek k es ≡ some e))
        → (e : Entry) × (pick (ltb x.key k) (seek k es) (some x) ≡ some e)
    go (yes! c) i = let (e, q) = i (true_lt _ _ c) in (e, rw c q)
    go (no! c) i = (x, rw c)

-- The entry that the search finds.
pub seek_at : (k from : ℕ) (pre : List Entry) (e : Entry) (post : List Entry) → Rising from (pre ++ e ∷ post) → after from pre ≤ k → k ≤ e.key
    → seek k (pre ++ e ∷ post) ≡ some e
unfolding seek
seek_at k from pre e post r l h = seek_skip k from pre (e ∷ post) (rising_cut from pre (e ∷ post) r).0 l ∙ rw (lt_false e.key k h)

pub next_at : (k from : ℕ) (pre : List Entry) (e : Entry) (post : List Entry) → Rising from (pre ++ e ∷ post) → after from pre ≤ k → k ≤ e.key
    → next_entry k (pre ++ e ∷ post) ≡ first_of post
unfolding next_entry Rising after
next_at k from [] e post r l h = rw (lt_false e.key k h)
next_at k from (x ∷ pre) e post r l h =
    let g = after_grows (suc x.key) pre (rising_cut (suc x.key) pre (e ∷ post) r.1).0 in
    rw (lt_true x.key k (omega arith)) (next_at k (suc x.key) pre e post r.1 l h)

pub before_at : (k from : ℕ) (d x : Entry) (pre : List Entry) (e : Entry) (post : List Entry) → Rising from ((pre ++ x ∷ []) ++ e ∷ post)
    → after from (pre ++ x ∷ []) ≤ k → k ≤ e.key
    → entry_before k d ((pre ++ x ∷ []) ++ e ∷ post) ≡ x
unfolding entry_before Rising after
before_at k from d x [] e post r l h = rw (lt_true x.key k l, lt_false e.key k h)
before_at k from d x (y ∷ pre) e post r l h =
    let g = after_grows (suc y.key) (pre ++ x ∷ []) (rising_cut (suc y.key) (pre ++ x ∷ []) (e ∷ post) r.1).0 in
    rw (lt_true y.key k (omega arith)) (before_at k (suc y.key) y x pre e post r.1 l h)
