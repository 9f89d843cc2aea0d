-- SPLIT as an update does it: at the seventh entry, into a page taken.
use Rattle.std.specs.Prelude.{ℕ, zero, suc, ◌-◌, ◌≤◌, ◌<◌, ◌≡◌, refl, List, [], ◌∷◌, ◌++◌, length, take, drop}
use Rattle.std.proofs.Common.{sym, ap, ◌∙◌, subst, arith, length-drop, take-append-drop}
use Rattle.def_base.specs.Tests.{le_true, le_false}
use Rattle.def_layout.specs.declared.Entry.{Entry}
use Rattle.def_layout.specs.Entries.{top, key_at}
use Rattle.def_layout.specs.Sizes.{room}
use Rattle.def_layout.specs.Records.{Rec, split_row}
use Rattle.def_model.specs.Change.{kept}
use Rattle.def_model.specs.Fit.{after}
use Rattle.def_model.specs.TreeRules.{Node, first_page}
use Rattle.def_model.specs.Lookup.{covering}
use Rattle.def_model.specs.Update.{Run, emit_taking, split_page}
use Rattle.theory_tree.specs.Order.Keys.{Rising, after_append, rising_cut, after_grows}
use Rattle.theory_tree.specs.Shape.Levels.{ChainOk, ends_le, chain_cut}
use Rattle.theory_tree.specs.Change.LevelChanges.{Splits, split_flat}
use Rattle.theory_tree.specs.Shape.Trees.{is_bottom, Levels, levels_at, Direct, page_at}
use Rattle.theory_tree.specs.Change.Split.{left_half, right_half}
use Rattle.theory_tree.specs.Shape.Marks.{counted_more}
use Rattle.theory_tree.specs.Step.Steps.{splits}
use Rattle.theory_tree.specs.Step.Parts.{length_two}
use Rattle.theory_tree.specs.Step.Leaves.{leaves_swap}
use Rattle.theory_update.specs.Run.Way.{Live, Result, took}

-- ---- the halves

pub after_take : (from i : ℕ) (es : List Entry) → i < length es → after from (take (suc i) es) ≡ suc (key_at es i)
unfolding after
after_take from i [] l = absurd (omega arith)
after_take from zero (e ∷ es) l = refl
after_take from (suc i) (e ∷ es) l = after_take (suc e.key) i es (omega arith)

pub after_more : (from : ℕ) (es : List Entry) → Rising from es → 0 < length es → from < after from es
unfolding Rising after
after_more from [] r l = absurd (omega arith)
after_more from (e ∷ es) r l = let a = r.0 in let g = after_grows (suc e.key) es r.1 in omega arith

pub seven : (es : List Entry) → length es ≡ room → (length (drop 7 es) ≡ 7) × (kept (drop 7 es) es ≡ take 7 es)
seven es e =
    let a : length (drop 7 es) ≡ 7 = length-drop 7 es ∙ ap (λ z. z - 7) e in
    (a, ap (λ z. take z es) (ap (length es -◌) a ∙ ap (λ z. z - 7) e))

pub halves_of : (n : Node) (b from : ℕ) → length n.items ≡ room → Rising from n.items → after from n.items ≤ suc n.high
    → Splits n (left_half n (key_at n.items 6) (drop 7 n.items)) (right_half n b (drop 7 n.items))
halves_of n b from e r h =
    let es = n.items in
    let (a, k) = seven es e in
    let w : es ≡ take 7 es ++ drop 7 es = sym (take-append-drop 7 es) in
    let l : (f : ℕ) → after f (take 7 es) ≡ suc (key_at es 6) = λ f. after_take f 6 es (omega arith) in
    let c = (rising_cut from (take 7 es) (drop 7 es) (subst (Rising from) w r)).1 in
    let d : after from es ≡ after (after from (take 7 es)) (drop 7 es) = ap (after from) w ∙ after_append from (take 7 es) (drop 7 es) in
    let g = after_more (after from (take 7 es)) (drop 7 es) c (omega arith) in
    let l₀ = l from in
    record { same_page = refl; same_items = w ∙ ap (◌++ drop 7 es) (sym k); same_high = refl; lower_high = omega arith; last_key = λ f. ap (after f) k ∙ l f }

-- ---- the split

pub record SplitAt (ups : List (List Node)) (xs : List Node) (n : Node) (ys : List Node) (downs : List (List Node)) (ls : List (List Node)) : Type 0 where
  pub fresh_page : ℕ
  pub whole : ls ≡ ups ++ (xs ++ left_half n (key_at n.items 6) (drop 7 n.items) ∷ right_half n fresh_page (drop 7 n.items) ∷ ys) ∷ downs
  pub parts : Splits n (left_half n (key_at n.items 6) (drop 7 n.items)) (right_half n fresh_page (drop 7 n.items))

split_is : (s : Run) (ups : List (List Node)) (xs : List Node) (n : Node) (ys : List Node) (downs : List (List Node))
    → Levels s.pages (ups ++ (xs ++ n ∷ ys) ∷ downs)
    → split_page n.page s ≡ emit_taking (λ b. split_row (length downs) n.page b (key_at n.items 6) n.high (first_page ys 0) (drop 7 n.items))
    n.page s
unfolding split_page
split_is s ups xs n ys downs lv =
    let (a, b, i) = page_at s.pages ups xs n ys downs lv in
    rw (i.level, i.high, i.right, i.items)

pub split_went : (s : Run) (ups : List (List Node)) (xs : List Node) (n : Node) (ys : List Node) (downs : List (List Node))
    → Live s (ups ++ (xs ++ n ∷ ys) ∷ downs) → Direct ups xs n ys → length n.items ≡ room
    → Result s (ups ++ (xs ++ n ∷ ys) ∷ downs) 1 1 (split_page n.page s) (SplitAt ups xs n ys downs)
unfolding ChainOk
split_went s ups xs n ys downs v d full =
    let row : ℕ → Rec = λ b. split_row (length downs) n.page b (key_at n.items 6) n.high (first_page ys 0) (drop 7 n.items) in
    let c = chain_cut (is_bottom (length downs)) 0 xs (n ∷ ys) (suc top) (levels_at s.pages ups (xs ++ n ∷ ys) downs v.rules.levels).chain in
    let o = c.right.0 in
    let sp : (b : ℕ) → Splits n (left_half n (key_at n.items 6) (drop 7 n.items)) (right_half n b (drop 7 n.items)) = λ b. halves_of n b c.mid full o.rises (ends_le (is_bottom (length downs)) (after c.mid n.items) n.high o.ends) in
    subst (λ z. Result s (ups ++ (xs ++ n ∷ ys) ∷ downs) 1 1 z (SplitAt ups xs n ys downs)) (sym (split_is s ups xs n ys downs v.rules.levels))
    (took row n.page s (ups ++ (xs ++ n ∷ ys) ∷ downs) (SplitAt ups xs n ys downs) v
    (λ b g pos w. record {
      after = ups ++ (xs ++ left_half n (key_at n.items 6) (drop 7 n.items) ∷ right_half n b (drop 7 n.items) ∷ ys) ∷ downs;
      step = splits ups xs n ys downs b (key_at n.items 6) (drop 7 n.items) (sp b) full (seven n.items full).0 d g pos;
      same = leaves_swap ups (xs ++ n ∷ ys) _ downs (split_flat n _ _ (sp b) xs ys);
      taken = let z = counted_more ups (xs ++ n ∷ ys) (xs ++ left_half n (key_at n.items 6) (drop 7 n.items) ∷ right_half n b (drop 7 n.items) ∷ ys) downs (length_two xs _ _ n ys) in omega arith;
      holds = record { fresh_page = b; whole = refl; parts = sp b };
    }))

-- The half that covers k, after a split.
pub half_left : (k : ℕ) (t : Run) (ups : List (List Node)) (xs : List Node) (n m : Node) (ys : List Node) (downs : List (List Node))
    → Levels t.pages (ups ++ (xs ++ n ∷ m ∷ ys) ∷ downs) → k ≤ n.high
    → covering k n.page t.pages ≡ n.page
half_left k t ups xs n m ys downs lv h =
    let (a, b, i) = page_at t.pages ups xs n (m ∷ ys) downs lv in
    rw (i.high, le_true k n.high h)

pub half_right : (k : ℕ) (t : Run) (ups : List (List Node)) (xs : List Node) (n m : Node) (ys : List Node) (downs : List (List Node))
    → Levels t.pages (ups ++ (xs ++ n ∷ m ∷ ys) ∷ downs) → n.high < k
    → covering k n.page t.pages ≡ m.page
unfolding first_page
half_right k t ups xs n m ys downs lv h =
    let (a, b, i) = page_at t.pages ups xs n (m ∷ ys) downs lv in
    rw (i.high, le_false k n.high h) i.right
