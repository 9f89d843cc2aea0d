-- The last record of an update, and what the leaves hold after it.
use Rattle.std.specs.Prelude.{ℕ, suc, ◌+◌, ◌≤◌, ◌<◌, ◌≡◌, refl, ◌⊎◌, true, List, [], ◌∷◌, ◌++◌, length, ltb}
use Rattle.std.proofs.Common.{sym, ap, ◌∙◌, subst, inl, inr, arith}
use Rattle.std.proofs.Math.Option.{none, some}
use Rattle.def_base.specs.Tests.{Case, yes!, no!, case, true_lt, false_lt}
use Rattle.def_layout.specs.declared.Entry.{Entry}
use Rattle.def_layout.specs.Entries.{top, look, insert_sorted, remove_key}
use Rattle.def_layout.specs.Sizes.{room}
use Rattle.def_layout.specs.Records.{Kind, Rec, data_row}
use Rattle.def_model.specs.TreeRules.{Node, flat, leaves, counted, root_least}
use Rattle.def_model.specs.Update.{Run, emit}
use Rattle.theory_redo.specs.Area.{length_redo_record}
use Rattle.theory_tree.specs.Order.Sorted.{remove_length}
use Rattle.theory_tree.specs.Shape.Chains.{All}
use Rattle.theory_tree.specs.Shape.Trees.{Levels, levels_at, Direct}
use Rattle.theory_tree.specs.Change.Edit.{with_items}
use Rattle.theory_tree.specs.Shape.Sizes.{SizedLevel, Sizes, sizes_at, sized_less}
use Rattle.theory_tree.specs.Order.Covers.{Covers, insert_leaf, covers_at, remove_leaf, look_leaf}
use Rattle.theory_tree.specs.Step.Steps.{Adding, Removing, Step, puts, cuts}
use Rattle.theory_tree.specs.Step.Parts.{counted_same, length_mid}
use Rattle.theory_tree.specs.Step.Leaves.{leaves_last}
use Rattle.theory_update.specs.Run.Keeps.{Halt, halt_short, halt_emit}
use Rattle.theory_update.specs.Run.Way.{Live, Way, more, live_more, Result, went, halted, emit_goes, emit_stops}
use Rattle.theory_update.specs.Find.Places.{Place}
use Rattle.theory_update.specs.Add.Descent.{place_small}
use Rattle.theory_update.specs.Remove.Restocking.{Rich}
use Rattle.theory_update.specs.Add.LeafRoom.{LeafAt}

-- How an update ends: with the rules, at most a records and b more pages, and the leaves L; or stopped for want of them.
pub data Ended (s : Run) (ls : List (List Node)) (a b : ℕ) (t : Run) (L : List Entry) : Type 0 where
  ended : (ls' : List (List Node)) → Way s ls t ls' → Live t ls' → leaves ls' ≡ L → s.room ≤ t.room + a → counted ls' ≤ counted ls + b
      → t.due + t.room ≡ s.due + s.room → length t.pages ≡ length s.pages → Ended s ls a b t L
  short : Halt t → (s.room < a) ⊎ (length s.pages < counted ls + b) → Ended s ls a b t L

-- What is owed of the last record.
pub record Last (t : Run) (ls : List (List Node)) (r : Rec) (L : List Entry) : Type 0 where
  pub after : List (List Node)
  pub step : Step t.pages ls r after
  pub holds : leaves after ≡ L
  pub count : counted after ≡ counted ls

pub finish : (s : Run) (ls : List (List Node)) (a b : ℕ) (t : Run) (P : List (List Node) → Type 0) (r : Rec) (L : List Entry) → Result s ls a b t P
    → ((ls₁ : List (List Node)) → Live t ls₁ → leaves ls₁ ≡ leaves ls → P ls₁ → Last t ls₁ r L) → Ended s ls (a + 1) b (emit r t) L
finish s ls a b t P r L (halted h (inl z)) f = short (halt_emit r t h) (inl (omega arith))
finish s ls a b t P r L (halted h (inr z)) f = short (halt_emit r t h) (inr z)
finish s ls a b t P r L (went ls₁ w p) f = go (case (ltb 0 t.room)) (f ls₁ w.live w.same p)
  where
    go : Case (ltb 0 t.room) → Last t ls₁ r L → Ended s ls (a + 1) b (emit r t) L
    go (yes! l) x =
        let g = true_lt 0 t.room l in
        let y₁ = w.records in let y₂ = w.taken in let y₃ = x.count in let y₄ = w.room in
        subst (λ z. Ended s ls (a + 1) b z L) (sym (emit_goes r t w.live.goes l))
        (ended x.after (more w.way x.step) (live_more r t ls₁ x.after w.live x.step) x.holds (omega arith) (omega arith)
        (omega arith) (length_redo_record t.due r t.pages ∙ w.size))
    go (no! l) x =
        let g = false_lt 0 t.room l in
        let y₁ = w.records in
        subst (λ z. Ended s ls (a + 1) b z L) (sym (emit_stops r t w.live.goes l)) (short (halt_short t) (inl (omega arith)))

-- ---- the leaf that covers k

no_levels : (ds : List (List Node)) → length ds ≡ 0 → ds ≡ []
no_levels [] e = refl
no_levels (d ∷ ds) e = absurd (omega (arith, e))

-- A place at level 0 is a leaf.
pub leaf_whole : (k : ℕ) (ls ups : List (List Node)) (xs : List Node) (n : Node) (ys : List Node) → (p : Place k ls ups xs n ys 0)
    → ls ≡ ups ++ (xs ++ n ∷ ys) ∷ []
leaf_whole k ls ups xs n ys p = p.whole ∙ ap (λ z. ups ++ (xs ++ n ∷ ys) ∷ z) (no_levels p.downs p.depth)

leaf_covers : (k : ℕ) (t : Run) (ls ups : List (List Node)) (xs : List Node) (n : Node) (ys : List Node) → Live t ls → Place k ls ups xs n ys 0
    → Covers k true 0 xs n ys (suc top)
leaf_covers k t ls ups xs n ys v p =
    let lv = subst (Levels t.pages) (leaf_whole k ls ups xs n ys p) v.rules.levels in
    covers_at true k xs n ys (levels_at t.pages ups (xs ++ n ∷ ys) [] lv).chain p.low p.high

pub put_last : (kind : Kind) (batch previous k v page : ℕ) (t : Run) (ls : List (List Node)) → Adding kind → Live t ls → LeafAt k page ls
    → look k (leaves ls) ≡ none
    → Last t ls (data_row kind batch previous page k v) (insert_sorted k v (leaves ls))
put_last kind batch previous k v page t ls ad w x ab =
    let n = x.node in
    let wh = leaf_whole k ls x.ups x.xs n x.ys x.place in
    let c = leaf_covers k t ls x.ups x.xs n x.ys w x.place in
    let lf : leaves ls ≡ flat (x.xs ++ n ∷ x.ys) = ap leaves wh ∙ leaves_last x.ups (x.xs ++ n ∷ x.ys) in
    let lk : look k n.items ≡ none = sym (look_leaf k 0 x.xs n x.ys (suc top) c) ∙ ap (look k) (sym lf) ∙ ab in
    let n' = with_items (insert_sorted k v n.items) n in
    let T' = x.ups ++ (x.xs ++ n' ∷ x.ys) ∷ [] in
    record {
      after = T';
      step = subst (λ z. Step t.pages z (data_row kind batch previous page k v) T') (sym wh)
          (subst (λ z. Step t.pages (x.ups ++ (x.xs ++ n ∷ x.ys) ∷ []) (data_row kind batch previous z k v) T') (sym x.is_page)
          (puts kind batch previous k v x.ups x.xs n x.ys ad x.place.low x.place.high lk x.space));
      holds = leaves_last x.ups (x.xs ++ n' ∷ x.ys) ∙ insert_leaf k v 0 x.xs n n' x.ys (suc top) c refl ∙ ap (insert_sorted k v) (sym lf);
      count = counted_same x.ups (x.xs ++ n ∷ x.ys) (x.xs ++ n' ∷ x.ys) [] (length_mid x.xs n' n x.ys) ∙ ap counted (sym wh);
    }

cut_sized : (ups : List (List Node)) (xs : List Node) (n m : Node) (ys : List Node) → Direct ups xs n ys → (5 ≤ length n.items) ⊎ (ups ≡ [])
    → suc (length m.items) ≡ length n.items → length n.items ≤ room
    → SizedLevel ups 0 (xs ++ n ∷ ys) → SizedLevel ups 0 (xs ++ m ∷ ys)
unfolding SizedLevel All root_least Direct
cut_sized ups xs n m ys d (inl h) e s f = sized_less ups 0 xs n m ys (omega arith) (omega arith) f
cut_sized [] xs n m ys d (inr u) e s f = rw (d.0, d.1) ((omega arith, omega arith), tt)
cut_sized (v ∷ ups) xs n m ys d (inr u) e s f = let z : suc (length ups) ≡ 0 = ap length u in absurd (omega (arith, z))

pub cut_last : (kind : Kind) (batch previous k v u page : ℕ) (t : Run) (ls : List (List Node)) → Removing kind v u → Live t ls → Rich k 0 page ls
    → look k (leaves ls) ≡ some u
    → Last t ls (data_row kind batch previous page k v) (remove_key k (leaves ls))
cut_last kind batch previous k v u page t ls rm w rc there =
    let x = rc.stand in
    let n = x.node in
    let wh = leaf_whole k ls x.ups x.xs n x.ys x.place in
    let c = leaf_covers k t ls x.ups x.xs n x.ys w x.place in
    let lf : leaves ls ≡ flat (x.xs ++ n ∷ x.ys) = ap leaves wh ∙ leaves_last x.ups (x.xs ++ n ∷ x.ys) in
    let lk : look k n.items ≡ some u = sym (look_leaf k 0 x.xs n x.ys (suc top) c) ∙ ap (look k) (sym lf) ∙ there in
    let n' = with_items (remove_key k n.items) n in
    let T' = x.ups ++ (x.xs ++ n' ∷ x.ys) ∷ [] in
    let len = remove_length k u n.items lk in
    let sm = place_small t.pages k ls x.ups x.xs n x.ys 0 x.place w.rules.levels in
    record {
      after = T';
      step = subst (λ z. Step t.pages z (data_row kind batch previous page k v) T') (sym wh)
          (subst (λ z. Step t.pages (x.ups ++ (x.xs ++ n ∷ x.ys) ∷ []) (data_row kind batch previous z k v) T') (sym x.is_page)
          (cuts kind batch previous k v u x.ups x.xs n x.ys rm x.place.low x.place.high lk
          (cut_sized x.ups x.xs n n' x.ys x.direct rc.rich len sm (sizes_at x.ups (x.xs ++ n ∷ x.ys) [] (subst Sizes wh w.rules.sizes)))));
      holds = leaves_last x.ups (x.xs ++ n' ∷ x.ys) ∙ remove_leaf k 0 x.xs n n' x.ys (suc top) c refl ∙ ap (remove_key k) (sym lf);
      count = counted_same x.ups (x.xs ++ n ∷ x.ys) (x.xs ++ n' ∷ x.ys) [] (length_mid x.xs n' n x.ys) ∙ ap counted (sym wh);
    }
