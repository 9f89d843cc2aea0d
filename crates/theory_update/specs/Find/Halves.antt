-- The place that leads to k after a split of its node.
use Rattle.std.specs.Prelude.{ℕ, suc, ◌≤◌, ◌<◌, ◌≡◌, refl}
use Rattle.std.proofs.Math.Path.{sym, ap, subst}
use Rattle.std.proofs.Common.{◌∙◌, arith}
use mathlib.Core.List.{List, [], ◌∷◌, ◌++◌, append_assoc, append-nil}
use Rattle.def_layout.specs.declared.Entry.{Entry}
use Rattle.def_layout.specs.Pages.{Page}
use Rattle.def_model.specs.Change.{kept}
use Rattle.def_model.specs.Fit.{after}
use Rattle.def_model.specs.TreeRules.{Node, flat}
use Rattle.theory_tree.specs.Order.Keys.{Rising, after_append, rising_cut, after_grows}
use Rattle.theory_tree.specs.Shape.Levels.{flat_append, Match, match_from}
use Rattle.theory_tree.specs.Change.LevelChanges.{Splits}
use Rattle.theory_tree.specs.Shape.Trees.{Levels}
use Rattle.theory_tree.specs.Change.Split.{left_half, right_half}
use Rattle.theory_update.specs.Find.Places.{Spot, index_node}

pub data Halves (L R pre : List Entry) (e : Entry) (post : List Entry) : Type 0 where
  in_left : (rest : List Entry) → L ≡ pre ++ e ∷ rest → post ≡ rest ++ R → Halves L R pre e post
  in_right : (rest : List Entry) → pre ≡ L ++ rest → R ≡ rest ++ e ∷ post → Halves L R pre e post

pub uncons : {A : Type 0} {a b : A} {l m : List A} → a ∷ l ≡ b ∷ m → (a ≡ b) × (l ≡ m)
uncons {a = a} {l = l} p = (ap (λ z. elim z [ [] ↦ a | x ∷ xs ↦ x ]) p, ap (λ z. elim z [ [] ↦ l | x ∷ xs ↦ xs ]) p)

pub halves : (L R pre : List Entry) (e : Entry) (post : List Entry) → L ++ R ≡ pre ++ e ∷ post → Halves L R pre e post
halves [] R pre e post w = in_right pre refl w
halves (x ∷ L) R [] e post w = let (a, b) = uncons w in in_left L (ap (◌∷ L) a) (sym b)
halves (x ∷ L) R (y ∷ pre) e post w = go (halves L R pre e post (uncons w).1)
  where
    go : Halves L R pre e post → Halves (x ∷ L) R (y ∷ pre) e post
    go (in_left rest a b) = in_left rest (λ i. (uncons w).0 i ∷ a i) b
    go (in_right rest a b) = in_right rest (λ i. sym (uncons w).0 i ∷ a i) b

-- The left half ends in its high key.
left_end : (L : List Entry) (pre : List Entry) (e : Entry) (rest : List Entry) (from key : ℕ) → L ≡ pre ++ e ∷ rest → Rising from L
    → after from L ≡ suc key → e.key ≤ key
unfolding after Rising
left_end L pre e rest from key w r a =
    let r' = subst (Rising from) w r in
    let a' : after from (pre ++ e ∷ rest) ≡ suc key = ap (after from) (sym w) ∙ a in
    let b = after_append from pre (e ∷ rest) in
    let g = after_grows (suc e.key) rest (rising_cut from pre (e ∷ rest) r').1.1 in
    omega arith

module _ (pages : List Page) (k : ℕ) (ls ups : List (List Node)) (xs : List Node) (n : Node) (ys : List Node) (e : Entry) (mid : List Node) (l : ℕ) (p : Spot k ls ups xs n ys e mid l) (lv : Levels pages ls)
    (b key : ℕ) (moved : List Entry) (s : Splits n (left_half n key moved) (right_half n b moved)) where
  abbrev after_split : List (List Node)
  after_split = ups ++ (xs ++ left_half n key moved ∷ right_half n b moved ∷ ys) ∷ (p.bs ++ (mid ++ p.cs)) ∷ p.downs

  cut : Halves (kept moved n.items) moved p.pre e p.post
  cut = halves (kept moved n.items) moved p.pre e p.post (sym s.same_items ∙ p.items)

  rises_left : Rising (after 0 (flat xs)) (kept moved n.items)
  rises_left =
      let o = index_node pages ups xs n ys (p.bs ++ (mid ++ p.cs)) p.downs (subst (Levels pages) p.whole lv) in
      (rising_cut (after 0 (flat xs)) (kept moved n.items) moved (subst (Rising (after 0 (flat xs))) s.same_items o.rises)).0

  pub spot_left : k ≤ key → Spot k after_split ups xs (left_half n key moved) (right_half n b moved ∷ ys) e mid l
  unfolding flat
  spot_left h = go cut
    where
      go : Halves (kept moved n.items) moved p.pre e p.post
          → Spot k after_split ups xs (left_half n key moved) (right_half n b moved ∷ ys) e mid l
      go (in_left rest x y) =
          record {
            bs = p.bs;
            cs = p.cs;
            downs = p.downs;
            pre = p.pre;
            post = rest;
            whole = refl;
            depth = p.depth;
            items = x;
            before = p.before;
            here = p.here;
            beyond = subst (λ z. Match z p.cs) (ap (◌++ flat ys) y ∙ append_assoc rest moved (flat ys)) p.beyond;
            low = p.low;
            high = p.high;
          }
      go (in_right rest x y) =
          -- then the entries before e reach above k
          let a = match_from 0 p.before in
          let b₁ = after_append 0 (flat xs) p.pre in
          let b₂ : after (after 0 (flat xs)) p.pre ≡ after (after (after 0 (flat xs)) (kept moved n.items)) rest = ap (after (after 0 (flat xs))) x ∙ after_append (after 0 (flat xs)) (kept moved n.items) rest in
          let b₃ = s.last_key (after 0 (flat xs)) in
          let o = index_node pages ups xs n ys (p.bs ++ (mid ++ p.cs)) p.downs (subst (Levels pages) p.whole lv) in
          let r₁ = (rising_cut (after 0 (flat xs)) (kept moved n.items) moved (subst (Rising (after 0 (flat xs))) s.same_items o.rises)).1 in
          let r₂ = (rising_cut (after (after 0 (flat xs)) (kept moved n.items)) rest (e ∷ p.post) (subst (Rising (after (after 0 (flat xs)) (kept moved n.items))) y r₁)).0 in
          let g = after_grows (after (after 0 (flat xs)) (kept moved n.items)) rest r₂ in
          let c = p.low in
          absurd (omega arith)

  pub spot_right : key < k → Spot k after_split ups (xs ++ left_half n key moved ∷ []) (right_half n b moved) ys e mid l
  unfolding flat
  spot_right h = go cut
    where
      go : Halves (kept moved n.items) moved p.pre e p.post
          → Spot k after_split ups (xs ++ left_half n key moved ∷ []) (right_half n b moved) ys e mid l
      go (in_left rest x y) =
          let z = left_end (kept moved n.items) p.pre e rest (after 0 (flat xs)) key x rises_left (s.last_key (after 0 (flat xs))) in
          let c = p.high in
          absurd (omega arith)
      go (in_right rest x y) =
          let w : flat xs ++ p.pre ≡ flat (xs ++ left_half n key moved ∷ []) ++ rest
          = ap (flat xs ++◌) x ∙ sym (append_assoc (flat xs) (kept moved n.items) rest)
          ∙ ap (◌++ rest) (ap (flat xs ++◌) (sym (append-nil (kept moved n.items))) ∙ sym (flat_append xs (left_half n key moved ∷ []))) in
          record {
            bs = p.bs;
            cs = p.cs;
            downs = p.downs;
            pre = rest;
            post = p.post;
            whole = ap (λ z. ups ++ z ∷ (p.bs ++ (mid ++ p.cs)) ∷ p.downs) (sym (append_assoc xs (left_half n key moved ∷ []) (right_half n b moved ∷ ys)));
            depth = p.depth;
            items = y;
            before = subst (λ z. Match z p.bs) w p.before;
            here = p.here;
            beyond = p.beyond;
            low = p.low;
            high = p.high;
          }
