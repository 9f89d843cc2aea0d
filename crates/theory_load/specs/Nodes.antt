-- A LEVEL THAT A LOADING BUILDS from groups of rising entries: its entries, its covers, and what the level above has for it.
use Rattle.std.specs.Prelude.{ℕ, suc, ◌≤◌, ◌<◌, ◌≡◌, refl, Bool, true, false, List, [], ◌∷◌, ◌++◌, length}
use Rattle.std.proofs.Common.{sym, ap, ◌∙◌, subst, append-nil, arith}
use Rattle.def_layout.specs.declared.Entry.{Entry}
use Rattle.def_layout.specs.Entries.{top}
use Rattle.def_model.specs.Fit.{after}
use Rattle.def_model.specs.TreeRules.{Node, flat}
use Rattle.def_model.specs.Loading.{last_key, group_nodes, links}
use Rattle.theory_tree.specs.Order.Keys.{Rising, after_append, rising_cut, after_grows}
use Rattle.theory_tree.specs.Shape.Levels.{Match, done, one, Ends, ChainOk}
use Rattle.theory_load.specs.Groups.{joined, Sized}

-- ---- its entries

pub nodes_flat : (p : ℕ) (gs : List (List Entry)) → flat (group_nodes p gs) ≡ joined gs
unfolding flat group_nodes joined
nodes_flat p [] = refl
nodes_flat p (g ∷ []) = refl
nodes_flat p (g ∷ h ∷ gs) = ap (g ++◌) (nodes_flat (suc p) (h ∷ gs))

pub nodes_length : (p : ℕ) (gs : List (List Entry)) → length (group_nodes p gs) ≡ length gs
unfolding group_nodes
nodes_length p [] = refl
nodes_length p (g ∷ []) = refl
nodes_length p (g ∷ h ∷ gs) = ap suc (nodes_length (suc p) (h ∷ gs))

-- ---- its covers

-- After a group comes the key above its last.
last_after : (from : ℕ) (g : List Entry) → 0 < length g → after from g ≡ suc (last_key g)
unfolding after last_key
last_after from [] h = absurd (omega arith)
last_after from (e ∷ []) h = refl
last_after from (e ∷ f ∷ es) h = last_after (suc e.key) (f ∷ es) (omega arith)

-- Keys rise, so there is one at least from `from` on.
first_above : (from : ℕ) (g : List Entry) → 0 < length g → Rising from g → from < after from g
unfolding Rising after
first_above from [] h r = absurd (omega arith)
first_above from (e ∷ es) h r = let a = r.0 in let b = after_grows (suc e.key) es r.1 in omega arith

ends_both : (b : Bool) (a h : ℕ) → a ≡ suc h → Ends b a h
ends_both true a h e = omega arith
ends_both false a h e = e

-- The last group ends at top: an index's last key is top.
pub ends_top : (b : Bool) (a : ℕ) → a ≤ suc top → (b ≡ false → a ≡ suc top) → Ends b a top
ends_top true a l e = l
ends_top false a l e = e refl

pub nodes_chain : (b : Bool) (p from : ℕ) (gs : List (List Entry)) → 0 < length gs → Sized gs → Rising from (joined gs) → after from (joined gs) ≤ suc top → (b ≡ false → after from (joined gs) ≡ suc top)
    → ChainOk b from (group_nodes p gs) (suc top)
unfolding ChainOk group_nodes Sized joined
nodes_chain b p from [] n z r l e = absurd (omega arith)
nodes_chain b p from (g ∷ []) n z r l e =
    let q = append-nil g in
    let r' : Rising from g = subst (Rising from) q r in
    let a : after from (g ++ []) ≡ after from g = ap (after from) q in
    let s = z.0 in
    let f = first_above from g (omega arith) r' in
    (record { covers = omega arith; rises = r'; ends = ends_top b (after from g) (omega arith) (λ i. sym a ∙ e i) }, refl)
nodes_chain b p from (g ∷ h ∷ gs) n z r l e =
    let (r₁, r₂) = rising_cut from g (joined (h ∷ gs)) r in
    let s = z.0 in
    let k = last_after from g (omega arith) in
    let f = first_above from g (omega arith) r₁ in
    let a = after_append from g (joined (h ∷ gs)) in
    let a' : after from (g ++ joined (h ∷ gs)) ≡ after (suc (last_key g)) (joined (h ∷ gs)) = a ∙ ap (λ m. after m (joined (h ∷ gs))) k in (
      record { covers = omega arith; rises = r₁; ends = ends_both b (after from g) (last_key g) k },
      nodes_chain b (suc p) (suc (last_key g)) (h ∷ gs) (omega arith) z.2 (subst (λ m. Rising m (joined (h ∷ gs))) k r₂) (omega arith) (λ i. sym a' ∙ e i),
    )

-- ---- the level above

pub links_match : (ns : List Node) → Match (links ns) ns
unfolding links
links_match [] = done
links_match (n ∷ ns) = one refl refl (links_match ns)

pub links_length : (ns : List Node) → length (links ns) ≡ length ns
unfolding links
links_length [] = refl
links_length (n ∷ ns) = ap suc (links_length ns)

pub links_rise : (b : Bool) (from to : ℕ) (ns : List Node) → ChainOk b from ns to → Rising from (links ns) × (after from (links ns) ≡ to)
unfolding ChainOk links Rising after
links_rise b from to [] h = (tt, h)
links_rise b from to (n ∷ ns) h = let (r, a) = links_rise b (suc n.high) to ns h.1 in ((h.0.covers, r), a)
