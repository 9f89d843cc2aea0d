-- How many entries the pages of a level hold: the root's level by its own rule, the others 4 to 14.
use Rattle.std.specs.Prelude.{ℕ, zero, suc, ◌≤◌, ◌≡◌, refl, List, [], ◌∷◌, ◌++◌, length}
use Rattle.std.proofs.Common.{sym, ◌∙◌, append_assoc, arith, length-append}
use Rattle.std.proofs.Math.Dec.{eqb-suc-zero}
use Rattle.def_layout.specs.Sizes.{room}
use Rattle.def_model.specs.TreeRules.{Node, least, root_least}
use Rattle.theory_tree.specs.Shape.Chains.{All}
use Rattle.theory_tree.specs.Shape.Trees.{Every, all_mid}

-- A level: its chain, and its pages' sizes.
-- A page of at least so many entries, and at most 14.
abbrev pub Sized : ℕ → Node → Type 0
Sized least n = (length n.items ≤ room) × (least ≤ length n.items)

-- What a level owes: the root's level by its own rule, the others 4 to 14. (Levels above it, number of levels below it, the level.)
unfoldable pub SizedLevel : List (List Node) → ℕ → List Node → Type 0
SizedLevel [] d ns = All (Sized (root_least d ns)) ns
SizedLevel (u ∷ us) d ns = All (Sized least) ns

unfoldable pub Sizes : List (List Node) → Type 0
Sizes [] = ⊥
Sizes (r ∷ rest) = SizedLevel [] (length rest) r × Every (Sized least) rest

-- ---- one level of the sizes

every_at : (P : Node → Type 0) (ups : List (List Node)) (ns : List Node) (downs : List (List Node)) → Every P (ups ++ ns ∷ downs) → All P ns
unfolding Every
every_at P [] ns downs e = e.0
every_at P (u ∷ ups) ns downs e = every_at P ups ns downs e.1

pub every_swap : (P : Node → Type 0) (ups : List (List Node)) (old new : List Node) (downs : List (List Node)) → (All P old → All P new)
    → Every P (ups ++ old ∷ downs) → Every P (ups ++ new ∷ downs)
unfolding Every
every_swap P [] old new downs f e = (f e.0, e.1)
every_swap P (u ∷ ups) old new downs f e = (e.0, every_swap P ups old new downs f e.1)

pub sizes_at : (ups : List (List Node)) (ns : List Node) (downs : List (List Node)) → Sizes (ups ++ ns ∷ downs) → SizedLevel ups (length downs) ns
unfolding Sizes SizedLevel
sizes_at [] ns downs s = s.0
sizes_at (u ∷ ups) ns downs s = every_at (Sized least) ups ns downs s.1

pub sizes_swap : (ups : List (List Node)) (old new : List Node) (downs : List (List Node)) → SizedLevel ups (length downs) new
    → Sizes (ups ++ old ∷ downs) → Sizes (ups ++ new ∷ downs)
unfolding Sizes SizedLevel
sizes_swap [] old new downs f s = (f, s.1)
sizes_swap (u ∷ ups) old new downs f s =
    let e : length (ups ++ new ∷ downs) ≡ length (ups ++ old ∷ downs) = length-append ups (new ∷ downs) ∙ sym (length-append ups (old ∷ downs)) in
    (rw e s.0, every_swap (Sized least) ups old new downs (λ z. f) s.1)

-- A level under another.
pub sizes_below : (ups : List (List Node)) (u ns : List Node) (downs : List (List Node)) → Sizes (ups ++ u ∷ ns ∷ downs) → All (Sized least) ns
unfolding Sizes Every
sizes_below [] u ns downs s = s.1.0
sizes_below (v ∷ ups) u ns downs s = every_at (Sized least) (ups ++ u ∷ []) ns downs (rw (append_assoc ups (u ∷ []) (ns ∷ downs)) s.1)

-- ---- one page of a level grows or shrinks

least_mid : (d : ℕ) (xs : List Node) (n m : Node) (ys : List Node) → root_least d (xs ++ n ∷ ys) ≡ root_least d (xs ++ m ∷ ys)
unfolding root_least
least_mid d [] n m [] = refl
least_mid d [] n m (y ∷ []) = refl
least_mid d [] n m (y ∷ z ∷ ys) = refl
least_mid d (x ∷ []) n m [] = refl
least_mid d (x ∷ []) n m (y ∷ ys) = refl
least_mid d (x ∷ w ∷ []) n m ys = refl
least_mid d (x ∷ w ∷ v ∷ xs) n m ys = refl

-- A page that does not shrink, and has room.
pub sized_more : (ups : List (List Node)) (d : ℕ) (xs : List Node) (n m : Node) (ys : List Node) → length m.items ≤ room
    → length n.items ≤ length m.items
    → SizedLevel ups d (xs ++ n ∷ ys) → SizedLevel ups d (xs ++ m ∷ ys)
unfolding SizedLevel
sized_more [] d xs n m ys r g f = rw (least_mid d xs m n ys) (all_mid (Sized (root_least d (xs ++ n ∷ ys))) xs n m ys (λ z. let w = z.1 in (r, omega arith)) f)
sized_more (u ∷ us) d xs n m ys r g f = all_mid (Sized least) xs n m ys (λ z. let w = z.1 in (r, omega arith)) f

pub least_one : (d : ℕ) (m : Node) → least ≤ length m.items → root_least d (m ∷ []) ≤ length m.items
unfolding root_least
least_one zero m g = omega arith
least_one (suc d) m g = rw (eqb-suc-zero d) (omega arith)

-- A page that shrinks, and has at least 4 left, where the root's level is not one of three.
pub sized_less : (ups : List (List Node)) (d : ℕ) (xs : List Node) (n m : Node) (ys : List Node) → least ≤ length m.items
    → length m.items ≤ room
    → SizedLevel ups d (xs ++ n ∷ ys) → SizedLevel ups d (xs ++ m ∷ ys)
unfolding SizedLevel root_least All
sized_less (u ∷ us) d xs n m ys g r f = all_mid (Sized least) xs n m ys (λ z. (r, g)) f
sized_less [] d [] n m [] g r f = ((r, least_one d m g), tt)
sized_less [] d [] n m (y ∷ []) g r f = ((r, g), f.1)
sized_less [] d [] n m (y ∷ z ∷ ys) g r f = let a = f.0.0 in let b = f.0.1 in absurd (omega arith)
sized_less [] d (x ∷ []) n m [] g r f = (f.0, ((r, g), tt))
sized_less [] d (x ∷ []) n m (y ∷ ys) g r f = let a = f.0.0 in let b = f.0.1 in absurd (omega arith)
sized_less [] d (x ∷ w ∷ []) n m ys g r f = let a = f.0.0 in let b = f.0.1 in absurd (omega arith)
sized_less [] d (x ∷ w ∷ v ∷ xs) n m ys g r f = let a = f.0.0 in let b = f.0.1 in absurd (omega arith)
