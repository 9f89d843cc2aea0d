-- Within 896 pages there are at most 6 levels.
use Rattle.std.specs.Prelude.{ℕ, zero, suc, ◌+◌, ◌*◌, ◌≤◌, ◌<◌, ◌≡◌, refl, List, [], ◌∷◌, ◌++◌, length, eqb}
use Rattle.std.proofs.Common.{arith, mul-le-mul_left, length-append}
use Rattle.std.proofs.Math.Decide.{dec_le}
use Rattle.std.proofs.Math.Dec.{eqb-suc-zero}
use Rattle.def_base.specs.Tests.{pick}
use Rattle.def_layout.specs.declared.Entry.{Entry}
use Rattle.def_layout.specs.Pages.{Page, at, map_bits}
use Rattle.def_model.specs.TreeRules.{Node, flat, first_page, least, counted, root_least}
use Rattle.theory_tree.specs.Shape.Levels.{Match, done, one, two}
use Rattle.theory_tree.specs.Shape.Chains.{All}
use Rattle.theory_tree.specs.Shape.Trees.{Joined, Every}
use Rattle.theory_tree.specs.Shape.Marks.{ones_le}
use Rattle.theory_tree.specs.Shape.Sizes.{Sized, SizedLevel, Sizes}
use Rattle.theory_tree.specs.Shape.Rules.{Rooted, Rules}

-- ---- what so many levels hold at least

abbrev pub Big : Node → Type 0
Big n = least ≤ length n.items

pub match_length : {es : List Entry} {ns : List Node} → Match es ns → length es ≤ length ns
match_length done = omega arith
match_length (one a b h) = let i = match_length h in omega arith
match_length (two a b c h) = let i = match_length h in omega arith

pub flat_big : (ns : List Node) → All Big ns → 4 * length ns ≤ length (flat ns)
unfolding flat All
flat_big [] a = omega arith
flat_big (n ∷ ns) a = let i = flat_big ns a.1 in let b = a.0 in rw length-append (omega arith)

-- Each level matched against the next, pages below the first level of at least 4 entries.
unfoldable pub Stacked : List Node → List (List Node) → Type 0
Stacked upper [] = Unit {0}
Stacked upper (lower ∷ rest) = Match (flat upper) lower × All Big lower × Stacked lower rest

unfoldable pub total : List (List Node) → ℕ
total [] = 0
total (l ∷ ls) = length l + total ls

-- 1 + 4 + 16 + .. : what n levels below a page hold at least.
unfoldable pub geo : ℕ → ℕ
geo zero = 1
geo (suc h) = 1 + 4 * geo h

pub many : (upper : List Node) (rest : List (List Node)) → All Big upper → Stacked upper rest
    → geo (length rest) * length upper ≤ total (upper ∷ rest)
unfolding geo total Stacked
many upper [] a s = omega arith
many upper (lower ∷ rest) a s =
    let i = many lower rest s.1 s.2 in
    let m = match_length s.0 in
    let f = flat_big upper a in
    let l : 4 * length upper ≤ length lower = omega arith in
    let g : geo (length rest) * (4 * length upper) ≤ geo (length rest) * length lower = mul-le-mul_left (geo (length rest)) l in
    omega arith

geo_mono : (h k : ℕ) → h ≤ k → geo h ≤ geo k
unfolding geo
geo_mono zero zero l = omega arith
geo_mono zero (suc k) l = omega arith
geo_mono (suc h) zero l = absurd (omega arith)
geo_mono (suc h) (suc k) l = let i = geo_mono h k (omega arith) in omega arith

-- A root with at least one entry, and no more than 895 pages.
pub six_levels : (root : List Node) (rest : List (List Node)) → 0 < length (flat root) → Stacked root rest → total (root ∷ rest) ≤ 895
    → length rest ≤ 5
unfolding total Stacked geo
six_levels root [] p s t = omega arith
six_levels root (lower ∷ rest) p s t = go (dec_le (length rest) 4)
  where
    go : Dec (length rest ≤ 4) → suc (length rest) ≤ 5
    go (yes q) = omega arith
    go (no q) =
        let i = many lower rest s.1 s.2 in
        let m = match_length s.0 in
        let g : geo (length rest) * 1 ≤ geo (length rest) * length lower = mul-le-mul_left (geo (length rest)) (omega arith) in
        let c : 1365 ≤ geo (length rest) = geo_mono 5 (length rest) (omega arith) in
        absurd (omega arith)

-- ---- from the rules

stacked : (upper : List Node) (rest : List (List Node)) → Joined (upper ∷ rest) → Every (Sized least) rest → Stacked upper rest
unfolding Joined Every Stacked All
stacked upper [] j e = tt
stacked upper (lower ∷ rest) j e = (j.0, big lower e.0, stacked lower rest j.1 e.1)
  where
    big : (ns : List Node) → All (Sized least) ns → All Big ns
    big [] a = tt
    big (n ∷ ns) a = (a.0.1, big ns a.1)

counted_total : (ls : List (List Node)) → counted ls ≡ suc (total ls)
unfolding counted total
counted_total [] = refl
counted_total (l ∷ ls) = let i = counted_total ls in omega arith

root_flat : (d : ℕ) (r : List Node) → first_page r 0 ≡ 1 → All (Sized (root_least (suc d) r)) r → 0 < length (flat r)
unfolding All root_least flat first_page
root_flat d [] e a = let z : ◌≡◌ {A = ℕ} 0 1 = e in absurd (omega (arith, z))
root_flat d (n ∷ []) e a = let z : pick (eqb (suc d) 0) 0 1 ≤ length n.items = a.0.1 in let z' : 1 ≤ length n.items = rw (eqb-suc-zero d) at z in let y = length-append n.items [] in omega arith
root_flat d (n ∷ m ∷ []) e a = let z = a.0.1 in let y = length-append n.items (flat (m ∷ [])) in omega arith
root_flat d (n ∷ m ∷ o ∷ ns) e a = let z = a.0.1 in let y = a.0.0 in absurd (omega arith)

pub height : (pages : List Page) (r : List Node) (rest : List (List Node)) → Rules pages (r ∷ rest) → length pages ≤ map_bits → length rest ≤ 5
unfolding Sizes SizedLevel Rooted
height pages r [] k h = omega arith
height pages r (l ∷ rest) k h =
    let c = counted_total (r ∷ l ∷ rest) in
    let o = ones_le (length pages) (at pages 0).marks in
    let m = k.mapped.count in
    six_levels r (l ∷ rest) (root_flat (length rest) r k.rooted k.sizes.0) (stacked r (l ∷ rest) k.joined k.sizes.1) (omega arith)

pub few_levels : (pages : List Page) (ls : List (List Node)) → Rules pages ls → length pages ≤ map_bits → length ls ≤ 6
few_levels pages [] k h = omega arith
few_levels pages (r ∷ rest) k h = let a = height pages r rest k h in omega arith

-- A level's number is small.
pub level_below : (pages : List Page) (ups : List (List Node)) (ns : List Node) (downs : List (List Node)) → Rules pages (ups ++ ns ∷ downs)
    → length pages ≤ map_bits → length downs < 6
level_below pages ups ns downs k h =
    let a = few_levels pages (ups ++ ns ∷ downs) k h in
    let b = length-append ups (ns ∷ downs) in
    omega arith
