-- The layout of a page (refusal 3): of a node's page, of the map after a mark, and of a page freed.
use Rattle.std.specs.Prelude.{ℕ, zero, suc, ◌%◌, ◌≤◌, ◌<◌, ◌≡◌, refl, Bool, true, false, not, ◌&&◌, List, [], ◌∷◌, ◌++◌, length, drop, set, leb, ltb, eqb}
use Rattle.std.proofs.Common.{sym, ap, ◌∙◌, arith, drop-set-lt}
use Rattle.std.proofs.Math.Dec.{eqb-suc-zero}
use Rattle.def_base.specs.Tests.{clash, lt_true, true_eq, eq_true, neq_false, le_true, and_true, and_both, any}
use Rattle.def_layout.specs.declared.Entry.{Entry}
use Rattle.def_layout.specs.Entries.{ten_bits}
use Rattle.def_layout.specs.Sizes.{room}
use Rattle.def_layout.specs.Pages.{Page, freed, zero_page, at, map_bits, own_ok, never_used, bare, layout_by, layout}
use Rattle.def_layout.specs.declared.page.PageKind.{PageKind}
use Rattle.def_layout.specs.declared.page.PageKind.TheVariants.{Free, Leaf, Index, Map}
use Rattle.def_layout.specs.Rows.{level_bits}
use Rattle.def_model.specs.Change.{with_lsn, with_marks, entries_in, cut_to_size}
use Rattle.def_model.specs.TreeRules.{Node, first_page}
use Rattle.theory_tree.specs.Shape.Chains.{IsNode}
use Rattle.theory_tree.specs.Shape.Trees.{joined_cut, levels_at, all_cut, page_at}
use Rattle.theory_tree.specs.Shape.Rules.{Rules}
use Rattle.theory_fit.specs.Children.{below_of}
use Rattle.theory_pages.specs.Rows.{node_level_bits}

-- Every page keeps its layout.
abbrev pub Laid : List Page → Type 0
Laid pages = (p : ℕ) → p < length pages → layout (length pages) p (at pages p) ≡ true

-- ---- the pages of the tree

-- A node's page carries its own number.
pub node_own : (n p : ℕ) (x : Page) (l next : ℕ) (m : Node) → IsNode x l next m → layout n p x ≡ true → x.own ≡ p
unfolding layout layout_by own_ok
node_own n p x zero next m i t =
    let u : ltb 0 p && (eqb x.own p && (eqb x.level 0 && leb (length x.entries) room)) ≡ true = rw i.kind at t in
    true_eq x.own p (and_true (eqb x.own p) _ (and_true (ltb 0 p) _ u).1).0
node_own n p x (suc l) next m i t =
    let u : ltb 0 p && (eqb x.own p && (ltb 0 x.level && (leb (length x.entries) room && ten_bits x.entries))) ≡ true = rw (i.kind, eqb-suc-zero l) at t in
    true_eq x.own p (and_true (eqb x.own p) _ (and_true (ltb 0 p) _ u).1).0

-- A node's page that carries its own number keeps its layout.
pub node_layout : (pages : List Page) (ups : List (List Node)) (xs : List Node) (n : Node) (ys : List Node) (downs : List (List Node))
    → length pages ≤ map_bits → Rules pages (ups ++ (xs ++ n ∷ ys) ∷ downs)
    → (at pages n.page).own ≡ n.page → layout (length pages) n.page (at pages n.page) ≡ true
unfolding layout layout_by own_ok
node_layout pages ups xs n ys downs few k o = go downs (page_at pages ups xs n ys downs k.levels) bits
  where
    bits : level_bits (length downs) n.items ≡ true
    bits = node_level_bits pages xs n ys downs few (below_of pages ups (xs ++ n ∷ ys) downs k.levels) (joined_cut ups (xs ++ n ∷ ys) downs k.joined).1

    small : length n.items ≤ room
    small = (all_cut (λ z. length z.items ≤ room) xs n ys (levels_at pages ups (xs ++ n ∷ ys) downs k.levels).small).1

    go : (ds : List (List Node)) → (0 < n.page) × (n.page < length pages) × IsNode (at pages n.page) (length ds) (first_page ys 0) n
        → level_bits (length ds) n.items ≡ true
        → layout_by (at pages n.page).kind (length pages) n.page (at pages n.page) ≡ true
    go [] h b =
        let i = h.2 in
        rw (i.kind, lt_true 0 n.page h.0, eq_true (at pages n.page).own n.page o, eq_true (at pages n.page).level 0 i.level, i.items) (le_true (length n.items) room small)
    go (d ∷ ds) h b =
        let i = h.2 in
        let l = i.level in
        let t : ten_bits n.items ≡ true = rw (eqb-suc-zero (length ds)) at b in
        rw (i.kind, eqb-suc-zero (length ds), lt_true 0 n.page h.0, eq_true (at pages n.page).own n.page o, lt_true 0 (at pages n.page).level (omega arith), i.items, le_true (length n.items) room small) t

-- ---- the map

-- Page 0 is the map.
map_kind : (n : ℕ) (x : Page) → layout n 0 x ≡ true → x.kind ≡ Map
unfolding layout layout_by
map_kind n x t = go x.kind refl t
  where
    go : (k : PageKind) → x.kind ≡ k → layout_by k n 0 x ≡ true → x.kind ≡ Map
    go Free e t = clash (sym t)
    go Leaf e t = clash (sym t)
    go Index e t = clash (sym t)
    go Map e t = e

not_true : (b : Bool) → not b ≡ true → b ≡ false
not_true true e = clash (sym e)
not_true false e = refl

-- The parts of the map's layout.
pub record MapLaid (n : ℕ) (x : Page) : Type 0 where
  pub kind : x.kind ≡ Map
  pub own : x.own ≡ 0
  pub level : x.level ≡ 0
  pub right : x.right ≡ 0
  pub high : x.high ≡ 0
  pub none_held : x.entries ≡ []
  pub spare : any (λ b. b) (drop n x.marks) ≡ false

pub map_laid : (n : ℕ) (x : Page) → layout n 0 x ≡ true → MapLaid n x
unfolding layout layout_by own_ok
map_laid n x t =
    let k = map_kind n x t in
    let u : eqb x.own 0 && ((eqb x.level 0 && (eqb x.right 0 && (eqb x.high 0 && eqb (length x.entries) 0))) && not (any (λ b. b) (drop n x.marks))) ≡ true = rw k at t in
    let (a, u₁) = and_true (eqb x.own 0) _ u in
    let (b, c) = and_true (eqb x.level 0 && (eqb x.right 0 && (eqb x.high 0 && eqb (length x.entries) 0))) (not (any (λ b. b) (drop n x.marks))) u₁ in
    let (d, b₁) = and_true (eqb x.level 0) _ b in
    let (e, b₂) = and_true (eqb x.right 0) _ b₁ in
    let (f, g) = and_true (eqb x.high 0) _ b₂ in
    record { kind = k; own = true_eq _ _ a; level = true_eq _ _ d; right = true_eq _ _ e; high = true_eq _ _ f; none_held = no_entries x.entries (true_eq _ _ g); spare = not_true (any (λ b. b) (drop n x.marks)) c }
  where
    no_entries : (es : List Entry) → length es ≡ 0 → es ≡ []
    no_entries [] e = refl
    no_entries (y ∷ es) e = absurd (omega (arith, e))

pub map_layout : (n : ℕ) (x : Page) → MapLaid n x → layout n 0 x ≡ true
unfolding layout layout_by own_ok
map_layout n x m = rw (m.kind, eq_true x.own 0 m.own, eq_true x.level 0 m.level, eq_true x.right 0 m.right, eq_true x.high 0 m.high, m.none_held, m.spare)

-- A page below n is marked, or unmarked.
pub map_marked : (n num b : ℕ) (t : Bool) (x : Page) → b < n → layout n 0 x ≡ true
    → layout n 0 (with_lsn num (cut_to_size (with_marks (set x.marks b t) x))) ≡ true
unfolding entries_in cut_to_size
map_marked n num b t x h l =
    let m = map_laid n x l in
    map_layout n (with_lsn num (cut_to_size (with_marks (set x.marks b t) x)))
    (record {
      kind = m.kind;
      own = m.own;
      level = ap (λ z. z % 16) m.level;
      right = m.right;
      high = m.high;
      none_held = ap (λ z. entries_in z x.entries) m.kind;
      spare = ap (any (λ b. b)) (drop-set-lt n x.marks b t h) ∙ m.spare;
    })

-- ---- a page freed

pub freed_layout : (n num p o : ℕ) → 0 < p → o ≡ p → layout n p (with_lsn num (cut_to_size (freed o))) ≡ true
unfolding layout layout_by own_ok entries_in cut_to_size
freed_layout n num p o h e = rw (lt_true 0 p h, eq_true o p e)

-- ---- an area of more pages

pub never_used_layout : (n p : ℕ) → 0 < p → layout n p zero_page ≡ true
unfolding layout layout_by own_ok never_used
never_used_layout n p h = rw (lt_true 0 p h, neq_false {a = 0} {b = p} (omega arith))

-- Marks beyond n that are clear stay so beyond k.
pub spare_more : (n k : ℕ) (m : List Bool) → n ≤ k → any (λ b. b) (drop n m) ≡ false → any (λ b. b) (drop k m) ≡ false
unfolding any
spare_more zero zero m h e = e
spare_more zero (suc k) [] h e = refl
spare_more zero (suc k) (true ∷ m) h e = clash e
spare_more zero (suc k) (false ∷ m) h e = spare_more zero k m (omega arith) e
spare_more (suc n) zero m h e = absurd (omega arith)
spare_more (suc n) (suc k) [] h e = refl
spare_more (suc n) (suc k) (b ∷ m) h e = spare_more n k m (omega arith) e

-- Only the map's layout looks at the number of pages.
pub longer_layout : (n k p : ℕ) (x : Page) → n ≤ k → layout n p x ≡ true → layout k p x ≡ true
unfolding layout layout_by
longer_layout n k p x h t = go x.kind refl t
  where
    go : (j : PageKind) → x.kind ≡ j → layout_by j n p x ≡ true → layout_by j k p x ≡ true
    go Free e u = u
    go Leaf e u = u
    go Index e u = u
    go Map e u =
        let (a, u₁) = and_true (eqb p 0) _ u in
        let (b, u₂) = and_true (own_ok p x) _ u₁ in
        let (c, d) = and_true (bare x) (not (any (λ b. b) (drop n x.marks))) u₂ in
        and_both a (and_both b (and_both c (rw (spare_more n k x.marks h (not_true (any (λ b. b) (drop n x.marks)) d)))))
