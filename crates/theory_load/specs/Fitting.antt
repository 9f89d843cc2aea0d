-- EVERY NUMBER ON A LOADED PAGE FITS ITS FIELD: entries, high keys, page numbers and levels, where the records' do.
use Prim.Native.Nat.{ℕ, zero, suc, ◌+◌, ◌≤◌, ◌<◌}
use Rattle.std.specs.Prelude.{◌≡◌, false, leb}
use Rattle.std.proofs.Common.{sym, ap, ◌∙◌, subst, length-append}
use mathlib.Core.List.{List, [], ◌∷◌, ◌++◌, append-nil, append_assoc}
use native.Mathlib.Omega.{arith}
use Rattle.std.proofs.Math.Decide.{dec_lt}
use Rattle.std.proofs.Math.ListN.{length}
use Rattle.std.proofs.Math.Seq.{get_or-append_seam}
use Rattle.def_base.specs.Tests.{pick, Case, yes!, no!, case, true_le, false_le}
use Rattle.def_layout.specs.declared.Entry.{Entry}
use Rattle.def_layout.specs.Entries.{top}
use Rattle.def_layout.specs.Sizes.{room}
use Rattle.def_layout.specs.Pages.{Page, at, zero_page, node_at}
use Rattle.def_model.specs.TreeRules.{Node, first_page}
use Rattle.def_model.specs.Loading.{last_key, groups, group_count, group_nodes, links, tree_count, load_levels, level_pages, levels_pages}
use Rattle.theory_tree.specs.Shape.Chains.{All}
use Rattle.theory_load.specs.Groups as groups
use Rattle.theory_load.specs.Groups.{joined, groups_join, groups_sized, groups_count}
use Rattle.theory_load.specs.Nodes.{nodes_length, links_length}
use Rattle.theory_load.specs.Numbering.{Numbered, AllNumbered, total, nodes_numbered, level_length}

-- A value in a leaf has 32 bits, a child's number ten.
abbrev pub limit : (level : ℕ) → ℕ
limit zero = top
limit (suc l) = 1023

unfoldable pub Fine : (most : ℕ) → List Entry → Type 0
Fine v [] = Unit {0}
Fine v (e ∷ es) = (e.key ≤ top) × (e.val ≤ v) × Fine v es

pub record NodeFine (l : ℕ) (n : Node) : Type 0 where
  pub few : length n.items ≤ room
  pub high : n.high ≤ top
  pub items : Fine (limit l) n.items

unfoldable pub AllFine : List (List Node) → Type 0
AllFine [] = Unit {0}
AllFine (ns ∷ ls) = All (NodeFine (length ls)) ns × AllFine ls

fine_cut : (v : ℕ) (g h : List Entry) → Fine v (g ++ h) → Fine v g × Fine v h
unfolding Fine
fine_cut v [] h f = (tt, f)
fine_cut v (e ∷ g) h f = let (a, b) = fine_cut v g h f.2 in ((f.0, f.1, a), b)

fine_last : (v : ℕ) (g : List Entry) → Fine v g → last_key g ≤ top
unfolding Fine last_key
fine_last v [] f = omega arith
fine_last v (e ∷ []) f = f.0
fine_last v (e ∷ d ∷ es) f = fine_last v (d ∷ es) f.2

-- ---- one level

nodes_fine : (l p : ℕ) (gs : List (List Entry)) → groups.Sized gs → Fine (limit l) (joined gs) → All (NodeFine l) (group_nodes p gs)
unfolding All groups.Sized group_nodes joined
nodes_fine l p [] z f = tt
nodes_fine l p (g ∷ []) z f = let a = z.1 in (record { few = omega arith; high = omega arith; items = subst (Fine (limit l)) (append-nil g) f }, tt)
nodes_fine l p (g ∷ h ∷ gs) z f =
    let (u, v) = fine_cut (limit l) g (joined (h ∷ gs)) f in
    let a = z.1 in
    (record { few = omega arith; high = fine_last (limit l) g u; items = u }, nodes_fine l (suc p) (h ∷ gs) z.2 v)

links_fine : (l p : ℕ) (ns : List Node) → All (NodeFine l) ns → Numbered p ns → p + length ns ≤ 1024 → Fine 1023 (links ns)
unfolding All Numbered links Fine
links_fine l p [] a k h = tt
links_fine l p (n ∷ ns) a k h = let e = k.0 in (a.0.high, omega arith, links_fine l (suc p) ns a.1 k.1 (omega arith))

-- ---- all levels

pub load_fine : (f : ℕ) (es : List Entry) (downs : List (List Node)) → length es ≤ f → Fine (limit (length downs)) es → tree_count f (length es) < 1024 → AllFine downs → AllFine (load_levels f es ++ downs)
unfolding load_levels AllFine All tree_count
load_fine zero es downs few fine t d = ((record { few = omega arith; high = omega arith; items = fine }, tt), d)
load_fine (suc f) es downs few fine t d =
    go (case (leb (length es) room)) t
    (λ h g u w. load_fine f (links (group_nodes (suc (tree_count f (group_count (length es)))) (groups (length es) es))) (group_nodes (suc (tree_count f (group_count (length es)))) (groups (length es) es) ∷ downs) h g u w)
  where
    gs : List (List Entry)
    gs = groups (length es) es

    ns : List Node
    ns = group_nodes (suc (tree_count f (group_count (length es)))) gs

    root : Node
    root = record { page = 1; high = top; items = es }

    More : Type 0
    More = length (links ns) ≤ f → Fine 1023 (links ns) → tree_count f (length (links ns)) < 1024 → All (NodeFine (length downs)) ns × AllFine downs → AllFine (load_levels f (links ns) ++ ns ∷ downs)

    go : Case (leb (length es) room) → tree_count (suc f) (length es) < 1024 → More → AllFine (pick (leb (length es) room) ((root ∷ []) ∷ []) (load_levels f (links ns) ++ (ns ∷ [])) ++ downs)
    go (yes! b) u more = rw b ((record { few = true_le (length es) room b; high = omega arith; items = fine }, tt), d)
    go (no! b) u more =
        let big = false_le (length es) room b in
        let count : length gs ≡ group_count (length es) = groups_count (length es) es (omega arith) (omega arith) in
        let len : length (links ns) ≡ group_count (length es) = links_length ns ∙ nodes_length _ gs ∙ count in
        let k : length ns ≡ group_count (length es) = nodes_length _ gs ∙ count in
        let t : tree_count f (group_count (length es)) + group_count (length es) < 1024 = counted b u in
        let fines = nodes_fine (length downs) _ gs (groups_sized (length es) es (omega arith) (omega arith)) (subst (Fine (limit (length downs))) (sym (groups_join (length es) es)) fine) in
        let x = more (omega arith) (links_fine (length downs) (suc (tree_count f (group_count (length es)))) ns fines (nodes_numbered _ gs) (omega arith)) (subst (λ q. tree_count f q < 1024) (sym len) (omega arith)) (fines, d) in
        rw b (subst AllFine (sym (append_assoc (load_levels f (links ns)) (ns ∷ []) downs)) x)
      where
        counted : leb (length es) room ≡ false → tree_count (suc f) (length es) < 1024 → tree_count f (group_count (length es)) + group_count (length es) < 1024
        counted b u = subst (λ q. pick q 1 (tree_count f (group_count (length es)) + group_count (length es)) < 1024) b u

-- ---- on the pages

-- What holds of every page made of a fine node, its number, level and right link within their widths, holds of the pages laid out.
module _ (P : ℕ → Page → Type 0) (good : (l : ℕ) (n : Node) (right : ℕ) → l < 16 → 0 < n.page → n.page < 1024 → right < 1024 → NodeFine l n → P n.page (node_at n.page l right n.high n.items)) where
  right_low : (p : ℕ) (ns : List Node) → Numbered p ns → p + length ns ≤ 1024 → first_page ns 0 < 1024
  unfolding Numbered first_page
  right_low p [] k h = omega arith
  right_low p (n ∷ ns) k h = let e = k.0 in omega arith

  at_level : (pre post : List Page) (l : ℕ) (ns : List Node) → l < 16 → 0 < length pre → Numbered (length pre) ns → All (NodeFine l) ns → length pre + length ns ≤ 1024
      → (p : ℕ) → length pre ≤ p → p < length pre + length ns → P p (at (pre ++ (level_pages l ns ++ post)) p)
  unfolding Numbered All level_pages
  at_level pre post l [] low pos k a h p x y = absurd (omega arith)
  at_level pre post l (n ∷ ns) low pos k a h p x y = go (dec_lt (length pre) p) (λ q. at_level (pre ++ node_at n.page l (first_page ns 0) n.high n.items ∷ []) post l ns low q)
    where
      page : Page
      page = node_at n.page l (first_page ns 0) n.high n.items

      len : length (pre ++ page ∷ []) ≡ suc (length pre)
      len = length-append pre (page ∷ []) ∙ omega arith

      go : Dec (length pre < p) → (0 < length (pre ++ page ∷ []) → Numbered (length (pre ++ page ∷ [])) ns → All (NodeFine l) ns → length (pre ++ page ∷ []) + length ns ≤ 1024
          → (p : ℕ) → length (pre ++ page ∷ []) ≤ p → p < length (pre ++ page ∷ []) + length ns → P p (at ((pre ++ page ∷ []) ++ (level_pages l ns ++ post)) p)) → P p (at (pre ++ page ∷ (level_pages l ns ++ post)) p)
      go (yes q) more =
          let e = len in
          let z = more (omega arith) (subst (λ m. Numbered m ns) (sym e) k.1) a.1 (omega arith) p (omega arith) (omega arith) in
          subst (λ pages. P p (at pages p)) (append_assoc pre (page ∷ []) (level_pages l ns ++ post)) z
      go (no q) more =
          let e : length pre ≡ p = omega arith in
          let num = k.0 in
          let g = good l n (first_page ns 0) low (omega arith) (omega arith) (right_low (suc (length pre)) ns k.1 (omega arith)) a.0 in
          let here : at (pre ++ page ∷ (level_pages l ns ++ post)) (length pre) ≡ page = get_or-append_seam pre page (level_pages l ns ++ post) zero_page in
          subst (λ m. P m (at (pre ++ page ∷ (level_pages l ns ++ post)) m)) e (subst (P (length pre)) (sym here) (subst (λ m. P m page) num g))

  pub at_levels : (pre post : List Page) (ls : List (List Node)) → length ls ≤ 16 → 0 < length pre → AllNumbered (length pre) ls → AllFine ls → length pre + total ls ≤ 1024
      → (p : ℕ) → length pre ≤ p → p < length pre + total ls → P p (at (pre ++ (levels_pages ls ++ post)) p)
  unfolding AllNumbered AllFine total levels_pages
  at_levels pre post [] low pos k a h p x y = absurd (omega arith)
  at_levels pre post (ns ∷ ls) low pos k a h p x y = go (dec_lt p (length pre + length ns)) (λ q. at_levels (pre ++ level_pages (length ls) ns) post ls q)
    where
      l : ℕ
      l = length ls

      len : length (pre ++ level_pages l ns) ≡ length pre + length ns
      len = length-append pre (level_pages l ns) ∙ ap (length pre +◌) (level_length l ns)

      one : (level_pages l ns ++ levels_pages ls) ++ post ≡ level_pages l ns ++ (levels_pages ls ++ post)
      one = append_assoc (level_pages l ns) (levels_pages ls) post

      go : Dec (p < length pre + length ns) → (length ls ≤ 16 → 0 < length (pre ++ level_pages l ns) → AllNumbered (length (pre ++ level_pages l ns)) ls → AllFine ls → length (pre ++ level_pages l ns) + total ls ≤ 1024
          → (p : ℕ) → length (pre ++ level_pages l ns) ≤ p → p < length (pre ++ level_pages l ns) + total ls → P p (at ((pre ++ level_pages l ns) ++ (levels_pages ls ++ post)) p)) → P p (at (pre ++ ((level_pages l ns ++ levels_pages ls) ++ post)) p)
      go (yes q) more = subst (λ xs. P p (at (pre ++ xs) p)) (sym one) (at_level pre (levels_pages ls ++ post) l ns (omega arith) pos k.0 a.0 (omega arith) p x q)
      go (no q) more =
          let e = len in
          let z = more (omega arith) (omega arith) (subst (λ m. AllNumbered m ls) (sym e) k.1) a.1 (omega arith) p (omega arith) (omega arith) in
          subst (λ pages. P p (at pages p)) (append_assoc pre (level_pages l ns) (levels_pages ls ++ post) ∙ ap (pre ++◌) (sym one)) z
