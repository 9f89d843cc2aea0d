-- LEFT LINKS WORKED OUT (02, U5) are links that their pages may have; those of the pages that a history leads to follow from the pages alone.
use Rattle.std.specs.Prelude.{ℕ, ◌+◌, ◌-◌, ◌≤◌, ◌<◌, ◌≡◌, refl, length, get_or, replicate}
use Rattle.std.proofs.Common.{sym, ap, ◌∙◌, subst, arith, lit<}
use mathlib.Core.List.{List, [], ◌∷◌, ◌++◌, append-nil}
use Rattle.std.proofs.Math.Decide.{dec_lt}
use Rattle.std.proofs.lemmas.List.{replicate-append-replicate}
use Rattle.std.proofs.Math.ListN.{get_or-eq_default}
use Rattle.def_base.specs.Tests.{pick, Case, yes!, no!, case, clash}
use Rattle.def_layout.specs.Pages.{Page, kind_is, map_bits, zero_page, at}
use Rattle.def_layout.specs.declared.page.PageKind.TheVariants.{Leaf, Map}
use Rattle.def_layout.specs.Records.{Rec}
use Rattle.def_model.specs.TreeRules.{Node, levels_of, bottom}
use Rattle.def_model.specs.Links.{relink, of_leaves, relinked}
use Rattle.law_bytes.specs.LeftLinks.{leaf?, Links}
use Rattle.law_areas.specs.WorkPages.{leaf_kind}
use Rattle.theory_tree.specs.Shape.Chains.{All}
use Rattle.theory_tree.specs.Shape.Rules.{Rules, pages_pos}
use Rattle.theory_tree.specs.Shape.LeftLinks.{relinked_length, of_leaves_length, of_leaves_at, relink_longer, relink_each, no_leaves, leaves_inside, leaves_are}
use Rattle.theory_tree.specs.Test.Test.{test_sound, rules_levels}
use Rattle.theory_update.specs.Run.Lawful.{Lawful}
use Rattle.theory_fit.specs.Clean.{Clean}
use Rattle.theory_fit.specs.LeftLinks.{relinked_clean}
use Rattle.theory_pages.specs.Layout.{map_laid}
use Rattle.theory_pages.specs.Restartable.{prefix_clean}
use Rattle.theory_history.specs.Origin.{Origin, origin_pages, origin_length, origin_clean, origin_tree, pages_low}
use Rattle.theory_history.specs.Start.{pages_after, after_is, length_after}
use Rattle.theory_history.specs.History.{History, history_now}
use Rattle.theory_history.specs.Growing.{grown_rules}

-- ---- worked out, in ten bits

-- Links of ten bits each.
abbrev pub NarrowLinks : List ℕ → Type 0
NarrowLinks ls = (p : ℕ) → get_or ls p 0 < 1024

-- WORKED OUT FROM SUCH LINKS, each is one that its page may have.
module _ (xs : List Page) (few : length xs ≤ map_bits) (k : Rules xs (levels_of xs)) (ls : List ℕ) (w : NarrowLinks ls) where
  of_leaf : (p : ℕ) → Case (kind_is (at xs p).kind Leaf) → Links (at xs p) (pick (kind_is (at xs p).kind Leaf) (get_or ls p 0) 0)
  of_leaf p (yes! e) = rw e (record { narrow = w p; other = λ f. clash (sym (sym (leaf_kind (at xs p).kind) ∙ e) ∙ f) })
  of_leaf p (no! e) = rw e (record { narrow = lit< tt; other = λ f. refl })

  -- Those of leaves as they were, all others none.
  kept_links : (p : ℕ) → Dec (p < length xs) → Links (at xs p) (get_or (of_leaves xs ls) p 0)
  kept_links p (yes h) = subst (Links (at xs p)) (sym (of_leaves_at xs ls p h)) (of_leaf p (case (kind_is (at xs p).kind Leaf)))
  kept_links p (no h) = let e = of_leaves_length xs ls in subst (Links (at xs p)) (sym (get_or-eq_default (of_leaves xs ls) 0 {n = p} (omega arith))) (record { narrow = lit< tt; other = λ f. refl })

  narrow_leaves : (ns : List Node) → All (λ x. ((at xs x.page).kind ≡ Leaf) × (x.page < length xs)) ns → All (λ x. ((at xs x.page).kind ≡ Leaf) × (x.page < 1024)) ns
  unfolding All
  narrow_leaves [] a = tt
  narrow_leaves (x ∷ ns) a = let i = a.0.1 in ((a.0.0, omega arith), narrow_leaves ns a.1)

  pub relinked_links : (p : ℕ) → Links (at xs p) (get_or (relinked xs ls) p 0)
  unfolding relinked
  relinked_links p =
      relink_each (λ p l. Links (at xs p) l) (λ p. (at xs p).kind ≡ Leaf) (λ l. l < 1024) (λ p l e i. record { narrow = i; other = λ f. clash (sym (ap leaf? e) ∙ f) })
      0 (bottom (levels_of xs)) (of_leaves xs ls) (lit< tt) (narrow_leaves (bottom (levels_of xs)) (leaves_are xs k)) (λ p. kept_links p (dec_lt p (length xs))) p

-- ---- a history

module _ (o : Origin) (n : ℕ) (most : n ≤ map_bits) (log : List Rec) (h : History o n log) where
  pub history_rules : Rules (pages_after o n log) (levels_of (pages_after o n log))
  history_rules = test_sound (pages_after o n log) (history_now o n log h).tree

  pub history_clean : Clean (pages_after o n log)
  history_clean =
      let e = origin_length o n in
      subst Clean (sym (after_is o n log))
      (prefix_clean log [] (subst (λ z. Lawful 1 (origin_pages o n) (levels_of (origin_pages o n)) z (levels_of (pages_after o n log))) (sym (append-nil log)) h.lawful) (omega arith)
      (test_sound (origin_pages o n) (origin_tree o n h.least most)) (pages_low o n h.least) (origin_clean o n h.least))

  pub history_map : (at (pages_after o n log) 0).kind ≡ Map
  history_map = let p = pages_pos (pages_after o n log) (levels_of (pages_after o n log)) history_rules in (map_laid _ (at (pages_after o n log) 0) ((history_now o n log h).laid 0 (omega arith))).kind

  -- WHATEVER LINKS THERE WERE, worked out they are the same.
  pub history_links : (ls ms : List ℕ) → relinked (pages_after o n log) ls ≡ relinked (pages_after o n log) ms
  history_links ls ms = relinked_clean (pages_after o n log) history_rules history_clean history_map ls ms

  -- The links as they follow from the pages.
  abbrev pub own_links : List ℕ
  own_links = relinked (pages_after o n log) []

  pub links_length : length own_links ≡ length (pages_after o n log)
  links_length = relinked_length (pages_after o n log) []

  -- Each is one that its page may have.
  pub history_linked : (p : ℕ) → Links (at (pages_after o n log) p) (get_or own_links p 0)
  history_linked p = let e = length_after o n log in relinked_links (pages_after o n log) (omega arith) history_rules [] (λ q. lit< tt) p

-- GROWN PAGES: the links there were, and none after them.
pub links_longer : (o : Origin) (k n : ℕ) → o.least ≤ k → k ≤ n → n ≤ map_bits → (log : List Rec) → History o k log → pages_after o n log ≡ pages_after o k log ++ replicate (n - k) zero_page
    → relinked (pages_after o n log) [] ≡ relinked (pages_after o k log) [] ++ replicate (n - k) 0
unfolding relinked
links_longer o k n least more most log h e =
    let xs : List Page = pages_after o k log in
    let ys : List Page = pages_after o n log in
    let a = length_after o k log in
    let b = length_after o n log in
    let same : levels_of ys ≡ levels_of xs = rules_levels ys (levels_of xs) (grown_rules o k n least more most log (levels_of xs) h.lawful) in
    let s : length ys ≡ length xs + (n - k) = omega arith in
    let z : of_leaves ys [] ≡ of_leaves xs [] ++ replicate (n - k) 0 =
    no_leaves ys ∙ ap (λ q. replicate q 0) s ∙ sym (replicate-append-replicate (length xs) (n - k) 0) ∙ ap (◌++ replicate (n - k) 0) (sym (no_leaves xs)) in
    (λ i. relink 0 (bottom (same i)) (z i))
    ∙ relink_longer 0 (bottom (levels_of xs)) (of_leaves xs []) (replicate (n - k) 0) (leaves_inside xs (history_rules o k (omega arith) log h) [])
