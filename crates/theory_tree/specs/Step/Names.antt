-- Every step names pages of the area (refusal 4).
use Rattle.std.specs.Prelude.{ℕ, suc, ◌<◌, ◌≡◌, ◌≢◌, true, List, [], ◌∷◌, ◌++◌, length}
use Rattle.std.proofs.Common.{sym, subst, append_assoc, arith}
use Rattle.def_base.specs.Tests.{lt_true, and_both}
use Rattle.def_layout.specs.Entries.{top}
use Rattle.def_layout.specs.Pages.{Page, at}
use Rattle.def_layout.specs.Records.{Rec}
use Rattle.def_layout.specs.Rows.{names_pages}
use Rattle.def_model.specs.TreeRules.{Node, first_page}
use Rattle.theory_tree.specs.Shape.Chains.{IsNode, All, once_in_level}
use Rattle.theory_tree.specs.Shape.Trees.{is_bottom, Levels, levels_at, page_at}
use Rattle.theory_tree.specs.Shape.Rules.{Rules, pages_pos}
use Rattle.theory_tree.specs.Step.Steps.{Step, splits, links, unlinks, merges, shares, raises, lowers, puts, cuts, notes}
use Rattle.theory_tree.specs.Step.Parts.{under}

names_three : (n : ℕ) (r : Rec) → r.pageA < n → r.pageB < n → r.pageC < n → names_pages n r ≡ true
unfolding names_pages
names_three n r a b c = and_both (lt_true r.pageA n a) (and_both (lt_true r.pageB n b) (lt_true r.pageC n c))

-- The second of two neighbours, and the first, of a level under another.
pub under_pages : (pages : List Page) (ups : List (List Node)) (u bs : List Node) (q r : Node) (cs : List Node) (downs : List (List Node))
    → Levels pages (ups ++ u ∷ (bs ++ q ∷ r ∷ cs) ∷ downs)
    → ((0 < q.page) × (q.page < length pages) × IsNode (at pages q.page) (length downs) r.page q)
    × ((0 < r.page) × (r.page < length pages) × IsNode (at pages r.page) (length downs) (first_page cs 0) r)
unfolding first_page
under_pages pages ups u bs q r cs downs lv =
    let lv' = subst (Levels pages) (sym (under ups u (bs ++ q ∷ r ∷ cs) downs)) lv in (
      page_at pages (ups ++ u ∷ []) bs q (r ∷ cs) downs lv',
      page_at pages (ups ++ u ∷ []) (bs ++ q ∷ []) r cs downs (subst (λ z. Levels pages ((ups ++ u ∷ []) ++ z ∷ downs)) (sym (append_assoc bs (q ∷ []) (r ∷ cs))) lv'),
    )

pub under_differ : (pages : List Page) (ups : List (List Node)) (u bs : List Node) (q r : Node) (cs : List Node) (downs : List (List Node))
    → Levels pages (ups ++ u ∷ (bs ++ q ∷ r ∷ cs) ∷ downs) → r.page ≢ q.page
unfolding All
under_differ pages ups u bs q r cs downs lv =
    let c = levels_at pages (ups ++ u ∷ []) (bs ++ q ∷ r ∷ cs) downs (subst (Levels pages) (sym (under ups u (bs ++ q ∷ r ∷ cs) downs)) lv) in
    (once_in_level pages (length downs) (is_bottom (length downs)) 0 bs q (r ∷ cs) 0 (suc top) c.chained c.chain).1.0

pub step_names : (pages : List Page) (ls ls' : List (List Node)) (r : Rec) → Step pages ls r ls' → Rules pages ls
    → names_pages (length pages) r ≡ true
step_names pages ls ls' r (splits ups xs n ys downs b key moved s full seven d g pos) k =
    let z = pages_pos pages _ k in
    names_three (length pages) _ (page_at pages ups xs n ys downs k.levels).1 g.inside (omega arith)
step_names pages ls ls' r (links ups xs p ys bs q t cs downs pre e post old space v l h m₁ m₂) k =
    let (a, b) = under_pages pages ups (xs ++ p ∷ ys) bs q t cs downs k.levels in
    names_three (length pages) _ (page_at pages ups xs p ys ((bs ++ q ∷ t ∷ cs) ∷ downs) k.levels).1 a.1 b.1
step_names pages ls ls' r (unlinks ups xs p ys bs q t cs downs pre e₁ e₂ post old v₁ k₁ v₂ k₂ qr m₁ m₂ fit) k =
    let (a, b) = under_pages pages ups (xs ++ p ∷ ys) bs q t cs downs k.levels in
    names_three (length pages) _ (page_at pages ups xs p ys ((bs ++ q ∷ t ∷ cs) ∷ downs) k.levels).1 a.1 b.1
step_names pages ls ls' r (merges ups u bs q t cs downs es e fs w v h m₁ m₂ space) k =
    let z = pages_pos pages _ k in
    let (a, b) = under_pages pages ups u bs q t cs downs k.levels in
    names_three (length pages) _ a.1 b.1 (omega arith)
step_names pages ls ls' r (shares ups u bs q t cs downs es e fs key moved w v h m₁ m₂ s z₁ z₂) k =
    let z = pages_pos pages _ k in
    let (a, b) = under_pages pages ups u bs q t cs downs k.levels in
    names_three (length pages) _ a.1 b.1 (omega arith)
step_names pages ls ls' r (raises a s downs c g pos) k =
    let z = pages_pos pages _ k in
    names_three (length pages) _ z (page_at pages [] (a ∷ []) s [] downs k.levels).1 g.inside
step_names pages ls ls' r (lowers n q downs e root only is ends) k =
    let z = pages_pos pages _ k in
    names_three (length pages) _ z (page_at pages ((n ∷ []) ∷ []) [] q [] downs k.levels).1 (omega arith)
step_names pages ls ls' r (puts kind batch previous key v ups xs n ys a low within absent space) k =
    let z = pages_pos pages _ k in
    names_three (length pages) _ (page_at pages ups xs n ys [] k.levels).1 (omega arith) (omega arith)
step_names pages ls ls' r (cuts kind batch previous key v u ups xs n ys a low within there fit) k =
    let z = pages_pos pages _ k in
    names_three (length pages) _ (page_at pages ups xs n ys [] k.levels).1 (omega arith) (omega arith)
step_names pages ls ls' r (notes kind batch previous q) k = let z = pages_pos pages _ k in names_three (length pages) _ (omega arith) (omega arith) (omega arith)
