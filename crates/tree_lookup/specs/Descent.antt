-- What fetch and next make of the first entry that a page has, and the way down to the leaf.
use Rattle.std.specs.Prelude.{◌≡◌, refl, List, [], ◌∷◌, ltb, eqb}
use Rattle.std.proofs.Math.Path.{ap, sym}
use Rattle.std.proofs.Common.{◌∙◌, sub-one, arith}
use Prim.Native.Nat.{ℕ, zero, suc, ◌-◌, ◌<◌, ◌≤◌}
use Rattle.std.proofs.Math.Bool.{true, false}
use Rattle.std.proofs.Math.Option.{Option, none, some}
use Rattle.std.proofs.Math.Dec.{leb}
use Rattle.def_base.specs.Tests.{pick, Case, yes!, no!, case, le_true, le_false, eq_true, neq_false}
use Rattle.def_layout.specs.declared.Entry.{Entry}
use Rattle.def_layout.specs.Entries.{top, no_entry, seek, look}
use Rattle.def_layout.specs.Pages.{Page, at}
use Rattle.codec_page.specs.declared.Page as page
use Rattle.codec_page.specs.Typed.{typed}
use Rattle.tree_lookup.specs.declared.Node.{Node}
use Rattle.tree_lookup.specs.Answers.{shows}
use Rattle.def_model.specs.Lookup.{entry_or, entry_for, covering, leaf_for, leaf_of, fetched, first_of, or_after, next_by, next_above}

-- ---- by the first entry of a page whose key is not below k

abbrev looked : ℕ → Option Entry → Option ℕ
looked k none = none
looked k (some e) = pick (eqb k e.key) (some e.val) none

look_seek : (k : ℕ) (es : List Entry) → look k es ≡ looked k (seek k es)
unfolding look seek
look_seek k [] = refl
look_seek k (e ∷ es) = go (case (ltb e.key k)) (look_seek k es)
  where
    go : Case (ltb e.key k) → look k es ≡ looked k (seek k es) → look k (e ∷ es) ≡ looked k (seek k (e ∷ es))
    go (yes! t) again = rw t again
    go (no! t) again = rw t

module _ (k : ℕ) (es : List Entry) where
  pub look_none : none ≡ seek k es → none ≡ look k es
  look_none e = ap (looked k) e ∙ sym (look_seek k es)

  pub look_is : (f : Entry) → some f ≡ seek k es → f.key ≡ k → some f.val ≡ look k es
  look_is f e q = sym (look_seek k es ∙ ap (looked k) (sym e) ∙ rw (eq_true k f.key (sym q)))

  pub look_off : (f : Entry) → some f ≡ seek k es → (f.key ≡ k → ⊥) → none ≡ look k es
  look_off f e q = sym (look_seek k es ∙ ap (looked k) (sym e) ∙ rw (neq_false (λ (r : k ≡ f.key). q (sym r))))

  -- The first entry not below k leads to it, or none does.
  pub leads_none : none ≡ seek k es → no_entry ≡ entry_for k es
  unfolding entry_or
  leads_none e = ap entry_or e

  pub leads_to : (f : Entry) → some f ≡ seek k es → f ≡ entry_for k es
  unfolding entry_or
  leads_to f e = ap entry_or e

-- ---- the way down

module _ (k p : ℕ) (pages : List Page) where
  pub covering_here : (x : page.Page) → typed x ≡ at pages p → k ≤ x.high → (p ≡ covering k p pages) × (typed x ≡ at pages (covering k p pages))
  unfolding typed
  covering_here x e h =
      let t : leb k (at pages p).high ≡ true = rw (← e) (le_true k x.high h) in
      (rw t, e ∙ rw t)

  pub covering_after : (x y : page.Page) (q : ℕ) → typed x ≡ at pages p → x.high < k → q ≡ x.right → typed y ≡ at pages q
      → (q ≡ covering k p pages) × (typed y ≡ at pages (covering k p pages))
  unfolding typed
  covering_after x y q e h r f =
      let t : leb k (at pages p).high ≡ false = rw (← e) (le_false k x.high h) in
      let s : q ≡ covering k p pages = rw t (r ∙ ap (λ (z : Page). z.right) e) in
      (s, f ∙ ap (λ (j : ℕ). at pages j) s)

  pub child_is : (x : page.Page) (e : Entry) → typed x ≡ at pages (covering k p pages) → e ≡ entry_for k (typed x).entries
      → e.val ≡ (entry_for k (at pages (covering k p pages)).entries).val
  child_is x e h f = ap (λ (d : Entry). d.val) (f ∙ ap (λ (y : Page). entry_for k y.entries) h)

  pub leaf_step : (l l' q : ℕ) → l ≡ suc l' → q ≡ (entry_for k (at pages (covering k p pages)).entries).val → leaf_for l k p pages ≡ leaf_for l' k q pages
  unfolding leaf_for
  leaf_step l l' q s e = ap (λ (j : ℕ). leaf_for j k p pages) s ∙ ap (λ (j : ℕ). leaf_for l' k j pages) (sym e)

  pub leaf_end : (l : ℕ) (x : Node) → l ≡ 0 → leaf_of k pages ≡ leaf_for l k p pages → shows x (covering k p pages) pages → shows x (leaf_of k pages) pages
  unfolding leaf_for
  leaf_end l x z e c =
      let there : leaf_of k pages ≡ covering k p pages = e ∙ ap (λ (j : ℕ). leaf_for j k p pages) z in
      (c.0 ∙ sym there, c.1 ∙ ap (λ (j : ℕ). at pages j) (sym there))

-- ---- the answers

module _ (k : ℕ) (pages : List Page) where
  pub leaf_from : (x : page.Page) (l : ℕ) → typed x ≡ at pages 1 → l ≡ x.level → leaf_of k pages ≡ leaf_for l k 1 pages
  unfolding typed
  leaf_from x l e h = ap (λ (y : Page). leaf_for y.level k 1 pages) (sym e) ∙ ap (λ (j : ℕ). leaf_for j k 1 pages) (sym h)

  pub fetched_is : (x : page.Page) (o : Option ℕ) → typed x ≡ at pages (leaf_of k pages) → o ≡ look k (typed x).entries → o ≡ fetched k pages
  unfolding fetched
  fetched_is x o e f = f ∙ ap (λ (y : Page). look k y.entries) e

  pub next_top : top ≤ k → none ≡ next_above k pages
  unfolding next_above next_by
  next_top h = rw (le_true top k h)

  next_low : k < top → next_above k pages ≡ or_after (seek (suc k) (at pages (leaf_of (suc k) pages)).entries) (leaf_of (suc k) pages) pages
  unfolding next_above next_by
  next_low h = rw (le_false top k h)

  module _ (x : page.Page) (m : ℕ) (h : k < top) (s : m ≡ suc k) (e : typed x ≡ at pages (leaf_of m pages)) where
    next_in : next_above k pages ≡ or_after (seek m (typed x).entries) (leaf_of m pages) pages
    next_in =
        next_low h
        ∙ ap (λ (j : ℕ). or_after (seek j (at pages (leaf_of j pages)).entries) (leaf_of j pages) pages) (sym s)
        ∙ ap (λ (y : Page). or_after (seek m y.entries) (leaf_of m pages) pages) (sym e)

    pub next_here : (f : Entry) → some f ≡ seek m (typed x).entries → some f ≡ next_above k pages
    unfolding or_after
    next_here f q = sym (next_in ∙ ap (λ (o : Option Entry). or_after o (leaf_of m pages) pages) (sym q))

    pub next_after : (y : page.Page) (o : Option Entry) → none ≡ seek m (typed x).entries → typed y ≡ at pages x.right → o ≡ first_of (typed y).entries → o ≡ next_above k pages
    unfolding or_after typed
    next_after y o q f g =
        g ∙ ap (λ (z : Page). first_of z.entries) f
        ∙ ap (λ (z : Page). first_of (at pages z.right).entries) e
        ∙ sym (next_in ∙ ap (λ (o : Option Entry). or_after o (leaf_of m pages) pages) (sym q))
