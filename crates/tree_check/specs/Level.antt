-- A level walked from left to right, one page at a time; with fuel, since a forged chain can be a cycle.
use Rattle.std.specs.Prelude.{◌≡◌, ◌≢◌, Bool, true, false, ◌&&◌, length, ltb, eqb}
use Rattle.std.proofs.Math.Path.{refl, sym, ap}
use Rattle.std.proofs.Common.{◌∙◌, sub-one, add-one}
use Prim.Native.Nat.{ℕ, zero, suc, ◌+◌, ◌-◌}
use mathlib.Core.List.{List, [], ◌∷◌}
use Rattle.std.proofs.Math.ListN.{get_or}
use Rattle.def_base.specs.Tests.{pick, Case, yes!, no!, case, eq_true, neq_false}
use Rattle.def_layout.specs.declared.Entry.{Entry}
use Rattle.def_layout.specs.Entries.{top}
use Rattle.def_layout.specs.Pages.{Page, at, kind_is, kind_at}
use Rattle.def_model.specs.TreeRules.{Node, node_of, chain, first_page, node_ok, level_ok, pages_ok}
use Rattle.tree_check.specs.Under.{stands, due_after, left_after, all_met, met, and_false}

abbrev pub node : ℕ → Page → Node
node p x = record { page = p; high = x.high; items = x.entries }

-- Page p of n, as x, is one that a walk of level l may reach.
unfoldable pub reached : ℕ → List Bool → ℕ → ℕ → Page → Bool
reached n marks l p x = ltb 0 p && (ltb p n && (kind_is x.kind (kind_at l) && (eqb x.level l && get_or marks p false)))

-- What it has to keep by itself: `from` is the least key that it may hold, `few` how few entries.
unfoldable pub page_fits : ℕ → List Bool → ℕ → ℕ → ℕ → ℕ → Page → Bool
page_fits n marks l few from p x = reached n marks l p x && node_ok (eqb l 0) few from (node p x)

abbrev pub visit : List Page → ℕ → ℕ → ℕ → ℕ → Bool
visit pages l few from p = page_fits (length pages) (at pages 0).marks l few from p (at pages p)

-- At the chain's end.
unfoldable pub level_end : ℕ → Bool → List Entry → Bool
level_end from due es = eqb from (suc top) && all_met due es

-- Level l from page p on, under the entries es.
unfoldable pub level_walk : ℕ → List Page → ℕ → ℕ → ℕ → ℕ → Bool → List Entry → Bool
level_walk zero pages l few p from due es = eqb p 0 && level_end from due es
level_walk (suc f) pages l few p from due es =
    pick (eqb p 0) (level_end from due es)
    (visit pages l few from p
    && (stands due es p (at pages p).high
    && level_walk f pages l few (at pages p).right (suc (at pages p).high) (due_after es (at pages p).high) (left_after es (at pages p).high)))

-- ---- the walk is the level's rules

linked_last : (a b k v m q p : Bool) → a && (b && (k && (v && (q && (m && p))))) ≡ (a && (b && (k && (v && m)))) && (q && p)
linked_last false b k v m q p = refl
linked_last true false k v m q p = refl
linked_last true true false v m q p = refl
linked_last true true true false m q p = refl
linked_last true true true true false true p = refl
linked_last true true true true false false p = refl
linked_last true true true true true q p = refl

regroup : (r n s q l p m : Bool) → (r && n) && (s && (q && (l && (p && m)))) ≡ (n && l) && ((r && (q && p)) && (s && m))
regroup false false s q l p m = refl
regroup false true s q false p m = refl
regroup false true s q true p m = refl
regroup true false s q l p m = refl
regroup true true false q false p m = refl
regroup true true false false true p m = refl
regroup true true false true true false m = refl
regroup true true false true true true m = refl
regroup true true true false false p m = refl
regroup true true true false true p m = refl
regroup true true true true false p m = refl
regroup true true true true true p m = refl

-- A chain's end, and its first page.
module _ (pages : List Page) (p : ℕ) where
  pub chain_none : (f : ℕ) → eqb p 0 ≡ true → chain f pages p ≡ []
  unfolding chain
  chain_none zero t = refl
  chain_none (suc f) t = rw t

  pub chain_cons : (f : ℕ) → eqb p 0 ≡ false → chain (suc f) pages p ≡ node p (at pages p) ∷ chain f pages (at pages p).right
  unfolding chain node_of
  chain_cons f t = rw t

module _ (pages : List Page) (l few : ℕ) where
  -- The level's rules of a chain that should begin with page p: it has not run out of fuel before its end.
  abbrev pub kept : ℕ → ℕ → Bool → List Entry → List Node → Bool
  kept p from due es ns = eqb p (first_page ns 0) && (level_ok (eqb l 0) few from ns && (pages_ok pages l ns && met due es ns))

  kept_none : (p from : ℕ) (due : Bool) (es : List Entry) → eqb p 0 ≡ true → kept p from due es [] ≡ level_end from due es
  unfolding first_page level_ok pages_ok met level_end
  kept_none p from due es t = rw t

  kept_cons : (p from : ℕ) (due : Bool) (es : List Entry) (ns : List Node)
      → kept p from due es (node p (at pages p) ∷ ns)
      ≡ visit pages l few from p && (stands due es p (at pages p).high
      && kept (at pages p).right (suc (at pages p).high) (due_after es (at pages p).high) (left_after es (at pages p).high) ns)
  unfolding first_page level_ok pages_ok met page_fits reached
  kept_cons p from due es ns =
      let x : Page = at pages p in
      rw (eq_true p p refl, linked_last (ltb 0 p) (ltb p (length pages)) (kind_is x.kind (kind_at l)) (eqb x.level l) (get_or (at pages 0).marks p false) (eqb x.right (first_page ns 0)) (pages_ok pages l ns))
      (sym (regroup (ltb 0 p && (ltb p (length pages) && (kind_is x.kind (kind_at l) && (eqb x.level l && get_or (at pages 0).marks p false))))
      (node_ok (eqb l 0) few from (node p x)) (stands due es p x.high) (eqb x.right (first_page ns 0)) (level_ok (eqb l 0) few (suc x.high) ns)
      (pages_ok pages l ns) (met (due_after es x.high) (left_after es x.high) ns)))

  walk_none : (f p from : ℕ) (due : Bool) (es : List Entry) → eqb p 0 ≡ true → level_walk f pages l few p from due es ≡ level_end from due es
  unfolding level_walk
  walk_none zero p from due es t = rw t
  walk_none (suc f) p from due es t = rw t

  walk_cons : (f p from : ℕ) (due : Bool) (es : List Entry) → eqb p 0 ≡ false
      → level_walk (suc f) pages l few p from due es
      ≡ visit pages l few from p && (stands due es p (at pages p).high
      && level_walk f pages l few (at pages p).right (suc (at pages p).high) (due_after es (at pages p).high) (left_after es (at pages p).high))
  unfolding level_walk
  walk_cons f p from due es t = rw t

  pub level_law : (f p from : ℕ) (due : Bool) (es : List Entry) → level_walk f pages l few p from due es ≡ kept p from due es (chain f pages p)
  unfolding level_walk chain first_page level_ok pages_ok met level_end
  level_law zero p from due es = refl
  level_law (suc f) p from due es =
      let x : Page = at pages p in
      go (case (eqb p 0)) (level_law f x.right (suc x.high) (due_after es x.high) (left_after es x.high))
    where
      go : Case (eqb p 0)
          → level_walk f pages l few (at pages p).right (suc (at pages p).high) (due_after es (at pages p).high) (left_after es (at pages p).high)
          ≡ kept (at pages p).right (suc (at pages p).high) (due_after es (at pages p).high) (left_after es (at pages p).high) (chain f pages (at pages p).right)
          → level_walk (suc f) pages l few p from due es ≡ kept p from due es (chain (suc f) pages p)
      go (yes! t) again = walk_none (suc f) p from due es t ∙ sym (ap (λ (ns : List Node). kept p from due es ns) (chain_none pages p (suc f) t) ∙ kept_none p from due es t)
      go (no! t) again =
          walk_cons f p from due es t
          ∙ ap (λ (b : Bool). visit pages l few from p && (stands due es p (at pages p).high && b)) again
          ∙ sym (ap (λ (ns : List Node). kept p from due es ns) (chain_cons pages p f t) ∙ kept_cons p from due es (chain f pages (at pages p).right))

  -- ---- the turns of the walk

  module _ (p from : ℕ) (due : Bool) (es : List Entry) where
    pub walk_end : (f : ℕ) → p ≡ 0 → level_walk f pages l few p from due es ≡ level_end from due es
    walk_end f z = walk_none f p from due es (eq_true p 0 z)

    pub walk_out : (f : ℕ) → p ≢ 0 → f ≡ 0 → level_walk f pages l few p from due es ≡ false
    unfolding level_walk
    walk_out f n z = rw (z, neq_false n)

    pub walk_broken : (f : ℕ) → p ≢ 0 → visit pages l few from p ≡ false → level_walk f pages l few p from due es ≡ false
    unfolding level_walk
    walk_broken zero n b = rw (neq_false n)
    walk_broken (suc f) n b = walk_cons f p from due es (neq_false n) ∙ rw b

    pub walk_astray : (f : ℕ) → p ≢ 0 → stands due es p (at pages p).high ≡ false → level_walk f pages l few p from due es ≡ false
    unfolding level_walk
    walk_astray zero n b = rw (neq_false n)
    walk_astray (suc f) n b = walk_cons f p from due es (neq_false n) ∙ rw b (and_false (visit pages l few from p))

    pub walk_on : (f : ℕ) → p ≢ 0 → f ≢ 0 → visit pages l few from p ≡ true → stands due es p (at pages p).high ≡ true
        → level_walk f pages l few p from due es
        ≡ level_walk (f - 1) pages l few (at pages p).right ((at pages p).high + 1) (due_after es (at pages p).high) (left_after es (at pages p).high)
    walk_on zero n z v s = absurd (z refl)
    walk_on (suc f) n z v s = walk_cons f p from due es (neq_false n) ∙ rw (v, s, sub-one, add-one (at pages p).high)

    -- How many pages the chain has left.
    pub count_end : (f : ℕ) → p ≡ 0 → length (chain f pages p) ≡ 0
    count_end f z = ap length (chain_none pages p f (eq_true p 0 z))

    pub count_on : (f : ℕ) → p ≢ 0 → f ≢ 0 → length (chain f pages p) ≡ length (chain (f - 1) pages (at pages p).right) + 1
    count_on zero n z = absurd (z refl)
    count_on (suc f) n z = ap length (chain_cons pages p f (neq_false n)) ∙ rw (sub-one, add-one (length (chain f pages (at pages p).right)))
