-- The place in the level above: the entries that are left there, from it on.
use Rattle.std.specs.Prelude.{◌≡◌, ◌≢◌, ℕ, zero, suc, ◌+◌, ◌-◌, ◌<◌, ◌≤◌, Bool, drop, leb, ltb, eqb}
use Rattle.std.specs.Prelude as program
use Rattle.std.specs.Option.{UnwrapsOrElse}
use Rattle.std.proofs.Math.Path.{refl, sym, ap}
use Rattle.std.proofs.Common.{◌∙◌, sub-one}
use Rattle.std.proofs.Math.Decide.{dec_lt}
use native.Mathlib.Omega.{arith}
use Rattle.std.proofs.Math.Bool.{true, false}
use mathlib.Core.List.{List, [], ◌∷◌, ◌++◌}
use Rattle.def_base.specs.Tests.{pick, eq_true, neq_false, lt_true, lt_false, le_true, le_false}
use Rattle.def_layout.specs.declared.Entry.{Entry}
use Rattle.def_layout.specs.Entries.{entry_at, no_entry}
use Rattle.def_layout.specs.Pages.{Page, at}
use Rattle.law_bytes.specs.EntryBytes.{used}
use Rattle.codec_entries.specs.Turns.{used_cons, used_rest_none}
use Rattle.def_model.specs.TreeRules.{flat, chain, first_child}
use Rattle.tree_check.specs.Under.{stands, due_after, left_after, all_met, and_false}
use Rattle.tree_check.specs.Level.{level_end, chain_none, chain_cons}
use Rattle.tree_check.specs.declared.Above.{Above}

-- What is there, or else the default entry, which is no entry.
pub or_no_entry : (o : program.Option Entry) (r : Entry) (P : Entry → Type 0) → ((d : Entry) → P d → d ≡ no_entry) → UnwrapsOrElse o P r → r ≡ program.unwrap_or o no_entry
or_no_entry program.None r P is u = is r u
or_no_entry (program.Some x) r P is u = u

-- The entries of the page at hand, and all that are left.
abbrev pub shown : Above → List Entry
shown c = drop c.place (used c.count c.entries)

abbrev pub rest : List Page → Above → List Entry
rest pages c = shown c ++ flat (chain c.left pages c.next)

-- The entries of a chain.
pub flat_none : (pages : List Page) (f p : ℕ) → p ≡ 0 → flat (chain f pages p) ≡ []
unfolding flat
flat_none pages f p e = rw (chain_none pages p f (eq_true p 0 e))

flat_out : (pages : List Page) (f p : ℕ) → f ≡ 0 → flat (chain f pages p) ≡ []
unfolding flat chain
flat_out pages f p e = rw e

flat_cons : (pages : List Page) (f p : ℕ) → p ≢ 0 → f ≢ 0 → flat (chain f pages p) ≡ (at pages p).entries ++ flat (chain (f - 1) pages (at pages p).right)
unfolding flat
flat_cons pages zero p n z = absurd (z refl)
flat_cons pages (suc f) p n z = rw (chain_cons pages p f (neq_false n), sub-one)

-- No entry is left on the page at hand.
module _ (pages : List Page) (c : Above) (h : c.count ≤ c.place) where
  passed : rest pages c ≡ flat (chain c.left pages c.next)
  passed = rw (used_rest_none c.entries c.count c.place h)

  pub rest_none : c.next ≡ 0 → rest pages c ≡ []
  rest_none e = passed ∙ flat_none pages c.left c.next e

  pub rest_out : c.left ≡ 0 → rest pages c ≡ []
  rest_out e = passed ∙ flat_out pages c.left c.next e

  rest_next : c.next ≢ 0 → c.left ≢ 0 → rest pages c ≡ (at pages c.next).entries ++ flat (chain (c.left - 1) pages (at pages c.next).right)
  rest_next n z = passed ∙ flat_cons pages c.left c.next n z

-- The entry at hand, and those after it.
module _ (c : Above) where
  abbrev pub here : Entry
  here = entry_at c.entries c.place

  abbrev pub later : List Entry
  later = drop (c.place + 1) (used c.count c.entries)

  shown_here : c.place < c.count → shown c ≡ here ∷ later
  shown_here h = used_cons c.entries c.count c.place h

  shown_none : c.count ≤ c.place → shown c ≡ []
  shown_none h = used_rest_none c.entries c.count c.place h

  -- The first child.
  pub child_none : c.count ≤ c.place → 0 ≡ first_child (shown c)
  unfolding first_child
  child_none h = sym (rw (shown_none h))

  pub child_here : (e : Entry) → e ≡ here → c.place < c.count → e.val ≡ first_child (shown c)
  unfolding first_child
  child_here e s h = ap (λ (x : Entry). x.val) s ∙ sym (ap first_child (shown_here h))

  -- Whether a page stands under the entry at hand.
  module _ (p h : ℕ) where
    pub stands_none : c.count ≤ c.place → false ≡ stands c.due (shown c) p h
    unfolding stands
    stands_none q = sym (ap (λ (es : List Entry). stands c.due es p h) (shown_none q))

    module _ (e : Entry) (s : e ≡ here) (q : c.place < c.count) where
      pub stands_due : c.due ≡ true → eqb h e.key ≡ stands c.due (shown c) p h
      unfolding stands
      stands_due d = sym (rw (d, shown_here q, s))

      pub stands_other : c.due ≡ false → e.val ≢ p → false ≡ stands c.due (shown c) p h
      unfolding stands
      stands_other d n = sym (rw (d, shown_here q, ← s, neq_false n))

      pub stands_child : c.due ≡ false → e.val ≡ p → leb h e.key ≡ stands c.due (shown c) p h
      unfolding stands
      stands_child d v = sym (rw (d, shown_here q, ← s, eq_true e.val p v))

  -- What is due and what is left after it.
  module _ (h : ℕ) (q : c.place < c.count) (e : Entry) (s : e ≡ here) where
    abbrev pub After : Bool → List Entry → Type 0
    After due es = (due ≡ due_after (shown c) h) × (es ≡ left_after (shown c) h)

    pub ends_below : h < e.key → After true (shown c)
    unfolding due_after left_after
    ends_below l = let k : h < here.key = rw s at l in rw (shown_here q, lt_true h here.key k) (refl, refl)

    pub ends_there : e.key ≤ h → After false later
    unfolding due_after left_after
    ends_there l = let k : here.key ≤ h = rw s at l in rw (shown_here q, lt_false h here.key k) (refl, refl)

  -- Whether a level may end here.
  module _ (from : ℕ) where
    pub end_off : from ≢ 4294967296 → false ≡ level_end from c.due (shown c)
    unfolding level_end
    end_off n = sym (rw (neq_false n))

    pub end_due : c.due ≡ true → false ≡ level_end from c.due (shown c)
    unfolding level_end all_met
    end_due d = sym (rw d (and_false (eqb from 4294967296)))

    pub end_here : from ≡ 4294967296 → c.due ≡ false → leb c.count c.place ≡ level_end from c.due (shown c)
    unfolding level_end all_met
    end_here t d =
        elim (dec_lt c.place c.count) [
          | yes q ↦ rw (t, d, shown_here q) (le_false c.count c.place q)
          | no q ↦ let z : c.count ≤ c.place = omega arith in rw (t, d, shown_none z) (le_true c.count c.place z)
        ]

-- THE TURN of a place that is ready: it shows an entry, or none is left.
module _ (pages : List Page) (c : Above) (ready : c.count ≤ c.place → rest pages c ≡ []) where
  pub stands_rest : (p h : ℕ) → stands c.due (shown c) p h ≡ stands c.due (rest pages c) p h
  unfolding stands
  stands_rest p h =
      elim (dec_lt c.place c.count) [
        | yes q ↦ rw (shown_here c q) (head c.due)
        | no q ↦ let z : c.count ≤ c.place = omega arith in ap (λ (es : List Entry). stands c.due es p h) (shown_none c z ∙ sym (ready z))
      ]
    where
      head : (b : Bool) → stands b (here c ∷ later c) p h ≡ stands b (here c ∷ later c ++ flat (chain c.left pages c.next)) p h
      head true = refl
      head false = refl

  pub met_rest : all_met c.due (shown c) ≡ all_met c.due (rest pages c)
  unfolding all_met
  met_rest =
      elim (dec_lt c.place c.count) [
        | yes q ↦ rw (shown_here c q) (head c.due)
        | no q ↦ let z : c.count ≤ c.place = omega arith in ap (λ (es : List Entry). all_met c.due es) (shown_none c z ∙ sym (ready z))
      ]
    where
      head : (b : Bool) → all_met b (here c ∷ later c) ≡ all_met b (here c ∷ later c ++ flat (chain c.left pages c.next))
      head true = refl
      head false = refl

-- What `ready`, `passed` and `start_above` hand back.
abbrev pub Readied : List Page → Above → Above → Type 0
Readied pages c d = (rest pages d ≡ rest pages c) × (d.due ≡ c.due) × (d.count ≤ d.place → rest pages d ≡ [])

abbrev pub Passed : Above → ℕ → Above → Type 0
Passed c h d = (d.due ≡ due_after (shown c) h) × (shown d ≡ left_after (shown c) h) × (d.next ≡ c.next) × (d.left ≡ c.left)

abbrev pub Started : List Page → ℕ → ℕ → Bool → Above → Type 0
Started pages p left due d = (shown d ≡ (at pages p).entries) × (d.next ≡ (at pages p).right) × (d.left ≡ left) × (d.due ≡ due)

-- After a page what is left of all entries is what is left of those shown, and the others.
module _ (pages : List Page) (c d : Above) (h : ℕ) (q : c.place < c.count) (k : Passed c h d) where
  pub passed_due : d.due ≡ due_after (rest pages c) h
  unfolding due_after
  passed_due = k.0 ∙ rw (shown_here c q)

  pub passed_rest : rest pages d ≡ left_after (rest pages c) h
  unfolding left_after
  passed_rest = rw (k.1, k.2, k.3, shown_here c q) (choose (ltb h (here c).key))
    where
      choose : (t : Bool) → pick t (here c ∷ later c) (later c) ++ flat (chain c.left pages c.next)
          ≡ pick t (here c ∷ later c ++ flat (chain c.left pages c.next)) (later c ++ flat (chain c.left pages c.next))
      choose true = refl
      choose false = refl

-- From a page's end on to the next page; and a page that begins a level.
pub moved : (pages : List Page) (c d : Above) → c.count ≤ c.place → c.next ≢ 0 → c.left ≢ 0 → Started pages c.next (c.left - 1) c.due d → rest pages d ≡ rest pages c
moved pages c d h n z k = rw (k.0, k.1, k.2) (sym (rest_next pages c h n z))

pub begun : (pages : List Page) (p n : ℕ) (d : Above) → p ≢ 0 → n ≢ 0 → Started pages p (n - 1) false d → rest pages d ≡ flat (chain n pages p)
begun pages p n d z w k = rw (k.0, k.1, k.2) (sym (flat_cons pages n p z w))
