-- ONE STORE after the other: what the k-th leaves, none, one more, and as many as the budget lasts for.
use Rattle.std.specs.Prelude.{◌≡◌, refl, ℕ, ◌+◌, ◌-◌, ◌*◌, ◌≤◌, ◌<◌, min, take, length, ltb}
use Rattle.std.proofs.Math.Path.{ap, ap₂}
use Rattle.std.proofs.Common.{sym, ◌∙◌, subst, add-one, arith, take-suc, take_all}
use Rattle.std.proofs.Math.Bool.{true, false}
use mathlib.Core.List.{List, [], ◌∷◌, ◌++◌}
use Rattle.def_base.specs.Tests.{Case, yes!, no!, case, true_lt, false_lt}
use Rattle.def_layout.specs.Sizes.{page_size, slot_size}
use Rattle.def_layout.specs.PageBytes.{page_bytes, without_left}
use Rattle.def_layout.specs.RecordBytes.{empty, slot_bytes}
use Rattle.def_model.specs.Areas.{Store, store_page, store_slot}
use Rattle.def_model.specs.OnBytes.{Lent, store_bytes, store_all_bytes}
use Rattle.law_bytes.specs.Words.{part}
use Rattle.law_bytes.specs.Patch.{patch}
use Rattle.law_areas.specs.Held.{put_is}
use Rattle.law_areas.specs.Stores.{stores_append}
use Rattle.area_lengths.specs.Lent.{lent}
use Rattle.area_store.specs.declared.Area.{Area}
use Rattle.area_store.specs.declared.Area.TheVariants.{Pages, Slots}
use Rattle.area_store.specs.declared.Stores.{Stores}
use Rattle.area_store.specs.declared.Place.{Place}
use Rattle.area_store.specs.declared.Place.TheVariants.{Page, Slot}
use Rattle.area_store.specs.Lists.{place_at, place, count, reaches, Fits, kth, Goes, Lists}

-- ---- the place of the k-th

pub page_place : (b : Area) (i : ℕ) → b ≡ Pages → Page i ≡ place_at b i
unfolding place_at
page_place b i e = ap (λ (a : Area). place_at a i) (sym e)

pub slot_place : (b : Area) (i : ℕ) → b ≡ Slots → Slot i ≡ place_at b i
unfolding place_at
slot_place b i e = ap (λ (a : Area). place_at a i) (sym e)

module _ (s : Stores) (k : ℕ) where
  pub place_first : ltb k s.first.count ≡ true → place s k ≡ place_at s.first.area (s.first.from + k)
  unfolding place
  place_first e = rw e

  pub place_rest : ltb k s.first.count ≡ false → place s k ≡ place_at s.rest.area (s.rest.from + (k - s.first.count))
  unfolding place
  place_rest e = rw e

-- It is within the areas.
abbrev pub Within : (wp sp wl sl : List ℕ) → Place → Type 0
Within wp sp wl sl (Page p) = (page_size * p + page_size ≤ length sp) × (page_size * p + page_size ≤ length wp)
Within wp sp wl sl (Slot i) = (slot_size * i + slot_size ≤ length sl) × (slot_size * i + slot_size ≤ length wl)

module _ (wp sp wl sl : List ℕ) where
  place_within : (b : Area) (i n : ℕ) → i < n → reaches b n wp sp wl sl → Within wp sp wl sl (place_at b i)
  unfolding place_at
  place_within Pages i n h r = (omega (arith, h, r.0), omega (arith, h, r.1))
  place_within Slots i n h r = (omega (arith, h, r.0), omega (arith, h, r.1))

  within : (s : Stores) (k : ℕ) → k < count s → Fits s wp sp wl sl → Within wp sp wl sl (place s k)
  within s k h f = go (case (ltb k s.first.count))
    where
      go : Case (ltb k s.first.count) → Within wp sp wl sl (place s k)
      go (yes! e) =
          subst (Within wp sp wl sl) (sym (place_first s k e))
          (place_within s.first.area (s.first.from + k) (s.first.from + s.first.count) (omega (arith, true_lt k s.first.count e)) f.2)
      go (no! e) =
          subst (Within wp sp wl sl) (sym (place_rest s k e))
          (place_within s.rest.area (s.rest.from + (k - s.first.count)) (s.rest.from + s.rest.count) (omega (arith, h, false_lt k s.first.count e)) f.3)

  pub within_at : (s : Stores) (k : ℕ) → k < count s → Fits s wp sp wl sl → (at q : Place) → at ≡ place s k → at ≡ q → Within wp sp wl sl q
  within_at s k h f at q e a = subst (Within wp sp wl sl) (sym e ∙ a) (within s k h f)

-- Stores keep the lengths, and so what fits.
pub fits_still : (s : Stores) (wp sp wl sl sp' sl' : List ℕ) → length sp' ≡ length sp → length sl' ≡ length sl → Fits s wp sp wl sl → Fits s wp sp' wl sl'
fits_still s wp sp wl sl sp' sl' p q f =
    (f.0, f.1, go s.first.area (s.first.from + s.first.count) f.2, go s.rest.area (s.rest.from + s.rest.count) f.3)
  where
    go : (b : Area) (n : ℕ) → reaches b n wp sp wl sl → reaches b n wp sp' wl sl'
    go Pages n r = (omega (arith, r.0, p), r.1)
    go Slots n r = (omega (arith, r.0, q), r.1)

-- ---- one store

module _ (wp sp wl sl : List ℕ) where
  page_store : (p : ℕ) (t : Store) → Goes wp wl (Page p) t → lent wp (patch sp (page_size * p) (without_left (part wp (page_size * p) page_size))) wl sl ≡ store_bytes t (lent wp sp wl sl)
  unfolding Goes store_bytes
  page_store p (store_page q x) g =
      ap (λ (b : List ℕ). lent wp b wl sl)
      (sym (put_is (page_size * q) (page_bytes x) sp ∙ ap₂ (λ (i : ℕ) (b : List ℕ). patch sp (page_size * i) b) g.0 g.1))
  page_store p (store_slot n x) g = absurd g

  slot_store : (i : ℕ) (t : Store) → Goes wp wl (Slot i) t → lent wp sp wl (patch sl (slot_size * i) (part wl (slot_size * i) slot_size)) ≡ store_bytes t (lent wp sp wl sl)
  unfolding Goes store_bytes
  slot_store i (store_page q x) g = absurd g
  slot_store i (store_slot n x) g =
      ap (λ (b : List ℕ). lent wp sp wl b)
      (sym (put_is (slot_size * (n - 1)) (slot_bytes x) sl ∙ ap₂ (λ (j : ℕ) (b : List ℕ). patch sl (slot_size * j) b) g.0 g.1))

  -- THE K-TH of a list, a page or a slot.
  module _ (s : Stores) (k : ℕ) (h : k < count s) (at : Place) (e : at ≡ place s k) (ts : List Store) (l : Lists wp wl s ts) where
    goes_there : Goes wp wl at (kth ts k)
    goes_there = subst (λ (a : Place). Goes wp wl a (kth ts k)) (sym e) (l.goes k h)

    pub page_made : (p : ℕ) (sp' : List ℕ) → at ≡ Page p → sp' ≡ patch sp (page_size * p) (without_left (part wp (page_size * p) page_size))
        → lent wp sp' wl sl ≡ store_bytes (kth ts k) (lent wp sp wl sl)
    page_made p sp' a c =
        ap (λ (b : List ℕ). lent wp b wl sl) c ∙ page_store p (kth ts k) (subst (λ (q : Place). Goes wp wl q (kth ts k)) a goes_there)

    pub slot_made : (i : ℕ) (sl' : List ℕ) → at ≡ Slot i → sl' ≡ patch sl (slot_size * i) (part wl (slot_size * i) slot_size)
        → lent wp sp wl sl' ≡ store_bytes (kth ts k) (lent wp sp wl sl)
    slot_made i sl' a c =
        ap (λ (b : List ℕ). lent wp sp wl b) c ∙ slot_store i (kth ts k) (subst (λ (q : Place). Goes wp wl q (kth ts k)) a goes_there)

-- ---- the first stores

-- NONE yet.
pub none_made : (ts : List Store) (start : Lent) → start ≡ store_all_bytes (take 0 ts) start
unfolding store_all_bytes
none_made ts start = refl

-- ONE MORE.
pub one_more : (s : Stores) (k : ℕ) (wp wl : List ℕ) (ts : List Store) → Lists wp wl s ts → k < count s → (start now next : Lent) → now ≡ store_all_bytes (take k ts) start → next ≡ store_bytes (kth ts k) now
    → next ≡ store_all_bytes (take (k + 1) ts) start
unfolding store_all_bytes
one_more s k wp wl ts l h start now next e f =
    let o : take (k + 1) ts ≡ take k ts ++ (kth ts k ∷ []) = ap (λ (n : ℕ). take n ts) (add-one k) ∙ take-suc ts k (store_slot 0 empty) (subst (λ (n : ℕ). k < n) (sym l.size) h) in
    f ∙ ap (store_bytes (kth ts k)) e ∙ sym (ap (λ (us : List Store). store_all_bytes us start) o ∙ stores_append (take k ts) (kth ts k ∷ []) start)

-- ALL that the budget lasts for.
pub all_made : (s : Stores) (wp wl : List ℕ) (ts : List Store) → Lists wp wl s ts → (budget n k : ℕ) → n ≡ min budget (count s) → k ≤ n → n ≤ k → (start now : Lent) → now ≡ store_all_bytes (take k ts) start
    → now ≡ store_all_bytes (take budget ts) start
all_made s wp wl ts l budget n k e low high start now h = h ∙ ap (λ (us : List Store). store_all_bytes us start) (go (case (ltb budget (count s))))
  where
    go : Case (ltb budget (count s)) → take k ts ≡ take budget ts
    go (yes! t) = let o : k ≡ budget = omega (arith, true_lt budget (count s) t) in ap (λ (i : ℕ). take i ts) o
    go (no! t) = take_all k ts (omega (arith, l.size, false_lt budget (count s) t)) ∙ sym (take_all budget ts (omega (arith, l.size, false_lt budget (count s) t)))
