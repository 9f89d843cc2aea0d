-- SEARCH IN A PAGE (02, U4): it "answers the first whose key is not below the one asked, or the count if there is none".
use Rattle.std.specs.Prelude.{ℕ, zero, suc, ◌≤◌, ◌<◌, ◌≡◌, List, [], ◌∷◌, length, ltb}
use Rattle.std.proofs.Common.{arith}
use Rattle.std.proofs.Math.Decide.{dec_lt}
use Rattle.def_base.specs.Tests.{pick, Case, yes!, no!, case, true_lt, false_lt}
use Rattle.def_layout.specs.declared.Entry.{Entry}
use Rattle.def_layout.specs.Entries.{key_at, place}
use Rattle.def_layout.specs.Sizes.{room}
use Rattle.theory_tree.specs.Order.Keys.{Rising}

-- Place i is the first whose key is not below k, or the count.
pub record First (k : ℕ) (es : List Entry) (i : ℕ) : Type 0 where
  pub within : i ≤ length es
  pub before : (j : ℕ) → j < i → key_at es j < k
  pub there : i < length es → k ≤ key_at es i

-- On any page, its keys rising or not.
pub place_first : (k : ℕ) (es : List Entry) → First k es (place k es)
unfolding place
place_first k [] = record { within = omega arith; before = λ j h. absurd (omega arith); there = λ h. absurd (omega arith) }
place_first k (e ∷ es) = go (case (ltb e.key k)) (place_first k es)
  where
    go : Case (ltb e.key k) → First k es (place k es) → First k (e ∷ es) (pick (ltb e.key k) (suc (place k es)) 0)
    go (yes! t) f =
        rw t
        (record {
          within = let w = f.within in omega arith;
          before = λ j h. below j h;
          there = λ h. f.there (omega arith);
        })
      where
        below : (j : ℕ) → j < suc (place k es) → key_at (e ∷ es) j < k
        below zero h = true_lt e.key k t
        below (suc j) h = f.before j (omega arith)
    go (no! t) f = rw t (record { within = omega arith; before = λ j h. absurd (omega arith); there = λ h. false_lt e.key k t })

-- There is one such place.
pub first_one : (k : ℕ) (es : List Entry) (i j : ℕ) → First k es i → First k es j → i ≡ j
first_one k es i j f g = go (dec_lt i j) (dec_lt j i)
  where
    go : Dec (i < j) → Dec (j < i) → i ≡ j
    go (yes l) d = let w = g.within in let a = g.before i l in let b = f.there (omega arith) in absurd (omega arith)
    go (no l) (yes m) = let w = f.within in let a = f.before j m in let b = g.there (omega arith) in absurd (omega arith)
    go (no l) (no m) = omega arith

rising_above : (from : ℕ) (es : List Entry) (j : ℕ) → Rising from es → j < length es → from ≤ key_at es j
unfolding Rising
rising_above from [] j r h = absurd (omega arith)
rising_above from (e ∷ es) zero r h = r.0
rising_above from (e ∷ es) (suc j) r h = let a = r.0 in let b = rising_above (suc e.key) es j r.1 (omega arith) in omega arith

-- From an entry on, keys that rise are not below its own.
rising_from : (from : ℕ) (es : List Entry) (i j : ℕ) → Rising from es → i ≤ j → j < length es → key_at es i ≤ key_at es j
unfolding Rising
rising_from from [] i j r l h = absurd (omega arith)
rising_from from (e ∷ es) zero zero r l h = omega arith
rising_from from (e ∷ es) zero (suc j) r l h = let b = rising_above (suc e.key) es j r.1 (omega arith) in omega arith
rising_from from (e ∷ es) (suc i) zero r l h = absurd (omega arith)
rising_from from (e ∷ es) (suc i) (suc j) r l h = rising_from (suc e.key) es i j r.1 (omega arith) (omega arith)

-- U4'S SENTENCE: "in a page of at most 14 entries with rising keys it answers the first whose key is not below the one asked, or the count if there is none":
-- all before it are below, all from it on are not, and eight bits hold it.
pub record Parts (k : ℕ) (es : List Entry) (i : ℕ) : Type 0 where
  pub first : First k es i
  pub rest : (j : ℕ) → i ≤ j → j < length es → k ≤ key_at es j
  pub narrow : i < 256

pub search_in_page : (k : ℕ) (es : List Entry) → length es ≤ room → Rising 0 es → Parts k es (place k es)
search_in_page k es few r =
    let f = place_first k es in
    let w = f.within in
    record {
      first = f;
      rest = λ j l h. let a = f.there (omega arith) in let b = rising_from 0 es (place k es) j r l h in omega arith;
      narrow = omega arith;
    }
