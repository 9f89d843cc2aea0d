-- Tests that compute, the facts that they stand for, and how to go by cases on a test and keep the fact.
use Rattle.std.specs.Prelude.{ℕ, ◌≤◌, ◌<◌, ◌≡◌, refl, ◌≢◌, Bool, true, false, not, ◌&&◌, ◌||◌, List, [], ◌∷◌, T, leb, ltb, eqb}
use Rattle.std.proofs.Common.{sym, ap, arith, leb→le, ltb→lt, nltb→le, eqb→eq, le→leb, lt→ltb}
use Rattle.std.proofs.Math.Option.{none, some}
use Rattle.std.proofs.Math.Dec.{nleb→lt, eqb_refl}

-- A choice by a test.
abbrev pub pick {ℓ} : {A : Type ℓ} → Bool → A → A → A
pick true a b = a
pick false a b = b

-- The two cases of a test, each with its fact.
pub data Case (b : Bool) : Type 0 where
  yes! : b ≡ true → Case b
  no! : b ≡ false → Case b

pub case : (b : Bool) → Case b
case true = yes! refl
case false = no! refl

-- Two constructors are never equal.
pub clash : {A : Type 0} → true ≡ false → A
clash e = let z : ◌≡◌ {A = ℕ} 0 1 = cc in absurd (omega arith)

pub none_some : {A B : Type 0} {a : A} → none ≡ some a → B
none_some p = let z : ◌≡◌ {A = ℕ} 0 1 = cc in absurd (omega arith)

pub some_inj : {A : Type 0} {a b : A} → some a ≡ some b → a ≡ b
some_inj {a = a} p = ap (λ o. elim o [ none ↦ a | some x ↦ x ]) p

pub T→true : (b : Bool) → T b → b ≡ true
T→true true t = refl
T→true false t = absurd t

pub true→T : (b : Bool) → b ≡ true → T b
true→T true e = tt
true→T false e = clash (sym e)

pub false→T : (b : Bool) → b ≡ false → T (not b)
false→T false e = tt
false→T true e = clash e

-- A test on numbers and its fact, both ways.
pub lt_true : (a b : ℕ) → a < b → ltb a b ≡ true
lt_true a b h = T→true (ltb a b) (lt→ltb a b h)

pub true_lt : (a b : ℕ) → ltb a b ≡ true → a < b
true_lt a b e = ltb→lt a b (true→T (ltb a b) e)

pub false_lt : (a b : ℕ) → ltb a b ≡ false → b ≤ a
false_lt a b e = nltb→le a b (false→T (ltb a b) e)

pub lt_false : (a b : ℕ) → b ≤ a → ltb a b ≡ false
lt_false a b h = go (case (ltb a b))
  where
    go : Case (ltb a b) → ltb a b ≡ false
    go (no! e) = e
    go (yes! e) = let l : a < b = true_lt a b e in absurd (omega arith)

pub true_eq : (a b : ℕ) → eqb a b ≡ true → a ≡ b
true_eq a b e = eqb→eq a b (true→T (eqb a b) e)

pub eq_true : (a b : ℕ) → a ≡ b → eqb a b ≡ true
eq_true a b e = rw (← e) (T→true (eqb a a) (eqb_refl a))

pub neq_false : {a b : ℕ} → a ≢ b → eqb a b ≡ false
neq_false {a} {b} n = go (case (eqb a b))
  where
    go : Case (eqb a b) → eqb a b ≡ false
    go (no! e) = e
    go (yes! e) = absurd (n (true_eq a b e))

pub le_true : (a b : ℕ) → a ≤ b → leb a b ≡ true
le_true a b h = T→true (leb a b) (le→leb a b h)

pub true_le : (a b : ℕ) → leb a b ≡ true → a ≤ b
true_le a b e = leb→le a b (true→T (leb a b) e)

pub false_le : (a b : ℕ) → leb a b ≡ false → b < a
false_le a b e = nleb→lt a b (false→T (leb a b) e)

pub le_false : (a b : ℕ) → b < a → leb a b ≡ false
le_false a b h = go (case (leb a b))
  where
    go : Case (leb a b) → leb a b ≡ false
    go (no! e) = e
    go (yes! e) = let l : a ≤ b = true_le a b e in absurd (omega arith)

pub and_true : (a b : Bool) → a && b ≡ true → (a ≡ true) × (b ≡ true)
and_true true b e = (refl, e)
and_true false b e = clash (sym e)

pub and_both : {a b : Bool} → a ≡ true → b ≡ true → a && b ≡ true
and_both {a} {b} p q = rw (p, q)

pub or_left : {a : Bool} (b : Bool) → a ≡ true → a || b ≡ true
or_left {a} b e = rw e

pub or_right : (a : Bool) {b : Bool} → b ≡ true → a || b ≡ true
or_right true e = refl
or_right false e = e

-- Whether a test holds of every element of a list, and of some.
unfoldable pub every {ℓ} : {A : Type ℓ} → (A → Bool) → List A → Bool
every f [] = true
every f (x ∷ xs) = f x && every f xs

unfoldable pub any {ℓ} : {A : Type ℓ} → (A → Bool) → List A → Bool
any f [] = false
any f (x ∷ xs) = f x || any f xs
