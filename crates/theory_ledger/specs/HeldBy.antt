-- WHAT HELD MEANS: a key is held against batch n exactly when another open batch has a pending record on it; and so with the keys of a range.
use Rattle.std.specs.Prelude.{ℕ, ◌≤◌, ◌<◌, ◌≡◌, refl, ◌≢◌, ◌↔◌, Bool, true, false, not, ◌&&◌, ◌||◌, List, [], ◌∷◌, leb, ltb, eqb}
use Rattle.std.proofs.Common.{sym}
use Rattle.def_base.specs.Tests.{Case, yes!, no!, case, clash, any, and_true, and_both, true_eq, eq_true, neq_false, true_lt, lt_true, true_le, le_true}
use Rattle.def_model.specs.Batches.{Line, Batch}
use Rattle.def_model.specs.Pending.{holds, held, held_between, held_from}
use Rattle.theory_ledger.specs.Held.{false_neq}

-- x is an element of the list.
pub data In {A : Type 0} (x : A) : List A → Type 0 where
  here : {xs : List A} → In x (x ∷ xs)
  there : {y : A} {xs : List A} → In x xs → In x (y ∷ xs)

-- Whether some element passes a test, both ways.
pub any_in : {A : Type 0} (f : A → Bool) (xs : List A) → any f xs ≡ true → (x : A) × In x xs × (f x ≡ true)
unfolding any
any_in f [] e = clash (sym e)
any_in {A} f (y ∷ ys) e = go (f y) refl (λ t. any_in f ys t) e
  where
    go : (b : Bool) → f y ≡ b → (any f ys ≡ true → (x : A) × In x ys × (f x ≡ true)) → b || any f ys ≡ true → (x : A) × In x (y ∷ ys) × (f x ≡ true)
    go true h i t = (y, here, h)
    go false h i t = let (x, m, w) = i t in (x, there m, w)

pub in_any : {A : Type 0} (f : A → Bool) (x : A) {xs : List A} → In x xs → f x ≡ true → any f xs ≡ true
unfolding any
in_any f x (here {xs = xs}) e = rw e
in_any f x (there {y = y} {xs = xs} m) e = go (f y) (in_any f x m e)
  where
    go : (b : Bool) → any f xs ≡ true → b || any f xs ≡ true
    go true h = refl
    go false h = h

-- Another open batch than n has a pending record on a key that is such.
pub record HeldBy (n : ℕ) (Such : ℕ → Type 0) (bs : List Batch) : Type 0 where
  pub batch : Batch
  pub among : In batch bs
  pub another : n ≢ batch.number
  pub line : Line
  pub pending : In line batch.lines
  pub on : Such line.key

-- The two tests are one, of all keys that a test of their own lets through.
module _ (n : ℕ) (test : ℕ → Bool) (Such : ℕ → Type 0) (says : (k : ℕ) → test k ≡ true → Such k) (said : (k : ℕ) → Such k → test k ≡ true) where
  abbrev holding : Batch → Bool
  holding b = any (λ l. test l.key) b.lines

  abbrev other_holding : Batch → Bool
  other_holding b = not (eqb n b.number) && holding b

  other_number : (m : ℕ) → not (eqb n m) ≡ true → n ≢ m
  other_number m e = go (case (eqb n m))
    where
      go : Case (eqb n m) → n ≢ m
      go (no! f) = false_neq n m f
      go (yes! f) = let z : false ≡ true = rw f at e in clash (sym z)

  test_held : (bs : List Batch) → any other_holding bs ≡ true → HeldBy n Such bs
  test_held bs e =
      let (b, m, w) = any_in other_holding bs e in
      let (o, h) = and_true (not (eqb n b.number)) (holding b) w in
      let (l, p, t) = any_in (λ l. test l.key) b.lines h in
      record { batch = b; among = m; another = other_number b.number o; line = l; pending = p; on = says l.key t }

  held_test : (bs : List Batch) → HeldBy n Such bs → any other_holding bs ≡ true
  held_test bs h =
      let differs : not (eqb n h.batch.number) ≡ true = rw (neq_false h.another) in
      in_any other_holding h.batch h.among (and_both differs (in_any (λ l. test l.key) h.line h.pending (said h.line.key h.on)))

-- 01: "A key is held while an open batch has a record on it that is not yet undone (pending)"; 14 "if another batch holds its key".
pub held_means : (n k : ℕ) (bs : List Batch) → (held n k bs ≡ true) ↔ HeldBy n (λ j. k ≡ j) bs
unfolding held holds
held_means n k bs = (test_held n (eqb k) (λ j. k ≡ j) (true_eq k) (eq_true k) bs, held_test n (eqb k) (λ j. k ≡ j) (true_eq k) (eq_true k) bs)

-- 01: "if another holds any key above the asked one up to the found one".
pub held_between_means : (n low high : ℕ) (bs : List Batch) → (held_between n low high bs ≡ true) ↔ HeldBy n (λ j. (low < j) × (j ≤ high)) bs
unfolding held_between
held_between_means n low high bs = (test_held n within (λ j. (low < j) × (j ≤ high)) says said bs, held_test n within (λ j. (low < j) × (j ≤ high)) says said bs)
  where
    within : ℕ → Bool
    within j = ltb low j && leb j high

    says : (j : ℕ) → ltb low j && leb j high ≡ true → (low < j) × (j ≤ high)
    says j e = let (a, b) = and_true (ltb low j) (leb j high) e in (true_lt low j a, true_le j high b)

    said : (j : ℕ) → (low < j) × (j ≤ high) → ltb low j && leb j high ≡ true
    said j h = and_both (lt_true low j h.0) (le_true j high h.1)

-- 02, U5: "with the same rule on held keys", the other way: from the found one on, below the asked one.
pub held_from_means : (n low high : ℕ) (bs : List Batch) → (held_from n low high bs ≡ true) ↔ HeldBy n (λ j. (low ≤ j) × (j < high)) bs
unfolding held_from
held_from_means n low high bs = (test_held n within (λ j. (low ≤ j) × (j < high)) says said bs, held_test n within (λ j. (low ≤ j) × (j < high)) says said bs)
  where
    within : ℕ → Bool
    within j = leb low j && ltb j high

    says : (j : ℕ) → leb low j && ltb j high ≡ true → (low ≤ j) × (j < high)
    says j e = let (a, b) = and_true (leb low j) (ltb j high) e in (true_le low j a, true_lt j high b)

    said : (j : ℕ) → (low ≤ j) × (j < high) → leb low j && ltb j high ≡ true
    said j h = and_both (le_true low j h.0) (lt_true j high h.1)
