-- THE LAW OF REDO for one page, over any pages and any records. Redo does a page's changes by themselves, whatever the other pages hold.
use Prim.Native.Nat.{ℕ, suc, ◌+◌, ◌≤◌, ◌<◌}
use Rattle.std.specs.Prelude.{◌≡◌, Bool, ◌&&◌}
use Rattle.std.proofs.Math.Path.{refl, ap}
use Rattle.std.proofs.Common.{sym, ◌∙◌, subst}
use Rattle.std.proofs.Math.Bool.{true, false}
use mathlib.Core.List.{List, [], ◌∷◌, ◌++◌}
use native.Mathlib.Omega.{arith}
use Rattle.std.proofs.Math.Nat.{suc-add, add-suc, add-zero}
use Rattle.std.proofs.Math.ListN.{length}
use Rattle.std.proofs.Math.Dec.{ltb}
use Rattle.def_base.specs.Tests.{pick, Case, yes!, no!, case, lt_true, lt_false}

module _ {P R : Type 0} (lsn : P → ℕ) (hits : R → Bool) (act : ℕ → R → P → P) where
  -- Record r, number n, at one page: done where the record touches the page.
  unfoldable pub run1 : ℕ → R → P → P
  run1 n r x = pick (hits r) (act n r x) x

  -- The same in redo: only where the page's number is lower.
  unfoldable pub redo1 : ℕ → R → P → P
  redo1 n r x = pick (hits r && ltb (lsn x) n) (act n r x) x

  -- The records of a log, the first of which has the number n.
  unfoldable pub run : ℕ → List R → P → P
  run n [] x = x
  run n (r ∷ l) x = run (suc n) l (run1 n r x)

  unfoldable pub redo : ℕ → List R → P → P
  redo n [] x = x
  redo n (r ∷ l) x = redo (suc n) l (redo1 n r x)

  -- The number of changes that redo applies to the page.
  unfoldable pub count : ℕ → List R → P → ℕ
  count n [] x = 0
  count n (r ∷ l) x = pick (hits r && ltb (lsn x) n) 1 0 + count (suc n) l (redo1 n r x)

  -- The number of records that touch the page.
  unfoldable pub hit_count : List R → ℕ
  hit_count [] = 0
  hit_count (r ∷ l) = pick (hits r) 1 0 + hit_count l

  pub run_append : (n : ℕ) (a b : List R) (x : P) → run n (a ++ b) x ≡ run (n + length a) b (run n a x)
  unfolding run
  run_append n [] b x = simp add-zero
  run_append n (r ∷ a) b x = rw (run_append (suc n) a b (run1 n r x), suc-add n (length a), add-suc n (length a)) refl

  pub redo_append : (n : ℕ) (a b : List R) (x : P) → redo n (a ++ b) x ≡ redo (n + length a) b (redo n a x)
  unfolding redo
  redo_append n [] b x = simp add-zero
  redo_append n (r ∷ a) b x = rw (redo_append (suc n) a b (redo1 n r x), suc-add n (length a), add-suc n (length a)) refl

  -- What is asked of a change: it leaves its record's number in the page.
  module _ (stamp : (n : ℕ) (r : R) (x : P) → lsn (act n r x) ≡ n) where
    -- A page whose number is below n is done as in the first run.
    pub below1 : (n : ℕ) (r : R) (x : P) → lsn x < n → redo1 n r x ≡ run1 n r x
    unfolding redo1 run1
    below1 n r x h = go (hits r)
      where
        go : (b : Bool) → pick (b && ltb (lsn x) n) (act n r x) x ≡ pick b (act n r x) x
        go true = rw lt_true
        go false = refl

    -- A page whose number is at least n is left.
    above1 : (n : ℕ) (r : R) (x : P) → n ≤ lsn x → redo1 n r x ≡ x
    unfolding redo1
    above1 n r x h = go (hits r)
      where
        go : (b : Bool) → pick (b && ltb (lsn x) n) (act n r x) x ≡ x
        go true = rw lt_false
        go false = refl

    miss1 : (n : ℕ) (r : R) (x : P) → hits r ≡ false → (run1 n r x ≡ x) × (redo1 n r x ≡ x)
    unfolding run1 redo1
    miss1 n r x e = (rw e, rw e)

    -- Numbers after a step: unchanged or n.
    pub lsn_run1 : (n m : ℕ) (r : R) (x : P) → lsn x ≤ m → n ≤ m → lsn (run1 n r x) ≤ m
    unfolding run1
    lsn_run1 n m r x h k = go (hits r)
      where
        go : (b : Bool) → lsn (pick b (act n r x) x) ≤ m
        go true = rw stamp k
        go false = h

    -- The number of a page after a run is below the number due.
    pub lsn_run : (n : ℕ) (l : List R) (x : P) → lsn x < n → lsn (run n l x) < n + length l
    unfolding run
    lsn_run n [] x h = omega arith
    lsn_run n (r ∷ l) x h =
        let a : lsn (run1 n r x) ≤ n = lsn_run1 n n r x (omega arith) (omega arith) in
        let b : lsn (run (suc n) l (run1 n r x)) < suc n + length l = lsn_run (suc n) l (run1 n r x) (omega arith) in
        omega arith

    -- From a page whose number is below the first record's, redo is the run.
    pub redo_fresh : (n : ℕ) (l : List R) (x : P) → lsn x < n → redo n l x ≡ run n l x
    unfolding redo run
    redo_fresh n [] x h = refl
    redo_fresh n (r ∷ l) x h =
        let a : lsn (run1 n r x) ≤ n = lsn_run1 n n r x (omega arith) (omega arith) in
        rw (below1 n r x h) (redo_fresh (suc n) l (run1 n r x) (omega arith))

    -- A run never lowers a page's number.
    lsn_run1_grows : (n : ℕ) (r : R) (x : P) → lsn x ≤ n → lsn x ≤ lsn (run1 n r x)
    unfolding run1
    lsn_run1_grows n r x h = go (hits r)
      where
        go : (b : Bool) → lsn x ≤ lsn (pick b (act n r x) x)
        go true = rw stamp h
        go false = omega arith

    pub lsn_run_grows : (n : ℕ) (l : List R) (x : P) → lsn x < n → lsn x ≤ lsn (run n l x)
    unfolding run
    lsn_run_grows n [] x h = omega arith
    lsn_run_grows n (r ∷ l) x h =
        let a : lsn (run1 n r x) ≤ n = lsn_run1 n n r x (omega arith) (omega arith) in
        let g : lsn x ≤ lsn (run1 n r x) = lsn_run1_grows n r x (omega arith) in
        let b : lsn (run1 n r x) ≤ lsn (run (suc n) l (run1 n r x)) = lsn_run_grows (suc n) l (run1 n r x) (omega arith) in
        omega arith

    -- The test of redo fails at every record that has already been run.
    skip : (n : ℕ) (r : R) (l : List R) (x y : P) → lsn x < n → y ≡ run n (r ∷ l) x → hits r && ltb (lsn y) n ≡ false
    unfolding run run1
    skip n r l x y h e =
        let a : lsn (run1 n r x) ≤ n = lsn_run1 n n r x (omega arith) (omega arith) in
        go (case (hits r)) (lsn_run_grows (suc n) l (run1 n r x) (omega arith))
      where
        go : Case (hits r) → lsn (run1 n r x) ≤ lsn (run (suc n) l (run1 n r x)) → hits r && ltb (lsn y) n ≡ false
        go (no! z) g = rw z
        go (yes! z) g =
            let s : lsn (run1 n r x) ≡ n = rw z (stamp n r x) in
            let k : lsn y ≡ lsn (run (suc n) l (run1 n r x)) = ap lsn e in
            rw (z, lt_false (lsn y) n (omega arith))

    -- A page that a run has led to is left by the redo of that run, which counts nothing.
    pub redo_done : (n : ℕ) (l : List R) (x y : P) → lsn x < n → y ≡ run n l x → redo n l y ≡ y
    unfolding redo run redo1
    redo_done n [] x y h e = refl
    redo_done n (r ∷ l) x y h e =
        let a : lsn (run1 n r x) ≤ n = lsn_run1 n n r x (omega arith) (omega arith) in
        rw (skip n r l x y h e) (redo_done (suc n) l (run1 n r x) y (omega arith) e)

    -- THE LAW. A page that holds the changes of a first part of the log is brought by redo of the whole log to where the run of the whole
    -- log leads. A log is two parts here, so that each page may be behind by its own amount.
    pub redo_law : (n : ℕ) (a b : List R) (x y : P) → lsn x < n → y ≡ run n a x → redo n (a ++ b) y ≡ run n (a ++ b) x
    redo_law n a b x y h e =
        redo_append n a b y
        ∙ ap (redo (n + length a) b) (redo_done n a x y h e ∙ e)
        ∙ redo_fresh (n + length a) b (run n a x) (lsn_run n a x h)
        ∙ sym (run_append n a b x)

    -- Redo counts what the page lacks.
    count_fresh : (n : ℕ) (l : List R) (x : P) → lsn x < n → count n l x ≡ hit_count l
    unfolding count hit_count
    count_fresh n [] x h = refl
    count_fresh n (r ∷ l) x h =
        let a : lsn (run1 n r x) ≤ n = lsn_run1 n n r x (omega arith) (omega arith) in
        let i : count (suc n) l (run1 n r x) ≡ hit_count l = count_fresh (suc n) l (run1 n r x) (omega arith) in
        rw (below1 n r x h, i, lt_true (lsn x) n h) (same (hits r))
      where
        same : (b : Bool) → pick (b && true) 1 0 + hit_count l ≡ pick b 1 0 + hit_count l
        same true = refl
        same false = refl

    pub count_law : (n : ℕ) (a b : List R) (x y : P) → lsn x < n → y ≡ run n a x → count n (a ++ b) y ≡ hit_count b
    unfolding count run redo1
    count_law n [] b x y h e = count_fresh n b y (subst (λ z. lsn z < n) (sym e) h)
    count_law n (r ∷ a) b x y h e =
        let k : lsn (run1 n r x) ≤ n = lsn_run1 n n r x (omega arith) (omega arith) in
        let i : count (suc n) (a ++ b) y ≡ hit_count b = count_law (suc n) a b (run1 n r x) y (omega arith) e in
        rw (skip n r a x y h e) (omega arith)

    -- Refusal 5: a change to be redone must meet a page that it fits. Where the run fitted throughout, so does redo.
    module _ (fits : R → P → Bool) where
      unfoldable pub run_ok : ℕ → List R → P → Type 0
      run_ok n [] x = Unit {0}
      run_ok n (r ∷ l) x = (hits r ≡ true → fits r x ≡ true) × run_ok (suc n) l (run1 n r x)

      unfoldable pub redo_ok : ℕ → List R → P → Bool
      redo_ok n [] x = true
      redo_ok n (r ∷ l) x = pick (hits r && ltb (lsn x) n) (fits r x) true && redo_ok (suc n) l (redo1 n r x)

      pub run_ok_append : (n : ℕ) (a b : List R) (x : P) → run_ok n (a ++ b) x → run_ok (n + length a) b (run n a x)
      unfolding run_ok run
      run_ok_append n [] b x o = rw add-zero o
      run_ok_append n (r ∷ a) b x o = rw (add-suc n (length a), ← (suc-add n (length a))) (run_ok_append (suc n) a b (run1 n r x) o.1)

      fresh_ok : (n : ℕ) (l : List R) (x : P) → lsn x < n → run_ok n l x → redo_ok n l x ≡ true
      unfolding run_ok redo_ok
      fresh_ok n [] x h o = refl
      fresh_ok n (r ∷ l) x h o =
          let a : lsn (run1 n r x) ≤ n = lsn_run1 n n r x (omega arith) (omega arith) in
          let i : redo_ok (suc n) l (run1 n r x) ≡ true = fresh_ok (suc n) l (run1 n r x) (omega arith) o.1 in
          rw (below1 n r x h, i, first (hits r) o.0)
        where
          first : (b : Bool) → (b ≡ true → fits r x ≡ true) → pick (b && ltb (lsn x) n) (fits r x) true ≡ true
          first true f = rw (lt_true (lsn x) n h) (f refl)
          first false f = refl

      done_ok : (n : ℕ) (a b : List R) (x y : P) → lsn x < n → y ≡ run n a x → redo_ok (n + length a) b y ≡ true → redo_ok n (a ++ b) y ≡ true
      unfolding redo_ok run redo1
      done_ok n [] b x y h e o = rw add-zero at o
      done_ok n (r ∷ a) b x y h e o =
          let k : lsn (run1 n r x) ≤ n = lsn_run1 n n r x (omega arith) (omega arith) in
          rw (skip n r a x y h e) (done_ok (suc n) a b (run1 n r x) y (omega arith) e (rw (add-suc n (length a), ← (suc-add n (length a))) at o))

      pub redo_ok_law : (n : ℕ) (a b : List R) (x y : P) → lsn x < n → y ≡ run n a x → run_ok (n + length a) b y → redo_ok n (a ++ b) y ≡ true
      redo_ok_law n a b x y h e o =
          let l : lsn y < n + length a = rw e (lsn_run n a x h) in
          done_ok n a b x y h e (fresh_ok (n + length a) b y l o)
