-- What a batch's pending lines do to one key: the newest first, from what the slides have to what the tree has.
use Rattle.std.specs.Prelude.{ℕ, ◌≡◌, refl, ◌≢◌, ◌⊎◌, Bool, true, false, List, [], ◌∷◌}
use Rattle.std.proofs.Common.{sym, ◌∙◌, subst, inl, inr, arith}
use Rattle.std.proofs.Math.Option.{Option, none, some}
use Rattle.std.proofs.Math.Decide.{ℕ_discrete}
use Rattle.def_layout.specs.declared.Entry.{Entry}
use Rattle.def_layout.specs.Entries.{look, insert_sorted, remove_key}
use Rattle.def_model.specs.Batches.{Line}
use Rattle.theory_tree.specs.Order.Keys.{Rising}
use Rattle.theory_tree.specs.Order.Sorted.{look_insert, look_insert_other, look_remove, look_remove_other, rising_insert, rising_remove}

-- A line takes o to c: an insertion where there is nothing, a deletion of the value that is there.
unfoldable pub DoesBy : Bool → ℕ → Option ℕ → Option ℕ → Type 0
DoesBy true v o c = (o ≡ none) × (c ≡ some v)
DoesBy false v o c = (o ≡ some v) × (c ≡ none)

abbrev pub Does : Line → Option ℕ → Option ℕ → Type 0
Does l o c = DoesBy l.adds l.value o c

-- The lines on k, in order, take o to c.
pub data Runs (k : ℕ) : Option ℕ → List Line → Option ℕ → Type 0 where
  rest : {o : Option ℕ} → Runs k o [] o
  other : {o c : Option ℕ} {l : Line} {ls : List Line} → k ≢ l.key → Runs k o ls c → Runs k o (l ∷ ls) c
  this : {o m c : Option ℕ} {l : Line} {ls : List Line} → k ≡ l.key → Runs k o ls m → Does l m c → Runs k o (l ∷ ls) c

-- No line is on k.
unfoldable pub Off : ℕ → List Line → Type 0
Off k [] = Unit {0}
Off k (l ∷ ls) = (k ≢ l.key) × Off k ls

pub runs_off : (k : ℕ) (o : Option ℕ) (ls : List Line) → Off k ls → Runs k o ls o
unfolding Off
runs_off k o [] h = rest
runs_off k o (l ∷ ls) h = other h.0 (runs_off k o ls h.1)

pub off_runs : {k : ℕ} {o c : Option ℕ} {ls : List Line} → Off k ls → Runs k o ls c → o ≡ c
unfolding Off
off_runs h rest = refl
off_runs h (other n r) = off_runs h.1 r
off_runs h (this e r d) = absurd (h.0 e)

pub runs_inv : {k : ℕ} {o c : Option ℕ} {l : Line} {ls : List Line} → Runs k o (l ∷ ls) c
    → ((k ≢ l.key) × Runs k o ls c) ⊎ ((m : Option ℕ) × (k ≡ l.key) × Runs k o ls m × Does l m c)
runs_inv (other n r) = inl (n, r)
runs_inv (this {m = m} e r d) = inr (m, e, r, d)

pub runs_nil : {k : ℕ} {o c : Option ℕ} → Runs k o [] c → o ≡ c
runs_nil rest = refl

-- ---- lines carried out on a list of slides

-- 01: an insert files its slide, a delete takes it away.
unfoldable pub apply_by : Bool → ℕ → ℕ → List Entry → List Entry
apply_by true k v es = insert_sorted k v es
apply_by false k v es = remove_key k es

abbrev pub apply_line : Line → List Entry → List Entry
apply_line l es = apply_by l.adds l.key l.value es

-- The oldest line first.
unfoldable pub carry_lines : List Line → List Entry → List Entry
carry_lines [] es = es
carry_lines (l ∷ ls) es = apply_line l (carry_lines ls es)

pub apply_rising : (b : Bool) (k v : ℕ) (es : List Entry) (c : Option ℕ) → Rising 0 es → DoesBy b v (look k es) c → Rising 0 (apply_by b k v es)
unfolding apply_by DoesBy
apply_rising true k v es c r d = rising_insert k v 0 es (omega arith) r d.0
apply_rising false k v es c r d = rising_remove k 0 es r

pub apply_look : (b : Bool) (k v : ℕ) (es : List Entry) (c : Option ℕ) → Rising 0 es → DoesBy b v (look k es) c → look k (apply_by b k v es) ≡ c
unfolding apply_by DoesBy
apply_look true k v es c r d = look_insert k v es ∙ sym d.1
apply_look false k v es c r d = look_remove k 0 es r ∙ sym d.1

pub apply_other : (b : Bool) (k j v : ℕ) (es : List Entry) → Rising 0 es → k ≢ j → look k (apply_by b j v es) ≡ look k es
unfolding apply_by
apply_other true k j v es r n = look_insert_other k j v es n
apply_other false k j v es r n = look_remove_other k j 0 es r n

-- Where the lines run on every key, they lead each key to where they run.
pub carry_runs : (ls : List Line) (es : List Entry) → Rising 0 es → (to : ℕ → Option ℕ) → ((k : ℕ) → Runs k (look k es) ls (to k))
    → Rising 0 (carry_lines ls es) × ((k : ℕ) → look k (carry_lines ls es) ≡ to k)
unfolding carry_lines
carry_runs [] es r to h = (r, λ k. runs_nil (h k))
carry_runs (l ∷ ls) es r to h =
    let (q, f) = carry_runs ls es r before (λ k. upto k (ℕ_discrete k l.key)) in
    (apply_rising l.adds l.key l.value (carry_lines ls es) (to l.key) q (does q f), λ k. at k q f (ℕ_discrete k l.key))
  where
    own : (m : Option ℕ) × Runs l.key (look l.key es) ls m × Does l m (to l.key)
    own = go (runs_inv (h l.key))
      where
        go : ((l.key ≢ l.key) × Runs l.key (look l.key es) ls (to l.key)) ⊎ ((m : Option ℕ) × (l.key ≡ l.key) × Runs l.key (look l.key es) ls m × Does l m (to l.key))
            → (m : Option ℕ) × Runs l.key (look l.key es) ls m × Does l m (to l.key)
        go (inl p) = absurd (p.0 refl)
        go (inr p) = (p.0, p.2, p.3)

    before_by : (k : ℕ) → Dec (k ≡ l.key) → Option ℕ
    before_by k (yes e) = own.0
    before_by k (no n) = to k

    before : ℕ → Option ℕ
    before k = before_by k (ℕ_discrete k l.key)

    upto : (k : ℕ) → (d : Dec (k ≡ l.key)) → Runs k (look k es) ls (before_by k d)
    upto k (yes e) = subst (λ j. Runs j (look j es) ls own.0) (sym e) own.1
    upto k (no n) = go (runs_inv (h k))
      where
        go : ((k ≢ l.key) × Runs k (look k es) ls (to k)) ⊎ ((m : Option ℕ) × (k ≡ l.key) × Runs k (look k es) ls m × Does l m (to k)) → Runs k (look k es) ls (to k)
        go (inl p) = p.1
        go (inr p) = absurd (n p.1)

    own_before : (d : Dec (l.key ≡ l.key)) → before_by l.key d ≡ own.0
    own_before (yes e) = refl
    own_before (no n) = absurd (n refl)

    does : Rising 0 (carry_lines ls es) → ((k : ℕ) → look k (carry_lines ls es) ≡ before k) → Does l (look l.key (carry_lines ls es)) (to l.key)
    does q f = subst (λ o. Does l o (to l.key)) (sym (f l.key ∙ own_before (ℕ_discrete l.key l.key))) own.2

    at : (k : ℕ) → Rising 0 (carry_lines ls es) → ((j : ℕ) → look j (carry_lines ls es) ≡ before j) → (d : Dec (k ≡ l.key)) → look k (apply_line l (carry_lines ls es)) ≡ to k
    at k q f (yes e) = subst (λ j. look j (apply_line l (carry_lines ls es)) ≡ to j) (sym e) (apply_look l.adds l.key l.value (carry_lines ls es) (to l.key) q (does q f))
    at k q f (no n) = apply_other l.adds k l.key l.value (carry_lines ls es) q n ∙ f k ∙ other_before (ℕ_discrete k l.key)
      where
        other_before : (d : Dec (k ≡ l.key)) → before_by k d ≡ to k
        other_before (yes e) = absurd (n e)
        other_before (no m) = refl
