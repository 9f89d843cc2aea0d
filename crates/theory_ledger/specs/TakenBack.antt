-- LINES TAKEN BACK down to a mark (02, U2): what every key has then, and that it is what the lines kept make of what the batch found.
use Rattle.std.specs.Prelude.{ℕ, ◌≤◌, ◌<◌, ◌≡◌, refl, ◌≢◌, ◌⊎◌, Bool, true, false, List, [], ◌∷◌, ltb, eqb}
use Rattle.std.proofs.Common.{sym, ap, ◌∙◌, subst, inl, inr, arith}
use Rattle.std.proofs.Math.Option.{Option, none, some}
use Rattle.std.proofs.Math.Decide.{ℕ_discrete}
use Rattle.def_base.specs.Tests.{pick, Case, yes!, no!, case, clash, any, none_some, some_inj, lt_true, true_lt, true_eq, eq_true, neq_false}
use Rattle.def_layout.specs.declared.Entry.{Entry}
use Rattle.def_layout.specs.Entries.{look}
use Rattle.def_model.specs.Batches.{Line, Batch, find_batch}
use Rattle.theory_tree.specs.Order.Keys.{Rising}
use Rattle.theory_tree.specs.Order.Sorted.{look_ext}
use Rattle.theory_ledger.specs.Runs.{Off, DoesBy, Does, Runs, runs_inv, runs_off, apply_line, carry_lines, apply_rising, apply_look, apply_other}
use Rattle.theory_ledger.specs.Held.{AllOff, Held, passing, holding, found_off, false_neq}
use Rattle.theory_ledger.specs.HeldBy.{In, here, there, in_any}
use Rattle.theory_ledger.specs.Batching.{Falls}
use Rattle.theory_ledger.specs.Settles.{undo_apply, undo_rising, undo_look, undo_other}
use Rattle.theory_ledger.specs.Marks.{kept, taken_back, in_first, in_falls}

-- The lines run on every key to what the list has.
abbrev RunTo : List Line → List Entry → Type 0
RunTo ls es = (k : ℕ) → (o : Option ℕ) × Runs k o ls (look k es)

-- What an update found at its key: no slide where it added one, the slide's value where it removed one.
unfoldable pub line_found : (adds : Bool) → (value : ℕ) → Option ℕ
line_found true v = none
line_found false v = some v

-- THE VALUE OF KEY k once the lines above the mark are taken back, where it is o with them: what the oldest of them on k found, o if none is on k
-- (`back_oldest`, `back_none`).
unfoldable pub value_back : (mark k : ℕ) → List Line → Option ℕ → Option ℕ
value_back mark k [] o = o
value_back mark k (l ∷ ls) o = pick (ltb mark l.number) (value_back mark k ls (pick (eqb k l.key) (line_found l.adds l.value) o)) o

-- `taken_back 0` is what the batch found: its lines make the list of it, and those kept make what is left.
pub record Back (mark : ℕ) (ls : List Line) (es : List Entry) : Type 0 where
  pub rises : Rising 0 (taken_back mark ls es)
  pub at_key : (k : ℕ) → look k (taken_back mark ls es) ≡ value_back mark k ls (look k es)
  pub carried : carry_lines ls (taken_back 0 ls es) ≡ es
  pub left : carry_lines (kept mark ls) (taken_back 0 ls es) ≡ taken_back mark ls es

-- A line takes what it found to what is there.
does_found : (b : Bool) (v : ℕ) (m c : Option ℕ) → DoesBy b v m c → m ≡ line_found b v
unfolding DoesBy line_found
does_found true v m c d = d.0
does_found false v m c d = d.0

-- The newest line, and the list before it.
module _ (l : Line) (ls : List Line) (es : List Entry) (r : Rising 0 es) (h : RunTo (l ∷ ls) es) where
  own : (m : Option ℕ) × (o : Option ℕ) × Runs l.key o ls m × Does l m (look l.key es)
  own = go (h l.key).0 (runs_inv (h l.key).1)
    where
      go : (o : Option ℕ) → ((l.key ≢ l.key) × Runs l.key o ls (look l.key es)) ⊎ ((m : Option ℕ) × (l.key ≡ l.key) × Runs l.key o ls m × Does l m (look l.key es)) → (m : Option ℕ) × (o : Option ℕ) × Runs l.key o ls m × Does l m (look l.key es)
      go o (inl p) = absurd (p.0 refl)
      go o (inr p) = (p.0, o, p.2, p.3)

  before : List Entry
  before = undo_apply l es

  before_rises : Rising 0 before
  unfolding before
  before_rises = undo_rising l.adds l.key l.value es own.0 r own.3

  before_own : look l.key before ≡ own.0
  unfolding before
  before_own = undo_look l.adds l.key l.value es own.0 r own.3

  before_other : (k : ℕ) → k ≢ l.key → look k before ≡ look k es
  unfolding before
  before_other k n = undo_other l.adds k l.key l.value es r n

  before_look : (k : ℕ) → look k before ≡ pick (eqb k l.key) (line_found l.adds l.value) (look k es)
  before_look k = go (case (eqb k l.key))
    where
      go : Case (eqb k l.key) → look k before ≡ pick (eqb k l.key) (line_found l.adds l.value) (look k es)
      go (yes! t) = rw t (ap (λ j. look j before) (true_eq k l.key t) ∙ before_own ∙ does_found l.adds l.value own.0 (look l.key es) own.3)
      go (no! t) = rw t (before_other k (false_neq k l.key t))

  before_runs : RunTo ls before
  before_runs k = go (ℕ_discrete k l.key)
    where
      other : k ≢ l.key → (o : Option ℕ) → ((k ≢ l.key) × Runs k o ls (look k es)) ⊎ ((m : Option ℕ) × (k ≡ l.key) × Runs k o ls m × Does l m (look k es)) → Runs k o ls (look k es)
      other n o (inl p) = p.1
      other n o (inr p) = absurd (n p.1)

      go : Dec (k ≡ l.key) → (o : Option ℕ) × Runs k o ls (look k before)
      go (yes e) = subst (λ j. (o : Option ℕ) × Runs j o ls (look j before)) (sym e) (own.1, subst (Runs l.key own.1 ls) (sym before_own) own.2)
      go (no n) = ((h k).0, subst (Runs k (h k).0 ls) (sym (before_other k n)) (other n (h k).0 (runs_inv (h k).1)))

  -- The line carried out again.
  again : apply_line l before ≡ es
  again =
      let d : Does l (look l.key before) (look l.key es) = subst (λ o. Does l o (look l.key es)) (sym before_own) own.3 in
      look_ext 0 (apply_line l before) es (apply_rising l.adds l.key l.value before _ before_rises d) r (λ k. at d k (ℕ_discrete k l.key))
    where
      at : Does l (look l.key before) (look l.key es) → (k : ℕ) → Dec (k ≡ l.key) → look k (apply_line l before) ≡ look k es
      at d k (yes e) = subst (λ j. look j (apply_line l before) ≡ look j es) (sym e) (apply_look l.adds l.key l.value before _ before_rises d)
      at d k (no n) = apply_other l.adds k l.key l.value before before_rises n ∙ before_other k n

pub lines_taken_back : (mark n : ℕ) (ls : List Line) (es : List Entry) → Falls n ls → Rising 0 es → RunTo ls es → Back mark ls es
unfolding carry_lines kept taken_back value_back Falls before
lines_taken_back mark n [] es f r h = record { rises = r; at_key = λ k. refl; carried = refl; left = refl }
lines_taken_back mark n (l ∷ ls) es f r h = go (lines_taken_back mark l.number ls (before l ls es r h) f.2 (before_rises l ls es r h) (before_runs l ls es r h))
  where
    go : Back mark ls (before l ls es r h) → Back mark (l ∷ ls) es
    go x =
        let c = ap (carry_lines (l ∷ ls)) first ∙ ap (apply_line l) x.carried ∙ again l ls es r h in
        record { rises = up (ltb mark l.number); at_key = λ k. at k (ltb mark l.number); carried = c; left = by (ltb mark l.number) c }
      where
        -- The newest goes first: every number is above 0.
        first : taken_back 0 (l ∷ ls) es ≡ taken_back 0 ls (undo_apply l es)
        first = ap (λ t. pick t (taken_back 0 ls (undo_apply l es)) es) (lt_true 0 l.number f.0)

        up : (b : Bool) → Rising 0 (pick b (taken_back mark ls (undo_apply l es)) es)
        up true = x.rises
        up false = r

        at : (k : ℕ) (b : Bool) → look k (pick b (taken_back mark ls (undo_apply l es)) es) ≡ pick b (value_back mark k ls (pick (eqb k l.key) (line_found l.adds l.value) (look k es))) (look k es)
        at k true = x.at_key k ∙ ap (value_back mark k ls) (before_look l ls es r h k)
        at k false = refl

        by : (b : Bool) → carry_lines (l ∷ ls) (taken_back 0 (l ∷ ls) es) ≡ es → carry_lines (pick b (kept mark ls) (l ∷ ls)) (taken_back 0 (l ∷ ls) es) ≡ pick b (taken_back mark ls (undo_apply l es)) es
        by true c = ap (carry_lines (kept mark ls)) first ∙ x.left
        by false c = c

-- ---- a key's value, in words

-- No update above the mark is on k: it stays as it is.
pub back_none : (mark k : ℕ) (ls : List Line) (o : Option ℕ) → ((x : Line) → In x ls → mark < x.number → k ≢ x.key) → value_back mark k ls o ≡ o
unfolding value_back
back_none mark k [] o h = refl
back_none mark k (l ∷ ls) o h = go (case (ltb mark l.number)) (back_none mark k ls o (λ x i. h x (there i)))
  where
    go : Case (ltb mark l.number) → value_back mark k ls o ≡ o → pick (ltb mark l.number) (value_back mark k ls (pick (eqb k l.key) (line_found l.adds l.value) o)) o ≡ o
    go (yes! t) i = rw (t, neq_false (h l here (true_lt mark l.number t)), i)
    go (no! t) i = rw t refl

-- Some are: it is what the oldest of them, x, found.
pub back_oldest : (mark n k : ℕ) (ls : List Line) (o : Option ℕ) (x : Line) → Falls n ls → In x ls → mark < x.number → k ≡ x.key → ((z : Line) → In z ls → mark < z.number → k ≡ z.key → x.number ≤ z.number)
    → value_back mark k ls o ≡ line_found x.adds x.value
unfolding value_back Falls any
back_oldest mark n k [] o x f i m e h = clash (sym (in_any (λ (y : Line). true) x i refl))
back_oldest mark n k (l ∷ ls) o x f i m e h = go (in_first i) (λ p j. back_oldest mark l.number k ls p x f.2 j m e (λ z q. h z (there q)))
  where
    above : (x ≡ l) ⊎ In x ls → ltb mark l.number ≡ true
    above (inl q) = let c : x.number ≡ l.number = ap (λ y. y.number) q in lt_true mark l.number (omega arith)
    above (inr j) = let c = in_falls l.number x ls f.2 j in lt_true mark l.number (omega arith)

    -- No older one is on k.
    older : x ≡ l → (z : Line) → In z ls → mark < z.number → k ≢ z.key
    older q z j m e = let c : x.number ≡ l.number = ap (λ y. y.number) q in let a = in_falls l.number z ls f.2 j in let b = h z (there j) m e in absurd (omega arith)

    go : (x ≡ l) ⊎ In x ls → ((p : Option ℕ) → In x ls → value_back mark k ls p ≡ line_found x.adds x.value) → pick (ltb mark l.number) (value_back mark k ls (pick (eqb k l.key) (line_found l.adds l.value) o)) o ≡ line_found x.adds x.value
    go (inl q) i = rw (above (inl q), eq_true k l.key (e ∙ ap (λ y. y.key) q)) (back_none mark k ls (line_found l.adds l.value) (older q) ∙ ap (λ y. line_found y.adds y.value) (sym q))
    go (inr j) i = rw (above (inr j)) (i (pick (eqb k l.key) (line_found l.adds l.value) o) j)

-- ---- an open batch's lines run on every key

held_inv : {k : ℕ} {o c : Option ℕ} {b : Batch} {bs : List Batch} → Held k o (b ∷ bs) c → (Off k b.lines × Held k o bs c) ⊎ (Runs k o b.lines c × AllOff k bs)
held_inv (passing p h) = inl (p, h)
held_inv (holding r q) = inr (r, q)

pub found_runs : (n k : ℕ) {o c : Option ℕ} (bs : List Batch) (b : Batch) → find_batch n bs ≡ some b → Held k o bs c → (q : Option ℕ) × Runs k q b.lines c
unfolding find_batch
found_runs n k [] b e h = none_some e
found_runs n k {o} {c} (a ∷ bs) b e h = go (case (eqb n a.number)) (held_inv h) (λ e h. found_runs n k bs b e h)
  where
    go : Case (eqb n a.number) → (Off k a.lines × Held k o bs c) ⊎ (Runs k o a.lines c × AllOff k bs) → (find_batch n bs ≡ some b → Held k o bs c → (q : Option ℕ) × Runs k q b.lines c) → (q : Option ℕ) × Runs k q b.lines c
    go (yes! t) (inl p) more = (c, runs_off k c b.lines (subst (λ x. Off k x.lines) (some_inj (rw t at e)) p.0))
    go (yes! t) (inr p) more = (o, subst (λ x. Runs k o x.lines c) (some_inj (rw t at e)) p.0)
    go (no! t) (inl p) more = more (rw t at e) p.1
    go (no! t) (inr p) more = (c, runs_off k c b.lines (found_off n k bs b p.1 (rw t at e)))
