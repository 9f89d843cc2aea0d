-- One key among the open batches: at most one of them holds it, and that one's lines lead from the slides' value to the tree's.
use Rattle.std.specs.Prelude.{ℕ, ◌≡◌, refl, ◌≢◌, ◌⊎◌, Bool, true, false, not, ◌&&◌, ◌||◌, List, [], ◌∷◌, ◌++◌, eqb}
use Rattle.std.proofs.Common.{sym, ap, ◌∙◌, subst, inl, inr}
use Rattle.std.proofs.Math.Option.{Option, some}
use Rattle.def_base.specs.Tests.{pick, Case, yes!, no!, case, clash, none_some, some_inj, true_eq, eq_true, any}
use Rattle.def_model.specs.Batches.{Line, Batch, find_batch, change_batch, drop_batch}
use Rattle.def_model.specs.Pending.{held, holds}
use Rattle.theory_ledger.specs.Runs.{Does, Runs, Off, runs_off, off_runs, runs_inv}

-- No batch has a line on k.
unfoldable pub AllOff : ℕ → List Batch → Type 0
AllOff k [] = Unit {0}
AllOff k (b ∷ bs) = Off k b.lines × AllOff k bs

pub data Held (k : ℕ) : Option ℕ → List Batch → Option ℕ → Type 0 where
  nobody : {o : Option ℕ} → Held k o [] o
  passing : {o c : Option ℕ} {b : Batch} {bs : List Batch} → Off k b.lines → Held k o bs c → Held k o (b ∷ bs) c
  holding : {o c : Option ℕ} {b : Batch} {bs : List Batch} → Runs k o b.lines c → AllOff k bs → Held k o (b ∷ bs) c

pub off_held : (k : ℕ) (o : Option ℕ) (bs : List Batch) → AllOff k bs → Held k o bs o
unfolding AllOff
off_held k o [] h = nobody
off_held k o (b ∷ bs) h = passing h.0 (off_held k o bs h.1)

pub held_off : {k : ℕ} {o c : Option ℕ} {bs : List Batch} → AllOff k bs → Held k o bs c → o ≡ c
unfolding AllOff
held_off h nobody = refl
held_off h (passing f r) = held_off h.1 r
held_off h (holding r a) = off_runs h.0 r

-- Each batch number stands once.
unfoldable pub Fresh : ℕ → List Batch → Type 0
Fresh n [] = Unit {0}
Fresh n (b ∷ bs) = (n ≢ b.number) × Fresh n bs

unfoldable pub Distinct : List Batch → Type 0
Distinct [] = Unit {0}
Distinct (b ∷ bs) = Fresh b.number bs × Distinct bs

-- No batch but number n has a line on k.
unfoldable pub OthersOff : ℕ → ℕ → List Batch → Type 0
OthersOff n k [] = Unit {0}
OthersOff n k (b ∷ bs) = (n ≢ b.number → Off k b.lines) × OthersOff n k bs

pub false_neq : (a b : ℕ) → eqb a b ≡ false → a ≢ b
false_neq a b e w = clash (sym (eq_true a b w) ∙ e)

or_false : (a b : Bool) → a || b ≡ false → (a ≡ false) × (b ≡ false)
or_false true b e = clash e
or_false false b e = (refl, e)

pub any_off : (k : ℕ) (ls : List Line) → any (λ l. eqb k l.key) ls ≡ false → Off k ls
unfolding any Off
any_off k [] e = tt
any_off k (l ∷ ls) e = let (a, b) = or_false (eqb k l.key) (any (λ m. eqb k m.key) ls) e in (false_neq k l.key a, any_off k ls b)

-- 01's test of held keys says so.
pub held_others : (n k : ℕ) (bs : List Batch) → held n k bs ≡ false → OthersOff n k bs
unfolding held holds any OthersOff
held_others n k [] e = tt
held_others n k (b ∷ bs) e =
    let (a, q) = or_false (not (eqb n b.number) && any (λ l. eqb k l.key) b.lines) (any (λ c. not (eqb n c.number) && any (λ l. eqb k l.key) c.lines) bs) e in
    (λ d. any_off k b.lines (go d (case (eqb n b.number)) a), held_others n k bs q)
  where
    go : n ≢ b.number → Case (eqb n b.number) → not (eqb n b.number) && any (λ l. eqb k l.key) b.lines ≡ false → any (λ l. eqb k l.key) b.lines ≡ false
    go d (yes! c) a = absurd (d (true_eq n b.number c))
    go d (no! c) a = rw c at a

others_fresh : (n k : ℕ) (bs : List Batch) → Fresh n bs → OthersOff n k bs → AllOff k bs
unfolding Fresh OthersOff AllOff
others_fresh n k [] f h = tt
others_fresh n k (b ∷ bs) f h = (h.0 f.0, others_fresh n k bs f.1 h.1)

-- ---- the lines of one batch change

-- Where batch number n has no line on k more, nobody has.
pub offs_change : (n k : ℕ) (f : Batch → Batch) → ((b : Batch) → Off k b.lines → Off k (f b).lines) → (bs : List Batch) → AllOff k bs → AllOff k (change_batch n f bs)
unfolding AllOff change_batch
offs_change n k f h [] a = tt
offs_change n k f h (b ∷ bs) a = go (eqb n b.number) (offs_change n k f h bs a.1)
  where
    go : (t : Bool) → AllOff k (change_batch n f bs) → AllOff k (pick t (f b ∷ bs) (b ∷ change_batch n f bs))
    go true i = (h b a.0, a.1)
    go false i = (a.0, i)

-- The new lines do on k what the old ones did: a line more or less on another key, or none.
pub held_change : (n k : ℕ) (f : Batch → Batch) → ((b : Batch) → Off k b.lines → Off k (f b).lines)
    → ((b : Batch) (o c : Option ℕ) → Runs k o b.lines c → Runs k o (f b).lines c)
    → {o c : Option ℕ} {bs : List Batch} → Held k o bs c → Held k o (change_batch n f bs) c
unfolding change_batch
held_change n k f h g nobody = nobody
held_change n k f h g {o = o} {c = c} (passing {b = b} {bs = bs} q r) = go (eqb n b.number) (held_change n k f h g r)
  where
    go : (t : Bool) → Held k o (change_batch n f bs) c → Held k o (pick t (f b ∷ bs) (b ∷ change_batch n f bs)) c
    go true i = passing (h b q) r
    go false i = passing q i
held_change n k f h g {o = o} {c = c} (holding {b = b} {bs = bs} r a) = go (eqb n b.number) (offs_change n k f h bs a)
  where
    go : (t : Bool) → AllOff k (change_batch n f bs) → Held k o (pick t (f b ∷ bs) (b ∷ change_batch n f bs)) c
    go true i = holding (g b o c r) a
    go false i = holding r i

-- Nobody else holds k: batch number n may do more on it, from where the tree is.
pub held_more : (n k : ℕ) (f : Batch → Batch) (c' : Option ℕ) {o c : Option ℕ} (bs : List Batch) (b : Batch) → Distinct bs → OthersOff n k bs → find_batch n bs ≡ some b
    → ((o : Option ℕ) → Runs k o b.lines c → Runs k o (f b).lines c') → Held k o bs c → Held k o (change_batch n f bs) c'
unfolding find_batch change_batch Distinct OthersOff
held_more n k f c' [] b d q e g h = none_some e
held_more n k f c' {o} {c} (a ∷ bs) b d q e g h = go (case (eqb n a.number)) h (λ t r. held_more n k f c' bs b d.1 q.1 t g r)
  where
    go : Case (eqb n a.number) → Held k o (a ∷ bs) c → (find_batch n bs ≡ some b → Held k o bs c → Held k o (change_batch n f bs) c') → Held k o (pick (eqb n a.number) (f a ∷ bs) (a ∷ change_batch n f bs)) c'
    go (yes! t) h i =
        let z : a ≡ b = some_inj (rw t at e) in
        let w = true_eq n a.number t in
        let offs : AllOff k bs = others_fresh n k bs (subst (λ m. Fresh m bs) (sym w) d.0) q.1 in
        rw t (holding (subst (λ y. Runs k o (f y).lines c') (sym z) (g o (subst (λ y. Runs k o y.lines c) z (ran offs h)))) offs)
      where
        ran : AllOff k bs → Held k o (a ∷ bs) c → Runs k o a.lines c
        ran offs (holding r u) = r
        ran offs (passing p r) = subst (λ y. Runs k o a.lines y) (held_off offs r) (runs_off k o a.lines p)
    go (no! t) h i =
        let p : Off k a.lines = q.0 (false_neq n a.number t) in
        rw t (passing p (i (rw t at e) (below p h)))
      where
        below : Off k a.lines → Held k o (a ∷ bs) c → Held k o bs c
        below p (passing u r) = r
        below p (holding r u) = subst (λ y. Held k y bs c) (sym (off_runs p r)) (off_held k c bs u)

-- A batch among those that have no line on k has none.
pub found_off : (n k : ℕ) (bs : List Batch) (b : Batch) → AllOff k bs → find_batch n bs ≡ some b → Off k b.lines
unfolding find_batch AllOff
found_off n k [] b u e = none_some e
found_off n k (a ∷ bs) b u e = go (case (eqb n a.number)) (found_off n k bs b u.1)
  where
    go : Case (eqb n a.number) → (find_batch n bs ≡ some b → Off k b.lines) → Off k b.lines
    go (yes! t) i = subst (λ y. Off k y.lines) (some_inj (rw t at e)) u.0
    go (no! t) i = i (rw t at e)

drop_off : (n k : ℕ) (bs : List Batch) → AllOff k bs → AllOff k (drop_batch n bs)
unfolding drop_batch AllOff
drop_off n k [] u = tt
drop_off n k (a ∷ bs) u = go (eqb n a.number) (drop_off n k bs u.1)
  where
    go : (t : Bool) → AllOff k (drop_batch n bs) → AllOff k (pick t bs (a ∷ drop_batch n bs))
    go true i = u.1
    go false i = (u.0, i)

-- The newest line of batch number n, on k, is taken back: the tree goes back to where that line started.
pub held_back : (n k : ℕ) (f : Batch → Batch) {o c : Option ℕ} (bs : List Batch) (b : Batch) (l : Line) (ls : List Line) → find_batch n bs ≡ some b → b.lines ≡ l ∷ ls → (f b).lines ≡ ls
    → k ≡ l.key → Held k o bs c → (m : Option ℕ) × Does l m c × Held k o (change_batch n f bs) m
unfolding find_batch change_batch Off
held_back n k f [] b l ls e w v j h = none_some e
held_back n k f {o} {c} (a ∷ bs) b l ls e w v j h = go (case (eqb n a.number)) h (λ t r. held_back n k f bs b l ls t w v j r)
  where
    not_off : (ms : List Line) → ms ≡ l ∷ ls → Off k ms → ⊥
    not_off ms z q = let y : Off k (l ∷ ls) = subst (Off k) z q in y.0 j

    split : Runs k o (l ∷ ls) c → (m : Option ℕ) × Runs k o ls m × Does l m c
    split r = at (runs_inv r)
      where
        at : ((k ≢ l.key) × Runs k o ls c) ⊎ ((m : Option ℕ) × (k ≡ l.key) × Runs k o ls m × Does l m c) → (m : Option ℕ) × Runs k o ls m × Does l m c
        at (inl p) = absurd (p.0 j)
        at (inr p) = (p.0, p.2, p.3)

    off_others : (cs : List Batch) → AllOff k cs → find_batch n cs ≡ some b → ⊥
    off_others cs u t = not_off b.lines w (found_off n k cs b u t)

    go : Case (eqb n a.number) → Held k o (a ∷ bs) c → (find_batch n bs ≡ some b → Held k o bs c → (m : Option ℕ) × Does l m c × Held k o (change_batch n f bs) m)
        → (m : Option ℕ) × Does l m c × Held k o (pick (eqb n a.number) (f a ∷ bs) (a ∷ change_batch n f bs)) m
    go (yes! t) h i =
        let z : a ≡ b = some_inj (rw t at e) in
        on z h
      where
        on : a ≡ b → Held k o (a ∷ bs) c → (m : Option ℕ) × Does l m c × Held k o (pick (eqb n a.number) (f a ∷ bs) (a ∷ change_batch n f bs)) m
        on z (passing p r) = absurd (not_off a.lines (ap (λ y. y.lines) z ∙ w) p)
        on z (holding r u) =
            let (m, r₁, d) = split (subst (λ y. Runs k o y c) (ap (λ y. y.lines) z ∙ w) r) in
            (m, d, rw t (holding (subst (λ y. Runs k o y m) (sym (ap (λ y. (f y).lines) z ∙ v)) r₁) u))
    go (no! t) h i = on h
      where
        on : Held k o (a ∷ bs) c → (m : Option ℕ) × Does l m c × Held k o (pick (eqb n a.number) (f a ∷ bs) (a ∷ change_batch n f bs)) m
        on (passing p r) = let (m, d, q) = i (rw t at e) r in (m, d, rw t (passing p q))
        on (holding r u) = absurd (off_others bs u (rw t at e))

-- The same for every other key: the line taken back was not on it.
pub held_fewer : (n k : ℕ) (f : Batch → Batch) {o c : Option ℕ} (bs : List Batch) (b : Batch) (l : Line) (ls : List Line) → find_batch n bs ≡ some b → b.lines ≡ l ∷ ls → (f b).lines ≡ ls
    → k ≢ l.key → ((a : Batch) → Off k a.lines → Off k (f a).lines) → Held k o bs c → Held k o (change_batch n f bs) c
unfolding find_batch change_batch
held_fewer n k f [] b l ls e w v j g h = none_some e
held_fewer n k f {o} {c} (a ∷ bs) b l ls e w v j g h = go (case (eqb n a.number)) h (λ t r. held_fewer n k f bs b l ls t w v j g r)
  where
    less : Runs k o (l ∷ ls) c → Runs k o ls c
    less r = at (runs_inv r)
      where
        at : ((k ≢ l.key) × Runs k o ls c) ⊎ ((m : Option ℕ) × (k ≡ l.key) × Runs k o ls m × Does l m c) → Runs k o ls c
        at (inl p) = p.1
        at (inr p) = absurd (j p.1)

    go : Case (eqb n a.number) → Held k o (a ∷ bs) c → (find_batch n bs ≡ some b → Held k o bs c → Held k o (change_batch n f bs) c)
        → Held k o (pick (eqb n a.number) (f a ∷ bs) (a ∷ change_batch n f bs)) c
    go (yes! t) h i = on (some_inj (rw t at e)) h
      where
        on : a ≡ b → Held k o (a ∷ bs) c → Held k o (pick (eqb n a.number) (f a ∷ bs) (a ∷ change_batch n f bs)) c
        on z (passing p r) = rw t (passing (g a p) r)
        on z (holding r u) =
            let q = less (subst (λ y. Runs k o y c) (ap (λ y. y.lines) z ∙ w) r) in
            rw t (holding (subst (λ y. Runs k o y c) (sym (ap (λ y. (f y).lines) z ∙ v)) q) u)
    go (no! t) h i = on h
      where
        on : Held k o (a ∷ bs) c → Held k o (pick (eqb n a.number) (f a ∷ bs) (a ∷ change_batch n f bs)) c
        on (passing p r) = rw t (passing p (i (rw t at e) r))
        on (holding r u) = rw t (holding r (offs_change n k f g bs u))

-- ---- a batch goes, or comes

-- Batch number n is dropped: its lines carried out lead the slides' value to t, and the others go on from there.
pub held_drop : (n k : ℕ) {o c : Option ℕ} (bs : List Batch) (b : Batch) → find_batch n bs ≡ some b → Held k o bs c
    → (t : Option ℕ) × Runs k o b.lines t × Held k t (drop_batch n bs) c
unfolding find_batch drop_batch
held_drop n k [] b e h = none_some e
held_drop n k {o} {c} (a ∷ bs) b e h = go (case (eqb n a.number)) h (λ t r. held_drop n k bs b t r)
  where
    go : Case (eqb n a.number) → Held k o (a ∷ bs) c → (find_batch n bs ≡ some b → Held k o bs c → (t : Option ℕ) × Runs k o b.lines t × Held k t (drop_batch n bs) c)
        → (t : Option ℕ) × Runs k o b.lines t × Held k t (pick (eqb n a.number) bs (a ∷ drop_batch n bs)) c
    go (yes! t) h i = on (some_inj (rw t at e)) h
      where
        on : a ≡ b → Held k o (a ∷ bs) c → (t : Option ℕ) × Runs k o b.lines t × Held k t (pick (eqb n a.number) bs (a ∷ drop_batch n bs)) c
        on z (passing p r) = (o, runs_off k o b.lines (subst (λ y. Off k y.lines) z p), rw t r)
        on z (holding r u) = (c, subst (λ y. Runs k o y.lines c) z r, rw t (off_held k c bs u))
    go (no! t) h i = on h
      where
        on : Held k o (a ∷ bs) c → (t : Option ℕ) × Runs k o b.lines t × Held k t (pick (eqb n a.number) bs (a ∷ drop_batch n bs)) c
        on (passing p r) = let (m, q, y) = i (rw t at e) r in (m, q, rw t (passing p y))
        on (holding r u) = (o, runs_off k o b.lines (found_off n k bs b u (rw t at e)), rw t (holding r (drop_off n k bs u)))

pub held_begin : {k : ℕ} {o c : Option ℕ} {bs : List Batch} (b : Batch) → b.lines ≡ [] → Held k o bs c → Held k o (bs ++ b ∷ []) c
unfolding Off AllOff
held_begin {k} b e nobody = passing (subst (Off k) (sym e) tt) nobody
held_begin {k} b e (passing p r) = passing p (held_begin b e r)
held_begin {k} b e (holding {bs = bs} r u) = holding r (more bs u)
  where
    more : (cs : List Batch) → AllOff k cs → AllOff k (cs ++ b ∷ [])
    more [] a = (subst (Off k) (sym e) tt, tt)
    more (c ∷ cs) a = (a.0, more cs a.1)
