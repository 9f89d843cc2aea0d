-- The pending rule as 01 tests it, and the slides: the test holds exactly where there are slides from which the open batches' lines lead to
-- the tree's records.
use Rattle.std.specs.Prelude.{ℕ, ◌≤◌, ◌≡◌, ◌≢◌, ◌⊎◌, Bool, not, ◌&&◌, eqb}
use Rattle.std.proofs.Math.Path.{refl, ap, subst}
use Rattle.std.proofs.Common.{sym, ◌∙◌, inl, inr}
use Rattle.std.proofs.Math.Option.{Option, none, some}
use Rattle.std.proofs.Math.Bool.{true, false}
use mathlib.Core.List.{List, [], ◌∷◌, ◌++◌}
use Rattle.std.proofs.Math.Decide.{ℕ_discrete}
use Rattle.def_base.specs.Tests.{pick, Case, yes!, no!, case, clash, none_some, some_inj, true_eq, eq_true, neq_false, and_true, and_both, any, every}
use Rattle.def_layout.specs.declared.Entry.{Entry}
use Rattle.def_layout.specs.Pages.{Page}
use Rattle.def_layout.specs.Entries.{top, look}
use Rattle.def_model.specs.Fit.{found, found_value}
use Rattle.def_model.specs.Lookup.{fetched}
use Rattle.def_model.specs.Batches.{Line, Batch}
use Rattle.def_model.specs.Pending.{newest_on, alternates, lines_alternate, agrees, newest_agree, apart, pending_ok}
use Rattle.theory_tree.specs.Order.Keys.{Rising}
use Rattle.theory_ledger.specs.Runs.{DoesBy, Does, Runs, rest, other, this, Off, runs_off, off_runs, runs_inv}
use Rattle.theory_ledger.specs.Held.{AllOff, Held, nobody, passing, holding, off_held, held_off, any_off}
use Rattle.theory_ledger.specs.Small.{Small, SmallLines}
use Rattle.theory_ledger.specs.Settles.{Settles, undo_apply, undo_rising, undo_look, undo_other}

-- ---- the newest line on a key

pub newest_skip : (k : ℕ) (l : Line) (ls : List Line) → k ≢ l.key → newest_on k (l ∷ ls) ≡ newest_on k ls
unfolding newest_on
newest_skip k l ls n = rw (neq_false n)

pub newest_here : (k : ℕ) (l : Line) (ls : List Line) → k ≡ l.key → newest_on k (l ∷ ls) ≡ some l
unfolding newest_on
newest_here k l ls e = rw (eq_true k l.key e)

newest_append : (k : ℕ) (ns : List Line) (l : Line) → newest_on k (ns ++ l ∷ []) ≡ none → (newest_on k ns ≡ none) × (k ≢ l.key)
unfolding newest_on
newest_append k [] l e = (refl, λ w. none_some (sym e ∙ newest_here k l [] w))
newest_append k (m ∷ ns) l e = go (case (eqb k m.key)) (newest_append k ns l)
  where
    go : Case (eqb k m.key) → (newest_on k (ns ++ l ∷ []) ≡ none → (newest_on k ns ≡ none) × (k ≢ l.key))
        → (pick (eqb k m.key) (some m) (newest_on k ns) ≡ none) × (k ≢ l.key)
    go (yes! t) i = let y : some m ≡ none = rw t at e in none_some (sym y)
    go (no! t) i = let (a, b) = i (rw t at e) in (rw t a, b)

-- The newest line on k did the last step.
newest_did : {k : ℕ} {o c : Option ℕ} {ls : List Line} (q : Line) → Runs k o ls c → newest_on k ls ≡ some q → (m : Option ℕ) × Does q m c
unfolding newest_on
newest_did q rest e = none_some e
newest_did {k} q (other {l = l} {ls = ls} n r) e = newest_did q r (sym (newest_skip k l ls n) ∙ e)
newest_did {k} {c = c} q (this {m = m} {l = l} {ls = ls} j r d) e =
    let z : l ≡ q = some_inj (sym (newest_here k l ls j) ∙ e) in
    (m, subst (λ y. Does y m c) z d)

-- ---- from the slides to the test

alternate_by : (l q : Line) (a b : Bool) (m c m' : Option ℕ) → l.adds ≡ a → q.adds ≡ b → DoesBy a l.value m c → DoesBy b q.value m' m
    → pick a (not b) (b && eqb l.value q.value) ≡ true
unfolding DoesBy
alternate_by l q true true m c m' p r d f = none_some (sym d.0 ∙ f.1)
alternate_by l q true false m c m' p r d f = refl
alternate_by l q false true m c m' p r d f = eq_true l.value q.value (some_inj (sym d.0 ∙ f.1))
alternate_by l q false false m c m' p r d f = none_some (sym f.1 ∙ d.0)

alternates_true : (l : Line) (o m c : Option ℕ) (ls : List Line) → Runs l.key o ls m → Does l m c → (n : Option Line) → newest_on l.key ls ≡ n → alternates l n ≡ true
unfolding alternates
alternates_true l o m c ls r d none e = refl
alternates_true l o m c ls r d (some q) e = let (m', f) = newest_did q r e in alternate_by l q l.adds q.adds m c m' refl refl d f

-- Lines that run on every key alternate.
pub runs_alternate : (ls : List Line) → ((k : ℕ) → (o c : Option ℕ) × Runs k o ls c) → lines_alternate ls ≡ true
unfolding lines_alternate
runs_alternate [] h = refl
runs_alternate (l ∷ ls) h = and_both (first (h l.key)) (runs_alternate ls (λ k. fewer k (h k)))
  where
    first : (o c : Option ℕ) × Runs l.key o (l ∷ ls) c → alternates l (newest_on l.key ls) ≡ true
    first (o, c, r) = go (runs_inv r)
      where
        go : ((l.key ≢ l.key) × Runs l.key o ls c) ⊎ ((m : Option ℕ) × (l.key ≡ l.key) × Runs l.key o ls m × Does l m c) → alternates l (newest_on l.key ls) ≡ true
        go (inl p) = absurd (p.0 refl)
        go (inr p) = alternates_true l o p.0 c ls p.2 p.3 (newest_on l.key ls) refl

    fewer : (k : ℕ) → (o c : Option ℕ) × Runs k o (l ∷ ls) c → (o c : Option ℕ) × Runs k o ls c
    fewer k (o, c, r) = go (runs_inv r)
      where
        go : ((k ≢ l.key) × Runs k o ls c) ⊎ ((m : Option ℕ) × (k ≡ l.key) × Runs k o ls m × Does l m c) → (o c : Option ℕ) × Runs k o ls c
        go (inl p) = (o, c, p.1)
        go (inr p) = (o, p.0, p.2)

module _ (pages : List Page) (leaves : List Entry) (same : (k : ℕ) → k ≤ top → fetched k pages ≡ look k leaves) where
  agrees_by : (l : Line) (a : Bool) (m : Option ℕ) → l.key ≤ top → DoesBy a l.value m (look l.key leaves)
      → pick a (found_value l.value (fetched l.key pages)) (not (found (fetched l.key pages))) ≡ true
  unfolding DoesBy found_value found
  agrees_by l true m kt d = rw (same l.key kt, d.1) (eq_true l.value l.value refl)
  agrees_by l false m kt d = rw (same l.key kt, d.1)

  -- Lines that lead to the tree's records, but for keys with newer lines, agree with the tree.
  pub runs_agree : (newer ls : List Line) → SmallLines ls → ((k : ℕ) → newest_on k newer ≡ none → (o : Option ℕ) × Runs k o ls (look k leaves)) → newest_agree pages newer ls ≡ true
  unfolding newest_agree agrees found SmallLines
  runs_agree newer [] q h = refl
  runs_agree newer (l ∷ ls) q h = and_both (first (newest_on l.key newer) refl) (runs_agree (newer ++ l ∷ []) ls q.1 (λ k e. fewer k (newest_append k newer l e)))
    where
      first : (n : Option Line) → newest_on l.key newer ≡ n → pick (found (newest_on l.key newer)) true (agrees pages l) ≡ true
      first (some q) e = rw e
      first none e =
          let (o, r) = h l.key e in
          rw e (go o (runs_inv r))
        where
          go : (o : Option ℕ) → ((l.key ≢ l.key) × Runs l.key o ls (look l.key leaves)) ⊎ ((m : Option ℕ) × (l.key ≡ l.key) × Runs l.key o ls m × Does l m (look l.key leaves)) → agrees pages l ≡ true
          go o (inl p) = absurd (p.0 refl)
          go o (inr p) = agrees_by l l.adds p.0 q.0 p.3

      fewer : (k : ℕ) → (newest_on k newer ≡ none) × (k ≢ l.key) → (o : Option ℕ) × Runs k o ls (look k leaves)
      fewer k (e, n) =
          let (o, r) = h k e in
          go o (runs_inv r)
        where
          go : (o : Option ℕ) → ((k ≢ l.key) × Runs k o ls (look k leaves)) ⊎ ((m : Option ℕ) × (k ≡ l.key) × Runs k o ls m × Does l m (look k leaves)) → (o : Option ℕ) × Runs k o ls (look k leaves)
          go o (inl p) = (o, p.1)
          go o (inr p) = absurd (n p.1)

-- ---- one batch a key

not_any : (k : ℕ) (ls : List Line) → Off k ls → any (λ m. eqb k m.key) ls ≡ false
unfolding any Off
not_any k [] h = refl
not_any k (l ∷ ls) h = rw (neq_false h.0) (not_any k ls h.1)

lines_apart : (ls ms : List Line) → ((k : ℕ) → Off k ls ⊎ Off k ms) → every (λ m. not (any (λ l. eqb m.key l.key) ls)) ms ≡ true
unfolding every Off
lines_apart ls [] h = refl
lines_apart ls (m ∷ ms) h = and_both (first (h m.key)) (lines_apart ls ms (λ k. fewer k (h k)))
  where
    first : Off m.key ls ⊎ Off m.key (m ∷ ms) → not (any (λ l. eqb m.key l.key) ls) ≡ true
    first (inl q) = ap not (not_any m.key ls q)
    first (inr q) = absurd (q.0 refl)

    fewer : (k : ℕ) → Off k ls ⊎ Off k (m ∷ ms) → Off k ls ⊎ Off k ms
    fewer k (inl q) = inl q
    fewer k (inr q) = inr q.1

apart_true : (ls : List Line) (bs : List Batch) → ((k : ℕ) → Off k ls ⊎ AllOff k bs) → apart ls bs ≡ true
unfolding apart every AllOff
apart_true ls [] h = refl
apart_true ls (b ∷ bs) h = and_both (lines_apart ls b.lines (λ k. first k (h k))) (apart_true ls bs (λ k. fewer k (h k)))
  where
    first : (k : ℕ) → Off k ls ⊎ AllOff k (b ∷ bs) → Off k ls ⊎ Off k b.lines
    first k (inl q) = inl q
    first k (inr q) = inr q.0

    fewer : (k : ℕ) → Off k ls ⊎ AllOff k (b ∷ bs) → Off k ls ⊎ AllOff k bs
    fewer k (inl q) = inl q
    fewer k (inr q) = inr q.1

-- What one key's holder says of the first batch and of the others.
first_runs : {k : ℕ} {o c : Option ℕ} {b : Batch} {bs : List Batch} → Held k o (b ∷ bs) c → (m : Option ℕ) × Runs k o b.lines m
first_runs {k} {o} {b = b} (passing p h) = (o, runs_off k o b.lines p)
first_runs {c = c} (holding r a) = (c, r)

first_to : {k : ℕ} {o c : Option ℕ} {b : Batch} {bs : List Batch} → Held k o (b ∷ bs) c → (m : Option ℕ) × Runs k m b.lines c
first_to {k} {c = c} {b = b} (passing p h) = (c, runs_off k c b.lines p)
first_to {o = o} (holding r a) = (o, r)

first_or_others : {k : ℕ} {o c : Option ℕ} {b : Batch} {bs : List Batch} → Held k o (b ∷ bs) c → Off k b.lines ⊎ AllOff k bs
first_or_others (passing p h) = inl p
first_or_others (holding r a) = inr a

others_held : {k : ℕ} {o c : Option ℕ} {b : Batch} {bs : List Batch} → Held k o (b ∷ bs) c → (m : Option ℕ) × Held k m bs c
others_held {o = o} (passing p h) = (o, h)
others_held {k} {c = c} {bs = bs} (holding r a) = (c, off_held k c bs a)

-- THE TEST HOLDS where there are slides.
module _ (pages : List Page) (leaves : List Entry) (same : (k : ℕ) → k ≤ top → fetched k pages ≡ look k leaves) where
  pub held_pending : (bs : List Batch) → Small bs → ((k : ℕ) → (o : Option ℕ) × Held k o bs (look k leaves)) → pending_ok pages bs ≡ true
  unfolding pending_ok newest_on Small
  held_pending [] q h = refl
  held_pending (b ∷ bs) q h =
      and_both (runs_alternate b.lines (λ k. let (o, x) = h k in let (m, r) = first_runs x in (o, m, r)))
      (and_both (runs_agree pages leaves same [] b.lines q.0 (λ k e. let (o, x) = h k in first_to x))
      (and_both (apart_true b.lines bs (λ k. let (o, x) = h k in first_or_others x))
      (held_pending bs q.1 (λ k. let (o, x) = h k in others_held x))))

  pub settles_pending : (slides : List Entry) (bs : List Batch) → Small bs → Settles slides leaves bs → pending_ok pages bs ≡ true
  settles_pending slides bs q s = held_pending bs q (λ k. (look k slides, s.at_key k))

-- ---- from the test to the slides

-- What a line left stands there.
unfoldable pub LeftBy : Bool → ℕ → Option ℕ → Type 0
LeftBy true v o = o ≡ some v
LeftBy false v o = o ≡ none

-- The newest line on each key left what the list has.
abbrev pub Left : List Entry → List Line → Type 0
Left es ls = (k : ℕ) (q : Line) → newest_on k ls ≡ some q → LeftBy q.adds q.value (look k es)

left_does : (b : Bool) (k v : ℕ) (es : List Entry) → LeftBy b v (look k es) → (m : Option ℕ) × DoesBy b v m (look k es)
unfolding LeftBy DoesBy
left_does true k v es h = (none, (refl, h))
left_does false k v es h = (some v, (refl, h))

-- A line before another on the same key left what that one started from.
before_by : (a b : Bool) (v u : ℕ) (m c : Option ℕ) → pick a (not b) (b && eqb v u) ≡ true → DoesBy a v m c → LeftBy b u m
unfolding DoesBy LeftBy
before_by true true v u m c e d = clash (sym e)
before_by true false v u m c e d = d.0
before_by false true v u m c e d = d.0 ∙ ap some (true_eq v u e)
before_by false false v u m c e d = clash (sym e)

-- Alternating lines whose newest left what the list has can be taken back.
pub lines_back : (ls : List Line) (es : List Entry) → Rising 0 es → lines_alternate ls ≡ true → Left es ls
    → (fs : List Entry) × Rising 0 fs × ((k : ℕ) → Runs k (look k fs) ls (look k es))
unfolding lines_alternate alternates
lines_back [] es r a h = (es, r, λ k. rest)
lines_back (l ∷ ls) es r a h =
    let (a₁, a₂) = and_true (alternates l (newest_on l.key ls)) (lines_alternate ls) a in
    let (m, d) = left_does l.adds l.key l.value es (h l.key l (newest_here l.key l ls refl)) in
    let (fs, q, f) = lines_back ls (undo_apply l es) (undo_rising l.adds l.key l.value es m r d) a₂ (λ k p e. left m d a₁ k p e (ℕ_discrete k l.key)) in
    (fs, q, λ k. at m d fs k (f k) (ℕ_discrete k l.key))
  where
    left : (m : Option ℕ) → Does l m (look l.key es) → alternates l (newest_on l.key ls) ≡ true
        → (k : ℕ) (p : Line) → newest_on k ls ≡ some p → Dec (k ≡ l.key) → LeftBy p.adds p.value (look k (undo_apply l es))
    left m d a₁ k p e (no n) =
        subst (LeftBy p.adds p.value) (sym (undo_other l.adds k l.key l.value es r n)) (h k p (newest_skip k l ls n ∙ e))
    left m d a₁ k p e (yes z) =
        let y : look k (undo_apply l es) ≡ m = ap (λ j. look j (undo_apply l es)) z ∙ undo_look l.adds l.key l.value es m r d in
        let w : newest_on l.key ls ≡ some p = ap (λ j. newest_on j ls) (sym z) ∙ e in
        subst (LeftBy p.adds p.value) (sym y) (before_by l.adds p.adds l.value p.value m (look l.key es) (subst (λ o. alternates l o ≡ true) w a₁) d)

    at : (m : Option ℕ) → Does l m (look l.key es) → (fs : List Entry) (k : ℕ) → Runs k (look k fs) ls (look k (undo_apply l es)) → Dec (k ≡ l.key) → Runs k (look k fs) (l ∷ ls) (look k es)
    at m d fs k x (no n) = other n (subst (λ o. Runs k (look k fs) ls o) (undo_other l.adds k l.key l.value es r n) x)
    at m d fs k x (yes z) =
        let y : look k (undo_apply l es) ≡ m = ap (λ j. look j (undo_apply l es)) z ∙ undo_look l.adds l.key l.value es m r d in
        this z (subst (λ o. Runs k (look k fs) ls o) y x) (subst (λ j. Does l m (look j es)) (sym z) d)

-- The test's two parts on a batch's lines, and that the batches lie apart.
left_by : (b : Bool) (v : ℕ) (o : Option ℕ) → pick b (found_value v o) (not (found o)) ≡ true → LeftBy b v o
unfolding LeftBy found_value found
left_by true v none e = clash (sym e)
left_by true v (some u) e = ap some (true_eq u v e)
left_by false v none e = refl
left_by false v (some u) e = clash (sym e)

newest_key : (k : ℕ) (ls : List Line) (q : Line) → newest_on k ls ≡ some q → k ≡ q.key
unfolding newest_on
newest_key k [] q e = none_some e
newest_key k (l ∷ ls) q e = go (case (eqb k l.key)) (newest_key k ls q)
  where
    go : Case (eqb k l.key) → (newest_on k ls ≡ some q → k ≡ q.key) → k ≡ q.key
    go (yes! t) i = true_eq k l.key t ∙ ap (λ y. y.key) (some_inj (rw t at e))
    go (no! t) i = i (rw t at e)

newest_none : (k : ℕ) (ns : List Line) (l : Line) → newest_on k ns ≡ none → k ≢ l.key → newest_on k (ns ++ l ∷ []) ≡ none
unfolding newest_on
newest_none k [] l e n = newest_skip k l [] n
newest_none k (m ∷ ns) l e n = go (case (eqb k m.key)) (newest_none k ns l)
  where
    go : Case (eqb k m.key) → (newest_on k ns ≡ none → k ≢ l.key → newest_on k (ns ++ l ∷ []) ≡ none) → pick (eqb k m.key) (some m) (newest_on k (ns ++ l ∷ [])) ≡ none
    go (yes! t) i = let y : some m ≡ none = rw t at e in none_some (sym y)
    go (no! t) i = rw t (i (rw t at e) n)

module _ (pages : List Page) (leaves : List Entry) (same : (k : ℕ) → k ≤ top → fetched k pages ≡ look k leaves) where
  agree_left : (newer ls : List Line) → SmallLines ls → newest_agree pages newer ls ≡ true → (k : ℕ) (q : Line) → newest_on k newer ≡ none → newest_on k ls ≡ some q → LeftBy q.adds q.value (look k leaves)
  unfolding newest_agree agrees found newest_on SmallLines
  agree_left newer [] sm a k q e f = none_some f
  agree_left newer (l ∷ ls) sm a k q e f =
      let (a₁, a₂) = and_true (pick (found (newest_on l.key newer)) true (agrees pages l)) (newest_agree pages (newer ++ l ∷ []) ls) a in
      go a₁ (λ n. agree_left (newer ++ l ∷ []) ls sm.1 a₂ k q (newest_none k newer l e n) (sym (newest_skip k l ls n) ∙ f)) (ℕ_discrete k l.key)
    where
      go : pick (found (newest_on l.key newer)) true (agrees pages l) ≡ true → (k ≢ l.key → LeftBy q.adds q.value (look k leaves)) → Dec (k ≡ l.key) → LeftBy q.adds q.value (look k leaves)
      go a₁ i (no n) = i n
      go a₁ i (yes z) =
          let w : newest_on l.key newer ≡ none = ap (λ j. newest_on j newer) (sym z) ∙ e in
          let t : l ≡ q = some_inj (sym (newest_here k l ls z) ∙ f) in
          let u : agrees pages l ≡ true = rw w at a₁ in
          subst (λ y. LeftBy y.adds y.value (look k leaves)) t
          (subst (LeftBy l.adds l.value) (sym (ap (λ j. look j leaves) z) ∙ refl) (subst (LeftBy l.adds l.value) (same l.key sm.0) (left_by l.adds l.value (fetched l.key pages) u)))

-- ---- all batches

off_newest : (k : ℕ) (ls : List Line) → Off k ls → newest_on k ls ≡ none
unfolding Off newest_on
off_newest k [] h = refl
off_newest k (l ∷ ls) h = newest_skip k l ls h.0 ∙ off_newest k ls h.1

not_true : (b : Bool) → not b ≡ true → b ≡ false
not_true true e = clash (sym e)
not_true false e = refl

-- A key of one list that no line of the other is on.
apart_lines : (ls ms : List Line) → every (λ m. not (any (λ l. eqb m.key l.key) ls)) ms ≡ true → (k : ℕ) → any (λ l. eqb k l.key) ls ≡ true → Off k ms
unfolding every Off
apart_lines ls [] e k a = tt
apart_lines ls (m ∷ ms) e k a =
    let (p, q) = and_true (not (any (λ l. eqb m.key l.key) ls)) (every (λ m. not (any (λ l. eqb m.key l.key) ls)) ms) e in
    (λ w. clash (sym (subst (λ j. any (λ l. eqb j l.key) ls ≡ true) w a) ∙ not_true _ p), apart_lines ls ms q k a)

apart_off : (ls : List Line) (bs : List Batch) → apart ls bs ≡ true → (k : ℕ) → any (λ l. eqb k l.key) ls ≡ true → AllOff k bs
unfolding apart every AllOff
apart_off ls [] e k a = tt
apart_off ls (b ∷ bs) e k a =
    let (p, q) = and_true (every (λ m. not (any (λ l. eqb m.key l.key) ls)) b.lines) (apart ls bs) e in
    (apart_lines ls b.lines p k a, apart_off ls bs q k a)

one_or_others : (ls : List Line) (bs : List Batch) → apart ls bs ≡ true → (k : ℕ) → Off k ls ⊎ AllOff k bs
one_or_others ls bs e k = go (case (any (λ l. eqb k l.key) ls))
  where
    go : Case (any (λ l. eqb k l.key) ls) → Off k ls ⊎ AllOff k bs
    go (yes! a) = inr (apart_off ls bs e k a)
    go (no! a) = inl (any_off k ls a)

-- What the test says of every batch, against a list in place of the tree.
unfoldable pub Facts : List Entry → List Batch → Type 0
Facts es [] = Unit {0}
Facts es (b ∷ bs) = (lines_alternate b.lines ≡ true) × Left es b.lines × ((k : ℕ) → Off k b.lines ⊎ AllOff k bs) × Facts es bs

-- Another list will do that differs only on keys that none of the batches is on.
facts_move : (es gs : List Entry) (ls : List Line) (bs : List Batch) → ((k : ℕ) → Off k ls ⊎ AllOff k bs) → ((k : ℕ) → Off k ls → look k gs ≡ look k es) → Facts es bs → Facts gs bs
unfolding Facts AllOff
facts_move es gs ls [] h f x = tt
facts_move es gs ls (b ∷ bs) h f x =
    (x.0, λ k q e. left k q e (h k), x.2, facts_move es gs ls bs (λ k. fewer k (h k)) f x.3)
  where
    left : (k : ℕ) (q : Line) → newest_on k b.lines ≡ some q → Off k ls ⊎ AllOff k (b ∷ bs) → LeftBy q.adds q.value (look k gs)
    left k q e (inl o) = subst (LeftBy q.adds q.value) (sym (f k o)) (x.1 k q e)
    left k q e (inr o) = none_some (sym (off_newest k b.lines o.0) ∙ e)

    fewer : (k : ℕ) → Off k ls ⊎ AllOff k (b ∷ bs) → Off k ls ⊎ AllOff k bs
    fewer k (inl q) = inl q
    fewer k (inr q) = inr q.1

pub batches_back : (bs : List Batch) (es : List Entry) → Rising 0 es → Facts es bs → (fs : List Entry) × Rising 0 fs × ((k : ℕ) → Held k (look k fs) bs (look k es))
unfolding Facts
batches_back [] es r x = (es, r, λ k. nobody)
batches_back (b ∷ bs) es r x =
    let (gs, q, run) = lines_back b.lines es r x.0 x.1 in
    let (fs, t, held) = batches_back bs gs q (facts_move es gs b.lines bs x.2 (λ k o. off_runs o (run k)) x.3) in
    (fs, t, λ k. at gs fs k (run k) (held k) (x.2 k))
  where
    at : (gs fs : List Entry) (k : ℕ) → Runs k (look k gs) b.lines (look k es) → Held k (look k fs) bs (look k gs) → Off k b.lines ⊎ AllOff k bs → Held k (look k fs) (b ∷ bs) (look k es)
    at gs fs k run held (inl o) = passing o (subst (λ c. Held k (look k fs) bs c) (off_runs o run) held)
    at gs fs k run held (inr a) = holding (subst (λ o. Runs k o b.lines (look k es)) (sym (held_off a held)) run) a

-- THERE ARE SLIDES where the test holds.
module _ (pages : List Page) (leaves : List Entry) (same : (k : ℕ) → k ≤ top → fetched k pages ≡ look k leaves) where
  pending_facts : (bs : List Batch) → Small bs → pending_ok pages bs ≡ true → Facts leaves bs
  unfolding pending_ok Facts newest_on Small
  pending_facts [] sm e = tt
  pending_facts (b ∷ bs) sm e =
      let (a, e₁) = and_true (lines_alternate b.lines) _ e in
      let (n, e₂) = and_true (newest_agree pages [] b.lines) _ e₁ in
      let (p, e₃) = and_true (apart b.lines bs) (pending_ok pages bs) e₂ in
      (a, (λ k q f. agree_left pages leaves same [] b.lines sm.0 n k q refl f), one_or_others b.lines bs p, pending_facts bs sm.1 e₃)

  pub pending_settles : (bs : List Batch) → Small bs → Rising 0 leaves → pending_ok pages bs ≡ true → (slides : List Entry) × Settles slides leaves bs
  pending_settles bs sm r e =
      let (fs, q, h) = batches_back bs leaves r (pending_facts bs sm e) in
      (fs, record { slides_rise = q; leaves_rise = r; at_key = h })
