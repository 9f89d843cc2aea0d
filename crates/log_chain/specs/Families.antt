-- A record's family of kinds, as the program goes by it: begin; insert and delete; commit; abort mark; end; and those that no batch has.
use Rattle.std.specs.Prelude.{ℕ, zero, suc, ◌+◌, ◌≤◌, ◌<◌, ◌≡◌, true, ◌&&◌, eqb, leb, Some, None}
use Rattle.std.proofs.Math.Path.{refl, sym, ap, ap₂}
use Rattle.std.proofs.Common.{◌∙◌, subst, arith}
use Rattle.std.proofs.Math.Bool.{false}
use mathlib.Core.List.{List, [], ◌∷◌, ◌++◌, map}
use Rattle.std.proofs.Math.ListN.{length, set, length-append, length-map}
use Rattle.def_base.specs.Tests.{le_true, le_false}
use Rattle.def_layout.specs.declared.Row.{Row}
use Rattle.def_layout.specs.Desks.{row_at, eight_rows, most_open}
use Rattle.def_layout.specs.Records.{Rec, Kind, kind_of, begin}
use Rattle.def_model.specs.Batches.{Batch, find_batch, change_batch, drop_batch, next_undo, row_of, written, tell, chains, chain_step}
use Rattle.law_bytes.specs.Pieces.{All}
use Rattle.law_bytes.specs.Ranges.{Run, in_run}
use Rattle.law_bytes.specs.Eights.{eight, eight_same}
use Rattle.law_bytes.specs.DeskRows.{place_of, used_count, eight_rows_add, new_row}
use Rattle.log_chain.specs.declared.Batches.{Batches}
use Rattle.log_chain.specs.declared.Told.{Told}
use Rattle.log_pending.specs.Holding.{Sits, Holds}
use Rattle.log_chain.specs.Shown.{batches_of, right_with, Shows, Found, marks_of, map_append}
use Rattle.log_chain.specs.Steps.{Tells, Stepped, Steps, GoesOn, goes, row_there, shows_row}

-- A step from its parts: the chain's own test, and eight batches at most. A refusal is the chain's test that fails.
pub stepped_ok : (n : ℕ) (x : Rec) (bs : List Batch) (o : Batches) (k : Kind) → x.kind ≡ k → chains k x (find_batch x.batch bs) ≡ true → length (tell k n x bs) ≤ 8
    → Shows (tell k n x bs) o → Stepped (chain_step n x bs) (tell x.kind n x bs) (Some o)
unfolding chain_step
stepped_ok n x bs o k e c l s =
    let a : chains x.kind x (find_batch x.batch bs) ≡ true = ap (λ (y : Kind). chains y x (find_batch x.batch bs)) e ∙ c in
    let b : leb (length (tell x.kind n x bs)) most_open ≡ true = ap (λ (y : Kind). leb (length (tell y n x bs)) most_open) e ∙ le_true (length (tell k n x bs)) 8 l in
    (rw (a, b), subst (λ (y : Kind). Shows (tell y n x bs) o) (sym e) s)

pub unchained : (n : ℕ) (x : Rec) (bs : List Batch) (k : Kind) → x.kind ≡ k → chains k x (find_batch x.batch bs) ≡ false → chain_step n x bs ≡ false
unfolding chain_step
unchained n x bs k e c =
    let a : chains x.kind x (find_batch x.batch bs) ≡ false = ap (λ (y : Kind). chains y x (find_batch x.batch bs)) e ∙ c in
    rw a

-- The number of batches that a change or a drop leaves.
module _ (n : ℕ) (bs : List Batch) (p : ℕ) (f : Found n bs p) (h : length bs ≤ 8) where
  size : length f.before + suc (length f.after) ≡ length bs
  size = sym (length-append f.before (f.batch ∷ f.after)) ∙ sym (ap (λ (x : List Batch). length x) f.split)

  pub change_few : (c : Batch → Batch) → length (change_batch n c bs) ≤ 8
  change_few c = omega (arith, size, h, ap (λ (x : List Batch). length x) (f.change c), length-append f.before (c f.batch ∷ f.after))

  pub drop_few : length (drop_batch n bs) ≤ 8
  drop_few = omega (arith, size, h, ap (λ (x : List Batch). length x) f.gone, length-append f.before f.after)

-- ---- begin

no_zero : (log : List Rec) (bs : List Batch) → All (Sits log) bs → (i : ℕ) → i < length (map row_of bs) → (row_at (map row_of bs) i).batch ≡ 0 → ⊥
unfolding All row_of
no_zero log [] h i l e = omega arith
no_zero log (b ∷ bs) h zero l e = omega (arith, e, h.0.from_one)
no_zero log (b ∷ bs) h (suc i) l e = no_zero log bs h.1 i (omega arith) e

pub rows_used : (rs : List Row) (log : List Rec) (bs : List Batch) → Holds log bs → rs ≡ eight_rows (map row_of bs) → place_of 0 rs ≡ length bs
rows_used rs log bs h s =
    ap (place_of 0) s ∙ used_count (map row_of bs) (omega (arith, length-map bs row_of, h.few)) (no_zero log bs h.sits) ∙ length-map bs row_of

fresh_row : (n : ℕ) → row_of (record { number = n; last = n; marked = false; lines = [] }) ≡ new_row n
unfolding row_of next_undo
fresh_row n = refl

nine : (m : ℕ) (x : Rec) (bs : List Batch) → x.kind ≡ begin → length bs ≡ 8 → chain_step m x bs ≡ false
unfolding chain_step chains tell
nine m x bs b l =
    let c : leb (length (bs ++ record { number = m; last = m; marked = false; lines = [] } ∷ [])) 8 ≡ false =
    le_false (length (bs ++ record { number = m; last = m; marked = false; lines = [] } ∷ [])) 8
    (omega (arith, l, length-append bs (record { number = m; last = m; marked = false; lines = [] } ∷ []))) in
    ap (λ (y : Kind). chains y x (find_batch x.batch bs) && leb (length (tell y m x bs)) 8) b ∙ c

module _ (o : Batches) (t : Told) (k : t.kind ≡ 1) (u : ℕ) (e : u ≡ place_of 0 o.rows) where
  begins : (x : Rec) → Tells t x → x.kind ≡ begin
  unfolding kind_of
  begins x w = sym w.kind ∙ ap kind_of k

  pub begun_full : u ≡ 8 → Steps o t None
  begun_full z log bs x h s w n = nine t.own x bs (begins x w) (omega (arith, rows_used o.rows log bs h s.rows, e, z))

  pub begun_row : (y : Row) → y ≡ new_row t.own → u ≤ 8 → (u ≡ 8 → ⊥) → Steps o t (right_with (set o.rows u y) o.marked)
  unfolding tell chains
  begun_row y v q z log bs x h s w n =
      let c : u ≡ length bs = e ∙ rows_used o.rows log bs h s.rows in
      let l : length bs < 8 = omega (arith, c, q, z) in
      let b : Batch = record { number = t.own; last = t.own; marked = false; lines = [] } in
      stepped_ok t.own x bs (batches_of (set o.rows u y) o.marked) begin (begins x w) refl
      (omega (arith, l, length-append bs (b ∷ [])))
      (record {
        rows =
            ap (set o.rows u) v ∙ ap₂ (λ (z : List Row) (m : ℕ). set z m (new_row t.own)) s.rows (c ∙ sym (length-map bs row_of))
            ∙ sym (ap eight_rows (map_append row_of bs (b ∷ []) ∙ ap (λ (y : Row). map row_of bs ++ y ∷ []) (fresh_row t.own))
            ∙ eight_rows_add (map row_of bs) (new_row t.own) (omega (arith, l, length-map bs row_of)));
        marks = s.marks ∙ sym (ap (eight false) (map_append (λ c. c.marked) bs (b ∷ [])) ∙ eight_same false (marks_of bs));
      })

-- ---- records that a batch goes on with

-- 2, 3, 6 and 7 ask the same of their batch.
abbrev Asks : ℕ → Type 0
Asks k = (x : Rec) (bs : List Batch) → chains (kind_of k) x (find_batch x.batch bs) ≡ goes x bs

pub updates_ask : (k : ℕ) → 2 ≤ k → k ≤ 3 → Asks k
unfolding Run chains kind_of
updates_ask k a b = in_run Asks 2 2 k ((λ x bs. refl), ((λ x bs. refl), tt)) a (omega arith)

pub ends_ask : (k : ℕ) → 6 ≤ k → k ≤ 7 → Asks k
unfolding Run chains kind_of
ends_ask k a b = in_run Asks 2 6 k ((λ x bs. refl), ((λ x bs. refl), tt)) a (omega arith)

module _ (o : Batches) (t : Told) (a : Asks t.kind) where
  pub halts : GoesOn o t None → Steps o t None
  halts g log bs x h s w n = unchained t.own x bs (kind_of t.kind) (sym w.kind) (a x bs ∙ g log bs x h s w)

  -- A batch that goes on: changed as the record's kind says, or gone.
  pub goes_through : (p : ℕ) → GoesOn o t (Some p) → (r : Batches)
      → ((log : List Rec) (bs : List Batch) (x : Rec) → Holds log bs → Shows bs o → Tells t x → p < 8 → Found x.batch bs p
      → (length (tell (kind_of t.kind) t.own x bs) ≤ 8) × Shows (tell (kind_of t.kind) t.own x bs) r) → Steps o t (Some r)
  goes_through p g r v log bs x h s w n =
      let f = g log bs x h s w in
      let q = v log bs x h s w f.0 f.1 in
      stepped_ok t.own x bs r (kind_of t.kind) (sym w.kind) (a x bs ∙ f.2) q.0 q.1

-- What an update's record does to its batch, by the kind's number.
update : ℕ → ℕ → Rec → Batch → Batch
update k n x = written n (record { number = n; adds = eqb k 2; key = x.key; value = x.second })

tells_update : (k n : ℕ) (x : Rec) (bs : List Batch) → 2 ≤ k → k ≤ 3 → tell (kind_of k) n x bs ≡ change_batch x.batch (update k n x) bs
unfolding Run tell kind_of update
tells_update k n x bs a b =
    in_run (λ (k : ℕ). tell (kind_of k) n x bs ≡ change_batch x.batch (update k n x) bs) 2 2 k (refl, (refl, tt)) a (omega arith)

-- A row whose batch has one line more.
abbrev pub longer_row : Row → ℕ → Row
longer_row y n = record { batch = y.batch; last = n; undo = n; pending = y.pending + 1 }

update_row : (k n : ℕ) (x : Rec) (b : Batch) → longer_row (row_of b) n ≡ row_of (update k n x b)
unfolding row_of update written next_undo
update_row k n x b = ap (λ (c : ℕ). record { batch = b.number; last = n; undo = n; pending = c }) (more (length b.lines))
  where
    more : (c : ℕ) → c + 1 ≡ suc c
    more c = omega arith

update_mark : (k n : ℕ) (x : Rec) (b : Batch) → (update k n x b).marked ≡ b.marked
unfolding update written
update_mark k n x b = refl

module _ (o : Batches) (t : Told) (p : ℕ) (g : GoesOn o t (Some p)) where
  pub updates : 2 ≤ t.kind → t.kind ≤ 3 → (y : Row) → y ≡ longer_row (row_at o.rows p) t.own → Steps o t (right_with (set o.rows p y) o.marked)
  updates a b y v =
      goes_through o t (updates_ask t.kind a b) p g (batches_of (set o.rows p y) o.marked)
      (λ log bs x h s w l f.
      let e : tell (kind_of t.kind) t.own x bs ≡ change_batch x.batch (update t.kind t.own x) bs = tells_update t.kind t.own x bs a b in
      let u : y ≡ row_of (update t.kind t.own x f.batch) =
      v ∙ ap (λ (c : Row). longer_row c t.own) (row_there o x.batch p bs s f l h.few) ∙ update_row t.kind t.own x f.batch in
      rw e (
        change_few x.batch bs p f h.few (update t.kind t.own x),
        shows_row o x.batch p bs s f l h.few (update t.kind t.own x) y u (update_mark t.kind t.own x f.batch),
      ))
