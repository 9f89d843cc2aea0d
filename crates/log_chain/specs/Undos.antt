-- An undo: its batch's newest line is read from the log, and what is left pending is the line below.
use Rattle.std.specs.Prelude.{ℕ, suc, ◌-◌, ◌≤◌, ◌≡◌, Bool, true, not, ◌&&◌, set, eqb, Option, Some, None}
use Rattle.std.proofs.Math.Path.{refl, sym, ap, ap₂}
use Rattle.std.proofs.Common.{◌∙◌, subst, arith}
use Rattle.std.proofs.Math.Option.{some}
use Rattle.std.proofs.Math.Bool.{false}
use mathlib.Core.List.{List, [], ◌∷◌}
use Rattle.std.proofs.Math.ListN.{length}
use Rattle.def_base.specs.Tests.{pick}
use Rattle.def_layout.specs.declared.Row.{Row}
use Rattle.def_layout.specs.Desks.{row_at}
use Rattle.def_layout.specs.Records.{Rec, kind_of}
use Rattle.def_model.specs.Batches as model
use Rattle.def_model.specs.Batches.{Batch, find_batch, change_batch, rest_of, next_undo, row_of, undone, tell, newest_is, undoes_line, undoes, chains, chain_step}
use Rattle.law_bytes.specs.Ranges.{Run, in_run}
use Rattle.log_chain.specs.declared.Batches.{Batches}
use Rattle.log_chain.specs.declared.Told.{Told}
use Rattle.log_pending.specs.declared.Line.{Line}
use Rattle.log_pending.specs.Below.{Linked}
use Rattle.log_pending.specs.Batches.{all_found}
use Rattle.log_pending.specs.Holding.{Sits, Holds}
use Rattle.log_pending.specs.Reading.{Reads}
use Rattle.log_pending.specs.Lines.{shown_line, TellsLine}
use Rattle.log_chain.specs.Shown.{batches_of, right_with, Shows, Found}
use Rattle.log_chain.specs.Steps.{Tells, Stepped, Places, row_there, shows_row, found_as, none_as}
use Rattle.log_chain.specs.Families.{stepped_ok, unchained, change_few}

-- As `Steps`, of a log that the area shows.
abbrev pub StepsIn : ℕ → List ℕ → Batches → Told → Option Batches → Type 0
StepsIn m b o t r = (log : List Rec) (bs : List Batch) (x : Rec) → Reads m b log → Holds log bs → Shows bs o → Tells t x → t.own ≡ suc (length log)
    → Stepped (chain_step t.own x bs) (tell x.kind t.own x bs) r

-- The line is what the record undoes, and what is below it is what the record says is left.
unfoldable pub line_undone : Told → Line → Bool
line_undone t l =
    eqb t.key l.key && (eqb t.previous l.below && pick (eqb t.kind 4) l.adds (not l.adds && eqb t.second l.value))

-- The program's tests of it, one after the other.
module _ (t : Told) (l : Line) where
  pub other_key : eqb t.key l.key ≡ false → line_undone t l ≡ false
  unfolding line_undone
  other_key e = rw e

  module _ (e : eqb t.key l.key ≡ true) where
    pub other_left : eqb t.previous l.below ≡ false → line_undone t l ≡ false
    unfolding line_undone
    other_left f = rw (e, f)

    module _ (f : eqb t.previous l.below ≡ true) where
      pub insert_undone : eqb t.kind 4 ≡ true → line_undone t l ≡ l.adds
      unfolding line_undone
      insert_undone k = rw (e, f, k)

      pub delete_undone : eqb t.kind 4 ≡ false → line_undone t l ≡ not l.adds && eqb t.second l.value
      unfolding line_undone
      delete_undone k = rw (e, f, k)

and_swap : (a b c : Bool) → a && (b && c) ≡ c && (a && b)
and_swap true true true = refl
and_swap true true false = refl
and_swap true false true = refl
and_swap true false false = refl
and_swap false b true = refl
and_swap false b false = refl

newest_by : (a : Bool) (v : ℕ) (l : model.Line) (ls : List model.Line) → newest_is a v (l ∷ ls) ≡ pick a l.adds (not l.adds && eqb v l.value)
unfolding newest_is
newest_by true v l ls = refl
newest_by false v l ls = refl

undoes_shown : (t : Told) (x : Rec) (b : Batch) (l : model.Line) (ls : List model.Line) → Tells t x → b.lines ≡ l ∷ ls
    → undoes (eqb t.kind 4) x (some b) ≡ line_undone t (shown_line l ls)
unfolding undoes undoes_line line_undone
undoes_shown t x b l ls w e =
    rw e
    (ap (λ (y : Bool). y && (eqb x.key l.key && eqb x.previous (next_undo ls))) (newest_by (eqb t.kind 4) x.second l ls)
    ∙ sym (rw (w.key, w.previous, w.second)
    (and_swap (eqb x.key l.key) (eqb x.previous (next_undo ls)) (pick (eqb t.kind 4) l.adds (not l.adds && eqb x.second l.value)))))

undoes_nothing : (a : Bool) (x : Rec) (b : Batch) → b.lines ≡ [] → undoes a x (some b) ≡ false
unfolding undoes newest_is
undoes_nothing a x b e = rw e

-- A row whose batch has one line less.
abbrev shorter_row : Row → ℕ → ℕ → Row
shorter_row y n under = record { batch = y.batch; last = n; undo = under; pending = y.pending - 1 }

undone_row : (n : ℕ) (b : Batch) (l : model.Line) (ls : List model.Line) → b.lines ≡ l ∷ ls → shorter_row (row_of b) n (next_undo ls) ≡ row_of (undone n b)
unfolding row_of undone rest_of
undone_row n b l ls e = rw e (ap (λ (c : ℕ). record { batch = b.number; last = n; undo = next_undo ls; pending = c }) (less (length ls)))
  where
    less : (c : ℕ) → suc c - 1 ≡ c
    less c = omega arith

-- Something is pending, or nothing is.
data Pends (ls : List model.Line) : Type 0 where
  pends : (l : model.Line) (rest : List model.Line) → ls ≡ l ∷ rest → Pends ls
  nothing : ls ≡ [] → Pends ls

pending_case : (ls : List model.Line) → Pends ls
pending_case [] = nothing refl
pending_case (l ∷ ls) = pends l ls refl

module _ (m : ℕ) (b : List ℕ) (o : Batches) (t : Told) (k : 4 ≤ t.kind) (q : t.kind ≤ 5) where
  asks : (x : Rec) (bs : List Batch) → chains (kind_of t.kind) x (find_batch x.batch bs) ≡ undoes (eqb t.kind 4) x (find_batch x.batch bs)
  unfolding Run chains kind_of
  asks x bs =
      in_run (λ (y : ℕ). chains (kind_of y) x (find_batch x.batch bs) ≡ undoes (eqb y 4) x (find_batch x.batch bs)) 2 4 t.kind (refl, (refl, tt)) k (omega arith)

  tells_undone : (n : ℕ) (x : Rec) (bs : List Batch) → tell (kind_of t.kind) n x bs ≡ change_batch x.batch (undone n) bs
  unfolding Run tell kind_of
  tells_undone n x bs =
      in_run (λ (y : ℕ). tell (kind_of y) n x bs ≡ change_batch x.batch (undone n) bs) 2 4 t.kind (refl, (refl, tt)) k (omega arith)

  undo_off : (x : Rec) (bs : List Batch) → Tells t x → undoes (eqb t.kind 4) x (find_batch x.batch bs) ≡ false → chain_step t.own x bs ≡ false
  undo_off x bs w z = unchained t.own x bs (kind_of t.kind) (sym w.kind) (asks x bs ∙ z)

  pub undo_nowhere : Places o.rows t.batch None → StepsIn m b o t None
  unfolding undoes
  undo_nowhere g log bs x e h s w n = undo_off x bs w (ap (undoes (eqb t.kind 4) x) (none_as w bs (g log bs h s.rows)))

  module _ (p : ℕ) (g : Places o.rows t.batch (Some p)) where
    -- The record's batch, in its place.
    there : (log : List Rec) (bs : List Batch) (x : Rec) → Holds log bs → Shows bs o → Tells t x → Found x.batch bs p
    there log bs x h s w = found_as w bs (g log bs h s.rows).1

    undo_not : (log : List Rec) (bs : List Batch) (x : Rec) (h : Holds log bs) (s : Shows bs o) (w : Tells t x)
        → undoes (eqb t.kind 4) x (some (there log bs x h s w).batch) ≡ false → chain_step t.own x bs ≡ false
    undo_not log bs x h s w z = undo_off x bs w (ap (undoes (eqb t.kind 4) x) (there log bs x h s w).is ∙ z)

    row_is : (log : List Rec) (bs : List Batch) (x : Rec) (h : Holds log bs) (s : Shows bs o) (w : Tells t x) → row_at o.rows p ≡ row_of (there log bs x h s w).batch
    row_is log bs x h s w = row_there o x.batch p bs s (there log bs x h s w) (g log bs h s.rows).0 h.few

    pub undo_nothing : (row_at o.rows p).pending ≡ 0 → StepsIn m b o t None
    unfolding row_of
    undo_nothing z log bs x e h s w n =
        let f = there log bs x h s w in
        let c : length f.batch.lines ≡ 0 = sym (ap (λ (y : Row). y.pending) (row_is log bs x h s w)) ∙ z in
        undo_not log bs x h s w (undoes_nothing (eqb t.kind 4) x f.batch (none_there f.batch.lines c))
      where
        none_there : (ls : List model.Line) → length ls ≡ 0 → ls ≡ []
        none_there [] c = refl
        none_there (l ∷ ls) c = absurd (omega arith)

    -- The newest line as it was read.
    module _ (z : (row_at o.rows p).pending ≡ 0 → ⊥) (line : Line) (u : TellsLine m b (row_at o.rows p).undo line) where
      record Newest (f : Batch) : Type 0 where
        pub top : model.Line
        pub rest : List model.Line
        pub lines : f.lines ≡ top ∷ rest
        pub shown : line ≡ shown_line top rest

      newest_read : (log : List Rec) (bs : List Batch) (x : Rec) → Reads m b log → (h : Holds log bs) (s : Shows bs o) (w : Tells t x) → Newest (there log bs x h s w).batch
      unfolding row_of next_undo
      newest_read log bs x e h s w = go (pending_case f.batch.lines)
        where
          f : Found x.batch bs p
          f = there log bs x h s w

          go : Pends f.batch.lines → Newest f.batch
          go (nothing y) = absurd (z (ap (λ (c : Row). c.pending) (row_is log bs x h s w) ∙ ap (λ (c : List model.Line). length c) y))
          go (pends a rest y) =
              let k : Linked log (a ∷ rest) = subst (Linked log) y (all_found (Sits log) x.batch bs f.batch f.is h.sits).lines in
              let d : (row_at o.rows p).undo ≡ a.number = ap (λ (c : Row). c.undo) (row_is log bs x h s w) ∙ ap next_undo y in
              record { top = a; rest = rest; lines = y; shown = u log a rest e k d }

      undone_read : (log : List Rec) (bs : List Batch) (x : Rec) → Reads m b log → (h : Holds log bs) (s : Shows bs o) (w : Tells t x)
          → undoes (eqb t.kind 4) x (some (there log bs x h s w).batch) ≡ line_undone t line
      undone_read log bs x e h s w =
          let a = newest_read log bs x e h s w in
          undoes_shown t x (there log bs x h s w).batch a.top a.rest w a.lines ∙ ap (line_undone t) (sym a.shown)

      pub undo_wrong : line_undone t line ≡ false → StepsIn m b o t None
      undo_wrong c log bs x e h s w n = undo_not log bs x h s w (undone_read log bs x e h s w ∙ c)

      pub undo_right : line_undone t line ≡ true → StepsIn m b o t (right_with (set o.rows p (shorter_row (row_at o.rows p) t.own line.below)) o.marked)
      unfolding undone
      undo_right c log bs x e h s w n =
          let f = there log bs x h s w in
          let a = newest_read log bs x e h s w in
          let row : shorter_row (row_at o.rows p) t.own line.below ≡ row_of (undone t.own f.batch) =
          ap₂ (λ (y : Row) (z : Line). shorter_row y t.own z.below) (row_is log bs x h s w) a.shown
          ∙ undone_row t.own f.batch a.top a.rest a.lines in
          let told : tell (kind_of t.kind) t.own x bs ≡ change_batch x.batch (undone t.own) bs = tells_undone t.own x bs in
          stepped_ok t.own x bs (batches_of (set o.rows p (shorter_row (row_at o.rows p) t.own line.below)) o.marked) (kind_of t.kind) (sym w.kind)
          (asks x bs ∙ ap (undoes (eqb t.kind 4) x) f.is ∙ undone_read log bs x e h s w ∙ c)
          (subst (λ (cs : List Batch). length cs ≤ 8) (sym told) (change_few x.batch bs p f h.few (undone t.own)))
          (subst (λ (cs : List Batch). Shows cs (batches_of (set o.rows p (shorter_row (row_at o.rows p) t.own line.below)) o.marked)) (sym told)
          (shows_row o x.batch p bs s f (g log bs h s.rows).0 h.few (undone t.own) (shorter_row (row_at o.rows p) t.own line.below) row refl))
