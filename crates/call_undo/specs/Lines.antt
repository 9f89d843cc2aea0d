-- Lines undone as the program undoes them: each is read from the log, which has grown since.
use Rattle.std.specs.Prelude.{ℕ, ◌+◌, ◌-◌, ◌≤◌, ◌<◌, ◌≡◌, ◌⊎◌, Bool}
use Rattle.std.proofs.Math.Path.{refl, sym, ap, subst}
use Rattle.std.proofs.Common.{◌∙◌, lit<}
use Rattle.std.proofs.Math.Logic.{⊎_elim}
use Rattle.std.proofs.Math.Bool.{true, false}
use mathlib.Core.List.{List, [], ◌∷◌}
use native.Mathlib.Omega.{arith}
use Rattle.std.proofs.Math.ListN.{length}
use Rattle.std.proofs.Math.Dec.{ltb}
use Rattle.def_base.specs.Tests.{pick, lt_true, lt_false}
use Rattle.def_layout.specs.declared.Row.{Row}
use Rattle.def_layout.specs.Records.{Rec, kind_of, batch_row, abort_mark, end, undo_insert, undo_delete}
use Rattle.def_model.specs.Update.{Run, emit, put_record, remove_record}
use Rattle.def_model.specs.Batches as model
use Rattle.def_model.specs.Batches.{Batch, next_undo, row_of}
use Rattle.def_model.specs.Undo.{undo_by, undo_line, undo_above, return_run, end_batch, abort_run}
use Rattle.theory_ledger.specs.Marks.{kept}
use Rattle.theory_history.specs.Undoing.{last_after}
use Rattle.law_areas.specs.Logs.{AllFit}
use Rattle.law_widths.specs.Rows.{batched_low, batch_narrow}
use Rattle.tree_write.specs.declared.Run as program
use Rattle.tree_write.specs.Shows.{Shows, Keeping, narrow_keeping}
use Rattle.log_pending.specs.declared.Line.{Line}
use Rattle.log_pending.specs.Below.{Linked}
use Rattle.log_pending.specs.Holding.{Sits, linked_rest}
use Rattle.log_pending.specs.Lines.{shown_line, TellsLine}
use Rattle.call_undo.specs.declared.Turn.{Turn}
use Rattle.call_undo.specs.Grown.{Grown, grown_none, grown_emit, grown_line, reads_grown}

-- ---- one line

module _ {n m : ℕ} {wp wl : List ℕ} {u : program.Run} (batch : ℕ) (x : Line) (s : Run) (y : model.Line) (ys : List model.Line) (e : x ≡ shown_line y ys) where
  pub line_removed : x.adds ≡ true → Shows n m wp wl u (remove_record (kind_of 4) batch x.below x.key 0 s) → Shows n m wp wl u (undo_line batch (next_undo ys) y s)
  unfolding undo_line undo_by kind_of
  line_removed a h =
      let b : y.adds ≡ true = sym (ap (λ (z : Line). z.adds) e) ∙ a in
      subst (Shows n m wp wl u) (ap (λ (z : Line). remove_record undo_insert batch z.below z.key 0 s) e ∙ sym (rw b)) h

  pub line_put : x.adds ≡ false → Shows n m wp wl u (put_record (kind_of 5) batch x.below x.key x.value s) → Shows n m wp wl u (undo_line batch (next_undo ys) y s)
  unfolding undo_line undo_by kind_of
  line_put a h =
      let b : y.adds ≡ false = sym (ap (λ (z : Line). z.adds) e) ∙ a in
      subst (Shows n m wp wl u) (ap (λ (z : Line). put_record undo_delete batch z.below z.key z.value s) e ∙ sym (rw b)) h

-- ---- line after line

-- What the program leaves of a return: the run, and the batch's row.
pub record Leaves (n m : ℕ) (wp wl : List ℕ) (mark : ℕ) (row : Row) (ys : List model.Line) (s : Run) (x : Turn) : Type 0 where
  pub shows : Shows n m wp wl x.run (undo_above mark row.batch ys s)
  pub row_is : x.row ≡ record { batch = row.batch; last = last_after mark row.batch ys s row.last; undo = next_undo (kept mark ys); pending = length (kept mark ys) }

-- A RETURN AS THE PROGRAM MAKES IT, of the row of a batch that stands in log l, from any run whose log was l before it grew.
abbrev pub ReturnsTurn : (n m : ℕ) (wp₀ wl₀ wp wl : List ℕ) (t : program.Run) (mark : ℕ) (row : Row) (x : Turn) → Type 0
ReturnsTurn n m wp₀ wl₀ wp wl t mark row x =
    (s : Run) (l : List Rec) (ys : List model.Line) → Shows n m wp₀ wl₀ t s → Grown l s.log → AllFit 1 l → Linked l ys → row.undo ≡ next_undo ys → row.pending ≡ length ys
    → Leaves n m wp wl mark row ys s x

-- Where it has come to: a run, and the row as it is `now`, which leads to the lines that are left; these give what the whole gives.
pub record Undoing (n m : ℕ) (wp wl : List ℕ) (t : program.Run) (mark : ℕ) (row now : Row) (l : List Rec) (ys : List model.Line) (s : Run) : Type 0 where
  pub run : Run
  pub lines : List model.Line
  pub shows : Shows n m wp wl t run
  pub grown : Grown l run.log
  pub linked : Linked l lines
  pub batch : now.batch ≡ row.batch
  pub newest : now.undo ≡ next_undo lines
  pub count : now.pending ≡ length lines
  pub rest : undo_above mark row.batch lines run ≡ undo_above mark row.batch ys s
  pub keeps : kept mark lines ≡ kept mark ys
  pub lasts : last_after mark row.batch lines run now.last ≡ last_after mark row.batch ys s row.last

abbrev pub Undoes : (n m : ℕ) (wp₀ wl₀ wp wl : List ℕ) (t₀ t : program.Run) (mark : ℕ) (row now : Row) → Type 0
Undoes n m wp₀ wl₀ wp wl t₀ t mark row now =
    (s : Run) (l : List Rec) (ys : List model.Line) → Shows n m wp₀ wl₀ t₀ s → Grown l s.log → AllFit 1 l → Linked l ys → row.undo ≡ next_undo ys → row.pending ≡ length ys
    → Undoing n m wp wl t mark row now l ys s

-- A line that the log leads to is read as it is.
pub line_read : {n m : ℕ} {wp wl : List ℕ} {t : program.Run} {s : Run} → Shows n m wp wl t s → (l : List Rec) → Grown l s.log → AllFit 1 l → (at : ℕ) (x : Line) → TellsLine m wl at x
    → (y : model.Line) (ys : List model.Line) → Linked l (y ∷ ys) → at ≡ y.number → x ≡ shown_line y ys
line_read {m = m} {wl = wl} {s = s} h l g f at x told y ys k e = told l y ys (reads_grown m wl l s.log h.log h.size f g) k e

pub undoes_start : {n m : ℕ} {wp wl : List ℕ} {t : program.Run} (mark : ℕ) (row : Row) → Undoes n m wp wl wp wl t t mark row row
undoes_start mark row s l ys h g f k e c = record { run = s; lines = ys; shows = h; grown = g; linked = k; batch = refl; newest = e; count = c; rest = refl; keeps = refl; lasts = refl }

-- Nothing more is above the mark.
record Ends (mark batch : ℕ) (zs : List model.Line) (u : Run) (last : ℕ) : Type 0 where
  run : undo_above mark batch zs u ≡ u
  keeps : kept mark zs ≡ zs
  last_is : last_after mark batch zs u last ≡ last

ends_low : (mark batch : ℕ) (zs : List model.Line) (u : Run) (last : ℕ) → next_undo zs ≤ mark → Ends mark batch zs u last
unfolding undo_above kept last_after next_undo
ends_low mark batch [] u last h = record { run = refl; keeps = refl; last_is = refl }
ends_low mark batch (z ∷ zs) u last h = let f = lt_false mark z.number h in record { run = rw f; keeps = rw f; last_is = rw f }

module _ {n m : ℕ} {wp₀ wl₀ wp wl : List ℕ} {t₀ t : program.Run} (mark : ℕ) (row now : Row) (w : Undoes n m wp₀ wl₀ wp wl t₀ t mark row now) where
  pub undoes_end : (x : Turn) → x ≡ record { run = t; row = now } → (now.undo ≤ mark) ⊎ (now.pending ≡ 0) → ReturnsTurn n m wp₀ wl₀ wp wl t₀ mark row x
  unfolding next_undo
  undoes_end x is stop s l ys h g f k e c =
      let i = w s l ys h g f k e c in
      let low : next_undo i.lines ≤ mark = ⊎_elim (λ (q : now.undo ≤ mark). subst (λ z. z ≤ mark) i.newest q) (λ (q : now.pending ≡ 0). none_low i.lines (sym i.count ∙ q)) stop in
      let z = ends_low mark row.batch i.lines i.run now.last low in
      let same : kept mark ys ≡ i.lines = sym i.keeps ∙ z.keeps in
      record {
        shows = subst (λ (y : Turn). Shows n m wp wl y.run (undo_above mark row.batch ys s)) (sym is) (subst (Shows n m wp wl t) (sym z.run ∙ i.rest) i.shows);
        row_is = ap (λ (y : Turn). y.row) is ∙ (λ j. record { batch = i.batch j; last = (sym z.last_is ∙ i.lasts) j; undo = (i.newest ∙ ap next_undo (sym same)) j; pending = (i.count ∙ ap (λ (v : List model.Line). length v) (sym same)) j });
      }
    where
      none_low : (zs : List model.Line) → length zs ≡ 0 → next_undo zs ≤ mark
      none_low [] q = omega arith
      none_low (y ∷ ys) q = absurd (omega arith)

  pub undoes_on : {wp' wl' : List ℕ} (u : program.Run) (x : Line) (left : ℕ) → now.pending ≡ left + 1 → mark < now.undo → TellsLine m wl now.undo x
      → ((s : Run) (y : model.Line) (ys : List model.Line) → Shows n m wp wl t s → x ≡ shown_line y ys → Shows n m wp' wl' u (undo_line now.batch (next_undo ys) y s))
      → Undoes n m wp₀ wl₀ wp' wl' t₀ u mark row (record { batch = now.batch; last = u.logged; undo = x.below; pending = left })
  unfolding next_undo undo_above kept last_after
  undoes_on {wp'} {wl'} u x left z high told f s l ys h g q k e c = let i = w s l ys h g q k e c in turn i i.lines refl
    where
      turn : (i : Undoing n m wp wl t mark row now l ys s) (zs : List model.Line) → i.lines ≡ zs
          → Undoing n m wp' wl' u mark row (record { batch = now.batch; last = u.logged; undo = x.below; pending = left }) l ys s
      turn i [] o = absurd (omega (arith, z, i.count, ap (λ (v : List model.Line). length v) o))
      turn i (y ∷ zs) o =
          let linked : Linked l (y ∷ zs) = subst (Linked l) o i.linked in
          let number : now.undo ≡ y.number = i.newest ∙ ap next_undo o in
          let above : ltb mark y.number ≡ true = lt_true mark y.number (subst (λ (v : ℕ). mark < v) number high) in
          let shown : x ≡ shown_line y zs = line_read i.shows l i.grown q now.undo x told y zs linked number in
          let r : Run = undo_line row.batch (next_undo zs) y i.run in
          let sh : Shows n m wp' wl' u r = subst (λ (v : ℕ). Shows n m wp' wl' u (undo_line v (next_undo zs) y i.run)) i.batch (f i.run y zs i.shows shown) in
          let logged : u.logged ≡ r.due - 1 = omega (arith, sh.due) in
          record {
            run = r;
            lines = zs;
            shows = sh;
            grown = grown_line l row.batch (next_undo zs) y i.run i.grown;
            linked = linked_rest l y zs linked;
            batch = i.batch;
            newest = ap (λ (v : Line). v.below) shown;
            count = omega (arith, z, i.count, ap (λ (v : List model.Line). length v) o);
            rest = sym (ap (λ (v : List model.Line). undo_above mark row.batch v i.run) o ∙ ap (λ (v : Bool). pick v (undo_above mark row.batch zs r) i.run) above) ∙ i.rest;
            keeps = sym (ap (kept mark) o ∙ ap (λ (v : Bool). pick v (kept mark zs) (y ∷ zs)) above) ∙ i.keeps;
            lasts = ap (last_after mark row.batch zs r) logged ∙ sym (ap (λ (v : List model.Line). last_after mark row.batch v i.run now.last) o ∙ ap (λ (v : Bool). pick v (last_after mark row.batch zs r (r.due - 1)) now.last) above) ∙ i.lasts;
          }

-- ---- a batch's marks, and a whole batch

-- A 7 or an 8 keeps pages within their widths.
pub batch_keeping : {m : ℕ} (t : program.Run) (kind batch previous : ℕ) (r : Rec) → m ≤ 16384 → kind < 9 → r ≡ batch_row (kind_of kind) batch previous → Keeping m t r
batch_keeping {m} t kind batch previous r few low e =
    subst (Keeping m t) (sym e) (narrow_keeping t _ few (batch_narrow (kind_of kind) batch previous (batched_low kind low)))

-- The number of the last record is the one before the number due.
pub end_last : {n m : ℕ} {wp wl wp' wl' : List ℕ} {t u : program.Run} {s : Run} → Shows n m wp wl t s → (batch : ℕ) (r : Rec) → r ≡ batch_row (kind_of 8) batch t.logged
    → Shows n m wp' wl' u (emit r s) → Shows n m wp' wl' u (end_batch batch s)
unfolding end_batch kind_of
end_last {n} {m} {wp' = wp'} {wl' = wl'} {t = t} {u = u} {s = s} h batch r e g =
    let p : t.logged ≡ s.due - 1 = omega (arith, h.due) in
    subst (λ (x : Rec). Shows n m wp' wl' u (emit x s)) (e ∙ ap (batch_row end batch) p) g

-- AN ABORT, by its three parts.
pub abort_parts : {n m : ℕ} {wp wl wp₁ wl₁ wp₂ wl₂ wp₃ wl₃ : List ℕ} {t t₁ t₃ : program.Run} {x : Turn} {s : Run} → Shows n m wp wl t s → m ≤ 16384 → (row : Row) (y : Batch) (r : Rec)
    → row ≡ row_of y → Sits s.log y → AllFit 1 s.log → r ≡ batch_row (kind_of 7) row.batch row.last
    → (Keeping m t r → Shows n m wp₁ wl₁ t₁ (emit r s))
    → ReturnsTurn n m wp₁ wl₁ wp₂ wl₂ t₁ 0 row x
    → ((s : Run) → Shows n m wp₂ wl₂ x.run s → Shows n m wp₃ wl₃ t₃ (end_batch row.batch s)) → Shows n m wp₃ wl₃ t₃ (abort_run y s)
unfolding abort_run return_run kind_of row_of
abort_parts {n} {m} {wp₃ = wp₃} {wl₃ = wl₃} {t = t} {t₃ = t₃} {s = s} h few row y r e sits fits q mark lines stop =
    let a : Shows n m _ _ _ (emit r s) = mark (batch_keeping t 7 row.batch row.last r few (lit< tt) q) in
    let b = lines (emit r s) s.log y.lines a (grown_emit s.log r s (grown_none s.log)) fits sits.lines (ap (λ (x : Row). x.undo) e) (ap (λ (x : Row). x.pending) e) in
    subst (Shows n m wp₃ wl₃ t₃)
    (ap (λ (x : Rec). end_batch row.batch (undo_above 0 row.batch y.lines (emit x s))) q
    ∙ ap (λ (x : Row). end_batch x.batch (undo_above 0 x.batch y.lines (emit (batch_row abort_mark x.batch x.last) s))) e)
    (stop (undo_above 0 row.batch y.lines (emit r s)) b.shows)
