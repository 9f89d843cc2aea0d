-- A commit, an abort mark, an end, and the records that no batch has: what the program makes of each.
use Rattle.std.specs.Prelude.{ℕ, ◌≤◌, ◌<◌, ◌≡◌, Bool, true, ◌&&◌, List, set, Some, None}
use Rattle.std.proofs.Math.Path.{refl, sym, ap}
use Rattle.std.proofs.Common.{◌∙◌, subst, arith}
use Rattle.std.proofs.Math.Option.{none, some}
use Rattle.std.proofs.Math.Bool.{false}
use Rattle.std.proofs.Math.ListN.{length}
use Rattle.std.proofs.Math.Dec.{eqb}
use Rattle.def_base.specs.Tests.{eq_true, neq_false}
use Rattle.def_layout.specs.declared.Row.{Row}
use Rattle.def_layout.specs.Numbers.{tab}
use Rattle.def_layout.specs.Desks.{row_at}
use Rattle.def_layout.specs.Records.{Rec, kind_of, end}
use Rattle.def_model.specs.Batches.{Batch, find_batch, row_of, mark_set, tell, follows, nothing_pending, chains, chain_step}
use Rattle.law_bytes.specs.Ranges.{Run, in_run}
use Rattle.law_bytes.specs.Eights.{closing}
use Rattle.law_bytes.specs.DeskRows.{without}
use Rattle.log_chain.specs.declared.Batches.{Batches}
use Rattle.log_chain.specs.declared.Told.{Told}
use Rattle.log_chain.specs.Shown.{batches_of, right_with, Shows, Found}
use Rattle.log_chain.specs.Steps.{Tells, Steps, Places, GoesOn, row_there, shows_change, shows_gone, and_no, found_as, none_as}
use Rattle.log_chain.specs.Families.{stepped_ok, unchained, change_few, drop_few, ends_ask, goes_through}

-- A row whose batch has its abort mark from record n on.
abbrev marked_row : Row → ℕ → Row
marked_row y n = record { batch = y.batch; last = n; undo = y.undo; pending = y.pending }

module _ (o : Batches) (t : Told) (p : ℕ) (g : GoesOn o t (Some p)) where
  pub commits : t.kind ≡ 6 → Steps o t (right_with (without o.rows p) (tab 8 (closing false o.marked p)))
  unfolding tell kind_of
  commits k =
      goes_through o t (ends_ask t.kind (omega arith) (omega arith)) p g (batches_of (without o.rows p) (tab 8 (closing false o.marked p)))
      (λ log bs x h s w l f.
      rw k (drop_few x.batch bs p f h.few, shows_gone o x.batch p bs s f l h.few))

  pub marks : t.kind ≡ 7 → Steps o t (right_with (set o.rows p (marked_row (row_at o.rows p) t.own)) (set o.marked p true))
  unfolding tell kind_of mark_set row_of
  marks k =
      goes_through o t (ends_ask t.kind (omega arith) (omega arith)) p g (batches_of (set o.rows p (marked_row (row_at o.rows p) t.own)) (set o.marked p true))
      (λ log bs x h s w l f.
      rw k (
        change_few x.batch bs p f h.few (mark_set t.own),
        shows_change o x.batch p bs s f l h.few (mark_set t.own) (marked_row (row_at o.rows p) t.own)
            (ap (λ (c : Row). marked_row c t.own) (row_there o x.batch p bs s f l h.few)),
      ))

-- ---- the end of a batch, test by test

ends : Rec → List Batch → Bool
ends x bs = nothing_pending (find_batch x.batch bs) && follows x (find_batch x.batch bs)

ends_none : (x : Rec) (bs : List Batch) → find_batch x.batch bs ≡ none → ends x bs ≡ false
unfolding ends nothing_pending follows
ends_none x bs e = rw e

ends_some : (x : Rec) (bs : List Batch) (b : Batch) → find_batch x.batch bs ≡ some b → ends x bs ≡ eqb (length b.lines) 0 && eqb x.previous b.last
unfolding ends nothing_pending follows
ends_some x bs b e = rw e

module _ (o : Batches) (t : Told) (k : t.kind ≡ 8) where
  is_end : (x : Rec) → Tells t x → x.kind ≡ end
  unfolding kind_of
  is_end x w = sym w.kind ∙ ap kind_of k

  ends_off : (x : Rec) (bs : List Batch) → Tells t x → ends x bs ≡ false → chain_step t.own x bs ≡ false
  unfolding chains ends
  ends_off x bs w e = unchained t.own x bs end (is_end x w) e

  pub end_nowhere : Places o.rows t.batch None → Steps o t None
  end_nowhere g log bs x h s w n = ends_off x bs w (ends_none x bs (none_as w bs (g log bs h s.rows)))

  module _ (p : ℕ) (g : Places o.rows t.batch (Some p)) where
    pub end_pending : ((row_at o.rows p).pending ≡ 0 → ⊥) → Steps o t None
    unfolding row_of
    end_pending z log bs x h s w n =
        let q = g log bs h s.rows in
        let f = found_as w bs q.1 in
        let e : (row_at o.rows p).pending ≡ length f.batch.lines = ap (λ (c : Row). c.pending) (row_there o x.batch p bs s f q.0 h.few) in
        ends_off x bs w (ends_some x bs f.batch f.is ∙ rw (neq_false (λ (y : length f.batch.lines ≡ 0). z (e ∙ y))))

    pub end_elsewhere : ((row_at o.rows p).last ≡ t.previous → ⊥) → Steps o t None
    unfolding row_of
    end_elsewhere z log bs x h s w n =
        let q = g log bs h s.rows in
        let f = found_as w bs q.1 in
        let e : (row_at o.rows p).last ≡ f.batch.last = ap (λ (c : Row). c.last) (row_there o x.batch p bs s f q.0 h.few) in
        ends_off x bs w (ends_some x bs f.batch f.is
        ∙ ap (λ (b : Bool). eqb (length f.batch.lines) 0 && b) (neq_false (λ (y : x.previous ≡ f.batch.last). z (e ∙ sym y ∙ sym w.previous)))
        ∙ and_no (eqb (length f.batch.lines) 0))

    pub ended : (row_at o.rows p).pending ≡ 0 → (row_at o.rows p).last ≡ t.previous
        → Steps o t (right_with (without o.rows p) (tab 8 (closing false o.marked p)))
    unfolding row_of tell chains ends
    ended e q log bs x h s w n =
        let y = g log bs h s.rows in
        let f : Found x.batch bs p = found_as w bs y.1 in
        let i : length f.batch.lines ≡ 0 = sym (ap (λ (c : Row). c.pending) (row_there o x.batch p bs s f y.0 h.few)) ∙ e in
        let m : x.previous ≡ f.batch.last = sym w.previous ∙ sym q ∙ ap (λ (c : Row). c.last) (row_there o x.batch p bs s f y.0 h.few) in
        stepped_ok t.own x bs (batches_of (without o.rows p) (tab 8 (closing false o.marked p))) end (is_end x w)
        (ends_some x bs f.batch f.is ∙ rw (eq_true (length f.batch.lines) 0 i, eq_true x.previous f.batch.last m))
        (drop_few x.batch bs p f h.few) (shows_gone o x.batch p bs s f y.0 h.few)

-- ---- kinds 9 to 15

pub passes : (o : Batches) (t : Told) → 9 ≤ t.kind → t.kind < 16 → Steps o t (Some o)
unfolding Run tell chains kind_of
passes o t a b log bs x h s w n =
    let c : chains (kind_of t.kind) x (find_batch x.batch bs) ≡ true =
    in_run (λ (k : ℕ). chains (kind_of k) x (find_batch x.batch bs) ≡ true) 7 9 t.kind (refl, (refl, (refl, (refl, (refl, (refl, (refl, tt))))))) a b in
    let e : tell (kind_of t.kind) t.own x bs ≡ bs =
    in_run (λ (k : ℕ). tell (kind_of k) t.own x bs ≡ bs) 7 9 t.kind (refl, (refl, (refl, (refl, (refl, (refl, (refl, tt))))))) a b in
    stepped_ok t.own x bs o (kind_of t.kind) (sym w.kind) c
    (subst (λ (y : List Batch). length y ≤ 8) (sym e) h.few)
    (subst (λ (y : List Batch). Shows y o) (sym e) s)
