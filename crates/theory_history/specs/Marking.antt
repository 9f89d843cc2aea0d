-- Restart's first two rounds as trails: an abort mark for each open batch without one, an 8 for each with nothing pending.
use Rattle.std.specs.Prelude.{ℕ, ◌+◌, ◌≤◌, ◌≢◌, Bool}
use Rattle.std.proofs.Math.Path.{◌≡◌, refl, sym, ap, subst}
use Rattle.std.proofs.Common.{◌∙◌}
use Rattle.std.proofs.Math.Bool.{true, false}
use Rattle.std.proofs.Math.Option.{some}
use mathlib.Core.List.{List, [], ◌∷◌, ◌++◌, append_assoc, append-nil}
use native.Mathlib.Omega.{arith}
use Rattle.std.proofs.Math.ListN.{length, length-append}
use Rattle.def_base.specs.Tests.{neq_false, eq_true}
use Rattle.def_layout.specs.declared.Entry.{Entry}
use Rattle.def_layout.specs.Pages.{map_bits}
use Rattle.def_layout.specs.Records.{abort_mark, end, batch_row}
use Rattle.def_model.specs.Update.{Run}
use Rattle.def_model.specs.Batches.{Line, Batch, mark_set, tell, open_batches, find_batch, change_batch, drop_batch, pending_count}
use Rattle.def_model.specs.Undo.{mark_by, mark_all, end_by, end_idle}
use Rattle.theory_update.specs.Run.Keeps.{Stuck, stuck_emit}
use Rattle.theory_ledger.specs.Held.{Fresh, Distinct}
use Rattle.theory_ledger.specs.Telling.{numbered_open}
use Rattle.theory_history.specs.Core.{Core, told_due}
use Rattle.theory_history.specs.Notes.{mark_next, end_next}
use Rattle.theory_history.specs.Trail.{Trail, trail_append, trail_core, trail_emit, unstopped_emit}
use Rattle.theory_history.specs.Undoing.{went_on}

-- ---- a batch in its place

-- It is found, changed and dropped where no batch before it has its number.
pub find_mid : (xs : List Batch) (b : Batch) (ys : List Batch) → Fresh b.number xs → find_batch b.number (xs ++ b ∷ ys) ≡ some b
unfolding find_batch Fresh
find_mid [] b ys f = rw (eq_true b.number b.number refl)
find_mid (x ∷ xs) b ys f = rw (neq_false f.0) (find_mid xs b ys f.1)

pub change_mid : (g : Batch → Batch) (xs : List Batch) (b : Batch) (ys : List Batch) → Fresh b.number xs → change_batch b.number g (xs ++ b ∷ ys) ≡ xs ++ g b ∷ ys
unfolding change_batch Fresh
change_mid g [] b ys f = rw (eq_true b.number b.number refl)
change_mid g (x ∷ xs) b ys f = rw (neq_false f.0) (ap (x ∷◌) (change_mid g xs b ys f.1))

pub drop_mid : (xs : List Batch) (b : Batch) (ys : List Batch) → Fresh b.number xs → drop_batch b.number (xs ++ b ∷ ys) ≡ xs ++ ys
unfolding drop_batch Fresh
drop_mid [] b ys f = rw (eq_true b.number b.number refl)
drop_mid (x ∷ xs) b ys f = rw (neq_false f.0) (ap (x ∷◌) (drop_mid xs b ys f.1))

-- In a list of distinct numbers those before it have others.
pub distinct_mid : (xs : List Batch) (b : Batch) (ys : List Batch) → Distinct (xs ++ b ∷ ys) → Fresh b.number xs
unfolding Distinct Fresh
distinct_mid [] b ys d = tt
distinct_mid (x ∷ xs) b ys d = ((λ e. later xs d.0 (sym e)), distinct_mid xs b ys d.1)
  where
    later : (zs : List Batch) → Fresh x.number (zs ++ b ∷ ys) → x.number ≢ b.number
    later [] f = f.0
    later (z ∷ zs) f = later zs f.1

pub open_fresh : (s : Run) (xs : List Batch) (b : Batch) (ys : List Batch) → open_batches s.log ≡ xs ++ b ∷ ys → Fresh b.number xs
open_fresh s xs b ys o = distinct_mid xs b ys (subst Distinct o (numbered_open s.log).distinct)

pub pending_append : (xs ys : List Batch) → pending_count (xs ++ ys) ≡ pending_count xs + pending_count ys
unfolding pending_count
pending_append [] ys = omega arith
pending_append (x ∷ xs) ys = let i = pending_append xs ys in omega arith

-- ---- abort marks

pub mark_stuck : (m : Bool) (b : Batch) (s : Run) → Stuck s → Stuck (mark_by m b s)
unfolding mark_by
mark_stuck true b s h = h
mark_stuck false b s h = stuck_emit _ s h

pub marks_stuck : (bs : List Batch) (s : Run) → Stuck s → Stuck (mark_all bs s)
unfolding mark_all
marks_stuck [] s h = h
marks_stuck (b ∷ bs) s h = marks_stuck bs (mark_by b.marked b s) (mark_stuck b.marked b s h)

-- What a round leaves: a trail, and so many batches with so much pending.
pub record Round (s : Run) (sl : List Entry) (t : Run) (pending batches : ℕ) : Type 0 where
  pub trail : Trail s sl t sl
  pub same : pending_count (open_batches t.log) ≡ pending
  pub count : length (open_batches t.log) ≡ batches

-- Batches that each have something pending.
unfoldable pub Busy : List Batch → Type 0
Busy [] = Unit {0}
Busy (b ∷ bs) = (b.lines ≢ []) × Busy bs

-- How many they are.
unfoldable pub busy_one : List Line → ℕ
busy_one [] = 0
busy_one (l ∷ ls) = 1

unfoldable pub busy_count : List Batch → ℕ
busy_count [] = 0
busy_count (b ∷ bs) = busy_one b.lines + busy_count bs

busy_more : (xs : List Batch) (b : Batch) → Busy xs → b.lines ≢ [] → Busy (xs ++ b ∷ [])
unfolding Busy
busy_more [] b h k = (k, tt)
busy_more (x ∷ xs) b h k = (h.0, busy_more xs b h.1 k)

idle_stuck : (ls : List Line) (b : Batch) (s : Run) → Stuck s → Stuck (end_by ls b s)
unfolding end_by
idle_stuck [] b s h = stuck_emit _ s h
idle_stuck (l ∷ ls) b s h = h

pub ends_stuck : (bs : List Batch) (s : Run) → Stuck s → Stuck (end_idle bs s)
unfolding end_idle
ends_stuck [] s h = h
ends_stuck (b ∷ bs) s h = ends_stuck bs (end_by b.lines b s) (idle_stuck b.lines b s h)

module _ (n : ℕ) (most : n ≤ map_bits) where
  marked_one : (m : Bool) (xs : List Batch) (b : Batch) (ys : List Batch) (s : Run) (sl : List Entry) → b.marked ≡ m → Core n s sl → open_batches s.log ≡ xs ++ b ∷ ys → (mark_by m b s).stop ≡ 0
      → Trail s sl (mark_by m b s) sl × (a : Batch) × (a.lines ≡ b.lines) × (open_batches (mark_by m b s).log ≡ xs ++ a ∷ ys)
  unfolding mark_by tell mark_set
  marked_one true xs b ys s sl k c o z = (Trail.stay, b, refl, o)
  marked_one false xs b ys s sl k c o z =
      let f = open_fresh s xs b ys o in
      let r = batch_row abort_mark b.number b.last in (
        trail_emit r s sl (mark_next n s sl c b.number b (ap (find_batch b.number) o ∙ find_mid xs b ys f) k) z,
        mark_set s.due b,
        refl,
        ap (λ t. open_batches t.log) (unstopped_emit r s z).is ∙ told_due n s sl r c ∙ ap (change_batch b.number (mark_set s.due)) o ∙ change_mid (mark_set s.due) xs b ys f,
      )

  pub marks_trail : (bs xs : List Batch) (s : Run) (sl : List Entry) → Core n s sl → open_batches s.log ≡ xs ++ bs → (mark_all bs s).stop ≡ 0 → Round s sl (mark_all bs s) (pending_count xs + pending_count bs) (length xs + length bs)
  unfolding mark_all pending_count
  marks_trail [] xs s sl c o z = record { trail = Trail.stay; same = ap pending_count (o ∙ append-nil xs) ∙ omega arith; count = ap length (o ∙ append-nil xs) ∙ omega arith }
  marks_trail (b ∷ bs) xs s sl c o z =
      let t = mark_by b.marked b s in
      let zt : t.stop ≡ 0 = went_on (mark_all bs) (marks_stuck bs) t z in
      let (p, a, la, q) = marked_one b.marked xs b bs s sl refl c o zt in
      let x = marks_trail bs (xs ++ a ∷ []) t sl (trail_core most p c) (q ∙ sym (append_assoc xs (a ∷ []) bs)) z in
      let e = pending_append xs (a ∷ []) in
      let la' = ap length la in
      let k = length-append xs (a ∷ []) in
      record { trail = trail_append p x.trail; same = x.same ∙ (omega arith); count = x.count ∙ (omega arith) }

  -- ---- ends of idle batches

  ended_one : (ls : List Line) (xs : List Batch) (b : Batch) (bs : List Batch) (s : Run) (sl : List Entry) → b.lines ≡ ls → Core n s sl → open_batches s.log ≡ xs ++ b ∷ bs → Busy xs → (end_by ls b s).stop ≡ 0
      → Trail s sl (end_by ls b s) sl × (ys : List Batch) × Busy ys × (pending_count ys ≡ pending_count xs + length ls) × (length ys ≡ length xs + busy_one ls) × (open_batches (end_by ls b s).log ≡ ys ++ bs)
  unfolding end_by tell pending_count busy_one
  ended_one [] xs b bs s sl k c o w z =
      let f = open_fresh s xs b bs o in
      let r = batch_row end b.number b.last in (
        trail_emit r s sl (end_next n s sl c b.number b.last b (ap (find_batch b.number) o ∙ find_mid xs b bs f) k refl) z,
        xs,
        w,
        omega arith,
        omega arith,
        ap (λ t. open_batches t.log) (unstopped_emit r s z).is ∙ told_due n s sl r c ∙ ap (drop_batch b.number) o ∙ drop_mid xs b bs f,
      )
  ended_one (l ∷ ls) xs b bs s sl k c o w z =
      let e = pending_append xs (b ∷ []) in
      let m = ap length k in
      let a = length-append xs (b ∷ []) in
      (Trail.stay, xs ++ b ∷ [], busy_more xs b w (λ v. let y : ◌≡◌ {A = ℕ} 0 1 = let u : l ∷ ls ≡ [] = sym k ∙ v in cc in omega arith), omega arith, omega arith, o ∙ sym (append_assoc xs (b ∷ []) bs))

  -- Each has something pending.
  pub ends_trail : (bs xs : List Batch) (s : Run) (sl : List Entry) → Core n s sl → open_batches s.log ≡ xs ++ bs → Busy xs → (end_idle bs s).stop ≡ 0
      → Round s sl (end_idle bs s) (pending_count xs + pending_count bs) (length xs + busy_count bs) × Busy (open_batches (end_idle bs s).log)
  unfolding end_idle pending_count busy_count
  ends_trail [] xs s sl c o w z = (record { trail = Trail.stay; same = ap pending_count (o ∙ append-nil xs) ∙ omega arith; count = ap length (o ∙ append-nil xs) ∙ omega arith }, subst Busy (sym (o ∙ append-nil xs)) w)
  ends_trail (b ∷ bs) xs s sl c o w z =
      let t = end_by b.lines b s in
      let zt : t.stop ≡ 0 = went_on (end_idle bs) (ends_stuck bs) t z in
      let (p, ys, wy, ey, ly, q) = ended_one b.lines xs b bs s sl refl c o w zt in
      let (x, v) = ends_trail bs ys t sl (trail_core most p c) q wy z in
      (record { trail = trail_append p x.trail; same = x.same ∙ (omega arith); count = x.count ∙ (omega arith) }, v)
