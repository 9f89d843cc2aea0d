-- Undo as a trail: one line, a return, and a whole abort.
use Prim.Native.Nat.{ℕ, suc, ◌-◌, ◌≤◌}
use Rattle.std.specs.Prelude.{◌≡◌, Bool, ◌⊎◌, ltb}
use Rattle.std.proofs.Math.Path.{refl, sym, ap, subst}
use Rattle.std.proofs.Common.{◌∙◌, arith}
use Rattle.std.proofs.Math.Bool.{true, false}
use Rattle.std.proofs.Math.Option.{Option, some}
use Rattle.std.proofs.Math.Logic.{inl, inr}
use mathlib.Core.List.{List, [], ◌∷◌}
use Rattle.std.proofs.Math.Decide.{ℕ_discrete}
use Rattle.def_base.specs.Tests.{pick, Case, yes!, no!, case}
use Rattle.def_layout.specs.declared.Entry.{Entry}
use Rattle.def_layout.specs.Entries.{top, look}
use Rattle.def_layout.specs.Pages.{map_bits}
use Rattle.def_layout.specs.Records.{Kind, undo_insert, undo_delete, abort_mark, end, batch_row}
use Rattle.def_model.specs.TreeRules.{leaf_records}
use Rattle.def_model.specs.Update.{Run, emit, put_record, remove_record}
use Rattle.def_model.specs.Batches.{Line, Batch, undone, mark_set, rest_of, tell, open_batches, find_batch, change_batch, drop_batch, next_undo}
use Rattle.def_model.specs.Undo.{undo_by, undo_line, undo_above, return_run, end_batch, abort_run}
use Rattle.theory_tree.specs.Order.Sorted.{look_insert}
use Rattle.theory_tree.specs.Step.Steps.{by_undo_insert, by_undo_delete}
use Rattle.theory_tree.specs.Step.Leaves.{records_after}
use Rattle.theory_update.specs.Run.Keeps.{Stuck, stuck_emit, stuck_by, stuck_stop, keep_find_add, keep_find_remove, keep_above}
use Rattle.theory_ledger.specs.Runs.{DoesBy}
use Rattle.theory_ledger.specs.Settles.{undo_apply_by, undo_apply, newest_does}
use Rattle.theory_ledger.specs.Small.{SmallLines, found_small, small_first}
use Rattle.theory_ledger.specs.Batching.{find_change, drop_change, change_none, change_twice}
use Rattle.theory_ledger.specs.Marks.{kept, kept_none, taken_back, left_with, open_falls}
use Rattle.theory_history.specs.Core.{Core, told_due}
use Rattle.theory_history.specs.Notes.{mark_next, end_next}
use Rattle.theory_history.specs.Trail.{Trail, trail_append, trail_core, trail_emit, unstopped_emit}
use Rattle.theory_history.specs.Updating.{put_updated, remove_updated}
use Rattle.theory_history.specs.BatchData.{undo_insert_data, undo_delete_data}

-- ---- a stopped run stays stopped

put_stuck : (kind : Kind) (batch previous k v : ℕ) (s : Run) → Stuck s → Stuck (put_record kind batch previous k v s)
unfolding put_record
put_stuck kind batch previous k v s h = stuck_emit _ _ (keep_find_add Stuck stuck_by stuck_stop k s h)

remove_stuck : (kind : Kind) (batch previous k v : ℕ) (s : Run) → Stuck s → Stuck (remove_record kind batch previous k v s)
unfolding remove_record
remove_stuck kind batch previous k v s h = stuck_emit _ _ (keep_find_remove Stuck stuck_by stuck_stop _ k s h)

by_stuck : (a : Bool) (n next : ℕ) (l : Line) (s : Run) → Stuck s → Stuck (undo_by a n next l s)
unfolding undo_by
by_stuck true n next l s h = remove_stuck undo_insert n next l.key 0 s h
by_stuck false n next l s h = put_stuck undo_delete n next l.key l.value s h

pub line_stuck : (n next : ℕ) (l : Line) (s : Run) → Stuck s → Stuck (undo_line n next l s)
unfolding undo_line
line_stuck n next l s h = by_stuck l.adds n next l s h

pub above_stuck : (mark n : ℕ) (ls : List Line) (s : Run) → Stuck s → Stuck (undo_above mark n ls s)
above_stuck mark n ls s h = keep_above Stuck n (λ next l s. line_stuck n next l s) mark ls s h

pub end_stuck : (n : ℕ) (s : Run) → Stuck s → Stuck (end_batch n s)
unfolding end_batch
end_stuck n s h = stuck_emit _ s h

-- What goes on at the end went on before.
pub went_on : (f : Run → Run) → ((s : Run) → Stuck s → Stuck (f s)) → (s : Run) → (f s).stop ≡ 0 → s.stop ≡ 0
went_on f h s z = go (ℕ_discrete s.stop 0)
  where
    go : Dec (s.stop ≡ 0) → s.stop ≡ 0
    go (yes e) = e
    go (no e) = absurd (h s e z)

-- ---- one line

-- Number m is the undo's record; the batch's newest line is gone, and taken back: what was inserted is out, what was deleted is in again.
pub record Undone (s : Run) (sl : List Entry) (t : Run) (n : ℕ) (l : Line) : Type 0 where
  pub trail : Trail s sl t sl
  pub number : ℕ
  pub due : t.due ≡ suc number
  pub opens : open_batches t.log ≡ change_batch n (undone number) (open_batches s.log)
  pub leaves : leaf_records t.pages ≡ undo_apply l (leaf_records s.pages)

-- The batch's last record after a return: the last undo's, or what it was.
unfoldable pub last_after : (mark n : ℕ) → List Line → Run → (last : ℕ) → ℕ
last_after mark n [] s last = last
last_after mark n (l ∷ ls) s last = let t = undo_line n (next_undo ls) l s in pick (ltb mark l.number) (last_after mark n ls t (t.due - 1)) last

-- The batch's lines above the mark are gone, and taken back in turn; the rest of it, and the other batches, are as they were. Its last record is
-- the one before the number due, unless nothing was above the mark.
pub record Returned (mark : ℕ) (s : Run) (sl : List Entry) (t : Run) (number : ℕ) (b : Batch) : Type 0 where
  pub trail : Trail s sl t sl
  pub last : ℕ
  pub last_is : last ≡ last_after mark number b.lines s b.last
  pub ends : ((t ≡ s) × (last ≡ b.last)) ⊎ (t.due ≡ suc last)
  pub opens : open_batches t.log ≡ change_batch number (left_with last (kept mark b.lines)) (open_batches s.log)
  pub leaves : leaf_records t.pages ≡ taken_back mark b.lines (leaf_records s.pages)

module _ (n : ℕ) (most : n ≤ map_bits) where
  line_key : (s : Run) (sl : List Entry) (number : ℕ) (b : Batch) (l : Line) (ls : List Line) → Core n s sl → find_batch number (open_batches s.log) ≡ some b → b.lines ≡ l ∷ ls → l.key ≤ top
  line_key s sl number b l ls c e w = small_first l ls (subst SmallLines w (found_small number (open_batches s.log) b c.small e))

  undone_by : (s : Run) (sl : List Entry) (number : ℕ) (b : Batch) (l : Line) (ls : List Line) → Core n s sl → find_batch number (open_batches s.log) ≡ some b → b.lines ≡ l ∷ ls
      → (a : Bool) → l.adds ≡ a → (m : Option ℕ) → DoesBy a l.value m (look l.key (leaf_records s.pages)) → (undo_by a number (next_undo ls) l s).stop ≡ 0 → Undone s sl (undo_by a number (next_undo ls) l s) number l
  unfolding undo_by tell DoesBy undo_apply_by records_after
  undone_by s sl number b l ls c e w true q m d z =
      let (page, u) = remove_updated n most undo_insert number (next_undo ls) l.key 0 l.value s sl c by_undo_insert (line_key s sl number b l ls c e w) d.1 (λ p. undo_insert_data n s sl c number b e l ls w p q) z in
      record { trail = u.trail; number = u.number; due = u.due; opens = u.opens; leaves = u.leaves ∙ ap (λ z. undo_apply_by z l.key l.value (leaf_records s.pages)) (sym q) }
  undone_by s sl number b l ls c e w false q m d z =
      let (page, u) = put_updated n most undo_delete number (next_undo ls) l.key l.value s sl c by_undo_delete (line_key s sl number b l ls c e w) d.1 (λ p. undo_delete_data n s sl c number b e l ls w p q) z in
      record { trail = u.trail; number = u.number; due = u.due; opens = u.opens; leaves = u.leaves ∙ ap (λ z. undo_apply_by z l.key l.value (leaf_records s.pages)) (sym q) }

  pub line_undone : (s : Run) (sl : List Entry) (number : ℕ) (b : Batch) (l : Line) (ls : List Line) → Core n s sl → find_batch number (open_batches s.log) ≡ some b → b.lines ≡ l ∷ ls
      → (undo_line number (next_undo ls) l s).stop ≡ 0 → Undone s sl (undo_line number (next_undo ls) l s) number l
  unfolding undo_line
  line_undone s sl number b l ls c e w z =
      let (m, d) = newest_does number l ls sl (leaf_records s.pages) (open_batches s.log) b e w c.settles in
      undone_by s sl number b l ls c e w l.adds refl m d z

  -- 02, U1: "undoing their deletion puts them back", of slides under any key.
  pub deletion_undone : (s : Run) (sl : List Entry) (number : ℕ) (b : Batch) (l : Line) (ls : List Line) → Core n s sl → find_batch number (open_batches s.log) ≡ some b → b.lines ≡ l ∷ ls
      → l.adds ≡ false → (undo_line number (next_undo ls) l s).stop ≡ 0 → look l.key (leaf_records (undo_line number (next_undo ls) l s).pages) ≡ some l.value
  unfolding undo_apply_by
  deletion_undone s sl number b l ls c e w q z =
      let u = line_undone s sl number b l ls c e w z in
      ap (look l.key) (u.leaves ∙ ap (λ a. undo_apply_by a l.key l.value (leaf_records s.pages)) q) ∙ look_insert l.key l.value (leaf_records s.pages)

  -- ---- a return

  -- What went on from the batch's last record ends with it.
  ends_due : {v w : Run} {m last : ℕ} → ((v ≡ w) × (last ≡ m)) ⊎ (v.due ≡ suc last) → w.due ≡ suc m → v.due ≡ suc last
  ends_due (inl p) q = ap (λ y. y.due) p.0 ∙ q ∙ ap suc (sym p.1)
  ends_due (inr p) q = p

  -- Nothing is above the mark.
  stays : (mark : ℕ) (s : Run) (sl : List Entry) (number : ℕ) (b : Batch) → find_batch number (open_batches s.log) ≡ some b → kept mark b.lines ≡ b.lines → taken_back mark b.lines (leaf_records s.pages) ≡ leaf_records s.pages
      → last_after mark number b.lines s b.last ≡ b.last → Returned mark s sl s number b
  unfolding left_with
  stays mark s sl number b e k t q =
      record {
        trail = Trail.stay;
        last = b.last;
        last_is = sym q;
        ends = inl (refl, refl);
        opens = sym (change_none number (left_with b.last (kept mark b.lines)) (open_batches s.log) b e (λ i. record { number = b.number; last = b.last; marked = b.marked; lines = k i }));
        leaves = sym t;
      }

  -- The newest line is above it: undone, and then the rest.
  undone_more : (mark : ℕ) (l : Line) (ls : List Line) (s : Run) (sl : List Entry) (number : ℕ) (b : Batch) → Core n s sl → find_batch number (open_batches s.log) ≡ some b → b.lines ≡ l ∷ ls
      → let t = undo_line number (next_undo ls) l s in
      ltb mark l.number ≡ true → (undo_above mark number ls t).stop ≡ 0
      → ((x : Batch) → Core n t sl → find_batch number (open_batches t.log) ≡ some x → x.lines ≡ ls → Returned mark t sl (undo_above mark number ls t) number x)
      → Returned mark s sl (undo_above mark number ls t) number b
  unfolding undone rest_of left_with kept taken_back last_after
  undone_more mark l ls s sl number b c e w f z more =
      let t = undo_line number (next_undo ls) l s in
      let zt : t.stop ≡ 0 = went_on (undo_above mark number ls) (above_stuck mark number ls) t z in
      let u = line_undone s sl number b l ls c e w zt in
      let g : find_batch number (open_batches t.log) ≡ some (undone u.number b) = ap (find_batch number) u.opens ∙ find_change number (undone u.number) (open_batches s.log) b e refl in
      let x = more (undone u.number b) (trail_core most u.trail c) g (ap rest_of w) in
      let k : kept mark (rest_of b.lines) ≡ kept mark b.lines = ap (λ y. kept mark (rest_of y)) w ∙ sym (ap (kept mark) w ∙ ap (λ y. pick y (kept mark ls) (l ∷ ls)) f) in
      let all : List Batch = open_batches s.log in
      let due : u.number ≡ t.due - 1 = omega (arith, u.due) in
      record {
        trail = trail_append u.trail x.trail;
        last = x.last;
        last_is = x.last_is ∙ ap (λ y. last_after mark number (rest_of y) t u.number) w ∙ ap (last_after mark number ls t) due ∙ sym (ap (λ y. last_after mark number y s b.last) w ∙ ap (λ y. pick y (last_after mark number ls t (t.due - 1)) b.last) f);
        ends = inr (ends_due x.ends u.due);
        opens = x.opens ∙ ap (change_batch number (left_with x.last (kept mark (rest_of b.lines)))) u.opens ∙ change_twice number (left_with x.last (kept mark (rest_of b.lines))) (undone u.number) all (λ a. refl) ∙ ap (λ y. change_batch number (left_with x.last y) all) k;
        leaves = x.leaves ∙ ap (λ y. taken_back mark (rest_of y) (leaf_records t.pages)) w ∙ ap (taken_back mark ls) u.leaves ∙ sym (ap (λ y. taken_back mark y (leaf_records s.pages)) w ∙ ap (λ y. pick y (taken_back mark ls (undo_apply l (leaf_records s.pages))) (leaf_records s.pages)) f);
      }

  pub above_undone : (mark : ℕ) (ls : List Line) (s : Run) (sl : List Entry) (number : ℕ) (b : Batch) → Core n s sl → find_batch number (open_batches s.log) ≡ some b → b.lines ≡ ls
      → (undo_above mark number ls s).stop ≡ 0 → Returned mark s sl (undo_above mark number ls s) number b
  unfolding undo_above kept taken_back last_after
  above_undone mark [] s sl number b c e w z = stays mark s sl number b e (ap (kept mark) w ∙ sym w) (ap (λ x. taken_back mark x (leaf_records s.pages)) w) (ap (λ x. last_after mark number x s b.last) w)
  above_undone mark (l ∷ ls) s sl number b c e w z = go (case (ltb mark l.number)) z (λ z x d f v. above_undone mark ls (undo_line number (next_undo ls) l s) sl number x d f v z)
    where
      t : Run
      t = undo_line number (next_undo ls) l s

      More : Type 0
      More = (undo_above mark number ls t).stop ≡ 0 → (x : Batch) → Core n t sl → find_batch number (open_batches t.log) ≡ some x → x.lines ≡ ls → Returned mark t sl (undo_above mark number ls t) number x

      go : Case (ltb mark l.number) → (pick (ltb mark l.number) (undo_above mark number ls t) s).stop ≡ 0 → More → Returned mark s sl (pick (ltb mark l.number) (undo_above mark number ls t) s) number b
      go (no! f) z more =
          subst (λ x. Returned mark s sl (pick x (undo_above mark number ls t) s) number b) (sym f)
          (stays mark s sl number b e (ap (kept mark) w ∙ ap (λ x. pick x (kept mark ls) (l ∷ ls)) f ∙ sym w) (ap (λ x. taken_back mark x (leaf_records s.pages)) w ∙ ap (λ x. pick x (taken_back mark ls (undo_apply l (leaf_records s.pages))) (leaf_records s.pages)) f) (ap (λ x. last_after mark number x s b.last) w ∙ ap (λ x. pick x (last_after mark number ls t (t.due - 1)) b.last) f))
      go (yes! f) z more =
          let z' : (undo_above mark number ls t).stop ≡ 0 = subst (λ x. (pick x (undo_above mark number ls t) s).stop ≡ 0) f z in
          subst (λ x. Returned mark s sl (pick x (undo_above mark number ls t) s) number b) (sym f) (undone_more mark l ls s sl number b c e w f z' (more z'))

  -- A RETURN of a batch.
  pub return_trail : (mark : ℕ) (s : Run) (sl : List Entry) (number : ℕ) (b : Batch) → Core n s sl → find_batch number (open_batches s.log) ≡ some b → b.number ≡ number → (return_run mark b s).stop ≡ 0
      → Returned mark s sl (return_run mark b s) number b
  unfolding return_run
  return_trail mark s sl number b c e k z =
      subst (λ x. Returned mark s sl (undo_above mark x b.lines s) number b) (sym k) (above_undone mark b.lines s sl number b c e refl (subst (λ x. (undo_above mark x b.lines s).stop ≡ 0) k z))

  -- ---- an 8, and a whole abort

  pub end_trail : (s : Run) (sl : List Entry) (number : ℕ) (b : Batch) → Core n s sl → find_batch number (open_batches s.log) ≡ some b → b.lines ≡ [] → s.due ≡ suc b.last → (end_batch number s).stop ≡ 0
      → Trail s sl (end_batch number s) sl × (open_batches (end_batch number s).log ≡ drop_batch number (open_batches s.log))
  unfolding end_batch tell
  end_trail s sl number b c e w q z =
      let r = batch_row end number (s.due - 1) in (
        trail_emit r s sl (end_next n s sl c number (s.due - 1) b e w (omega arith)) z,
        ap (λ t. open_batches t.log) (unstopped_emit r s z).is ∙ told_due n s sl r c,
      )

  pub abort_trail : (s : Run) (sl : List Entry) (number : ℕ) (b : Batch) → Core n s sl → find_batch number (open_batches s.log) ≡ some b → b.number ≡ number → b.marked ≡ false → (abort_run b s).stop ≡ 0
      → Trail s sl (abort_run b s) sl × (open_batches (abort_run b s).log ≡ drop_batch number (open_batches s.log))
  unfolding abort_run return_run tell mark_set left_with
  abort_trail s sl number b c e k u z =
      let r = batch_row abort_mark b.number b.last in
      let s₁ = emit r s in
      let s₂ = undo_above 0 b.number b.lines s₁ in
      let z₂ : s₂.stop ≡ 0 = went_on (end_batch b.number) (end_stuck b.number) s₂ z in
      let z₁ : s₁.stop ≡ 0 = went_on (undo_above 0 b.number b.lines) (above_stuck 0 b.number b.lines) s₁ z₂ in
      let e' : find_batch b.number (open_batches s.log) ≡ some b = subst (λ m. find_batch m (open_batches s.log) ≡ some b) (sym k) e in
      let is = (unstopped_emit r s z₁).is in
      let t₁ = trail_emit r s sl (mark_next n s sl c b.number b e' u) z₁ in
      let c₁ = trail_core most t₁ c in
      let o₁ : open_batches s₁.log ≡ change_batch b.number (mark_set s.due) (open_batches s.log) = ap (λ t. open_batches t.log) is ∙ told_due n s sl r c in
      let f₁ = ap (find_batch b.number) o₁ ∙ find_change b.number (mark_set s.due) (open_batches s.log) b e' refl in
      let q₁ : s₁.due ≡ suc s.due = ap (λ t. t.due) is in
      let x = above_undone 0 b.lines s₁ sl b.number (mark_set s.due b) c₁ f₁ refl z₂ in
      let c₂ = trail_core most x.trail c₁ in
      let f₂ = ap (find_batch b.number) x.opens ∙ find_change b.number (left_with x.last (kept 0 b.lines)) (open_batches s₁.log) (mark_set s.due b) f₁ refl in
      let (t₃, o₃) = end_trail s₂ sl b.number (left_with x.last (kept 0 b.lines) (mark_set s.due b)) c₂ f₂ (kept_none _ b.lines (open_falls s.log b.number b e')) (ends_due x.ends q₁) z in (
        trail_append t₁ (trail_append x.trail t₃),
        o₃ ∙ ap (drop_batch b.number) x.opens ∙ drop_change b.number (left_with x.last (kept 0 b.lines)) (open_batches s₁.log) (λ a. refl)
            ∙ ap (drop_batch b.number) o₁ ∙ drop_change b.number (mark_set s.due) (open_batches s.log) (λ a. refl) ∙ ap (λ m. drop_batch m (open_batches s.log)) k,
      )
