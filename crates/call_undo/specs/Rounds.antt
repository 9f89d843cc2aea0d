-- A record that a run logs or, stopped, does not: which batches are open after an abort mark or an end. And arrays of eight for them.
use Rattle.std.specs.Prelude.{ℕ, suc, ◌<◌, ◌≤◌, ◌≡◌, ◌≢◌, List, [], ◌∷◌, ◌++◌, map, length, get_or, set, ltb}
use Rattle.std.proofs.Common.{sym, ap₂, ◌∙◌, arith}
use Rattle.std.proofs.Math.Path.{ap}
use Rattle.std.proofs.Math.Decide.{ℕ_discrete}
use Rattle.std.proofs.lemmas.List.{length-map}
use Rattle.std.proofs.Math.Seq.{get_or-append_seam}
use Rattle.def_base.specs.Tests.{Case, yes!, no!, case, neq_false}
use Rattle.def_layout.specs.Records.{Rec, batch_row, abort_mark, end}
use Rattle.def_model.specs.Update.{Run, emit_by, emit}
use Rattle.def_model.specs.Batches.{Batch, change_batch, drop_batch, mark_set, tell, open_batches}
use Rattle.law_bytes.specs.Pieces.{All}
use Rattle.law_bytes.specs.Tables.{getD_tab}
use Rattle.theory_update.specs.Run.Way.{emit_goes, emit_stops}
use Rattle.theory_ledger.specs.Telling.{open_more}
use Rattle.theory_history.specs.Marking.{change_mid, drop_mid, open_fresh}
use Rattle.log_pending.specs.Below.{Linked}
use Rattle.law_bytes.specs.Eights.{eight, eight_set}
use Rattle.log_chain.specs.Shown.{map_append}

-- ---- one record

emit_still : (r : Rec) (s : Run) → s.stop ≢ 0 → emit r s ≡ s
unfolding emit emit_by
emit_still r s k = rw (neq_false k)

pub data Emitted (r : Rec) (s : Run) : Type 0 where
  wrote : (emit r s).log ≡ s.log ++ r ∷ [] → (emit r s).stop ≡ 0 → Emitted r s
  halted : (emit r s).log ≡ s.log → (emit r s).stop ≢ 0 → Emitted r s

pub emitted : (r : Rec) (s : Run) → Emitted r s
emitted r s = go (ℕ_discrete s.stop 0) (case (ltb 0 s.room))
  where
    go : Dec (s.stop ≡ 0) → Case (ltb 0 s.room) → Emitted r s
    go (no k) c = let e = emit_still r s k in halted (ap (λ (x : Run). x.log) e) (λ z. k (sym (ap (λ (x : Run). x.stop) e) ∙ z))
    go (yes k) (yes! f) = let e = emit_goes r s k f in wrote (ap (λ (x : Run). x.log) e) (ap (λ (x : Run). x.stop) e)
    go (yes k) (no! f) =
        let e = emit_stops r s k f in
        halted (ap (λ (x : Run). x.log) e) (λ z. let w : ◌≡◌ {A = ℕ} 17 0 = sym (ap (λ (x : Run). x.stop) e) ∙ z in absurd (omega arith))

-- What a mark or an end tells of a batch in its place.
module _ (s : Run) (xs : List Batch) (b : Batch) (ys : List Batch) (o : open_batches s.log ≡ xs ++ b ∷ ys) (previous : ℕ) where
  pub open_marked : open_batches (s.log ++ batch_row abort_mark b.number previous ∷ []) ≡ xs ++ mark_set (suc (length s.log)) b ∷ ys
  unfolding tell
  open_marked =
      open_more s.log (batch_row abort_mark b.number previous) ∙ ap (change_batch b.number (mark_set (suc (length s.log)))) o
      ∙ change_mid (mark_set (suc (length s.log))) xs b ys (open_fresh s xs b ys o)

  pub open_ended : open_batches (s.log ++ batch_row end b.number previous ∷ []) ≡ xs ++ ys
  unfolding tell
  open_ended = open_more s.log (batch_row end b.number previous) ∙ ap (drop_batch b.number) o ∙ drop_mid xs b ys (open_fresh s xs b ys o)

-- ---- batches whose lines are linked in log l

abbrev pub Leading : List Rec → List Batch → Type 0
Leading l bs = All (λ b. Linked l b.lines) bs

-- ---- what an array of eight has of a batch in its place

module _ {A : Type 0} (d : A) (g : Batch → A) (xs : List Batch) (b : Batch) (ys : List Batch) (i : ℕ) (p : length xs ≡ i) where
  pub eight_here : i < 8 → get_or (eight d (map g (xs ++ b ∷ ys))) i d ≡ g b
  eight_here h =
      getD_tab 8 i (λ j. get_or (map g (xs ++ b ∷ ys)) j d) d h
      ∙ ap₂ (λ (v : List A) (k : ℕ). get_or v k d) (map_append g xs (b ∷ ys)) (sym p ∙ sym (length-map xs g))
      ∙ get_or-append_seam (map g xs) (g b) (map g ys) d

  pub eight_changed : (c : Batch) → length (xs ++ b ∷ ys) ≤ 8 → set (eight d (map g (xs ++ b ∷ ys))) i (g c) ≡ eight d (map g (xs ++ c ∷ ys))
  eight_changed c few =
      ap₂ (λ (v : List A) (k : ℕ). set (eight d v) k (g c)) (map_append g xs (b ∷ ys)) (sym p ∙ sym (length-map xs g))
      ∙ sym (ap (eight d) (map_append g xs (c ∷ ys)) ∙ eight_set d (map g xs) (map g ys) (g b) (g c) size)
    where
      size : length (map g xs ++ g b ∷ map g ys) ≤ 8
      size = omega (arith, few, length-map (xs ++ b ∷ ys) g, ap (λ (v : List A). length v) (map_append g xs (b ∷ ys)))
