-- A run's pages are those that its log leads to.
use Rattle.std.specs.Prelude.{ℕ, suc, ◌+◌, ◌≡◌, Bool, [], ◌∷◌, ◌++◌, ltb}
use Rattle.std.proofs.Common.{sym}
use Rattle.std.proofs.Math.Path.{subst}
use Rattle.std.proofs.Math.Bool.{true, false}
use native.Mathlib.Omega.{arith}
use Rattle.std.proofs.Math.ListN.{length, length-append}
use Rattle.def_layout.specs.Pages.{Page}
use Rattle.def_layout.specs.Records.{Kind, Rec}
use Rattle.def_model.specs.Redo.{redo_record}
use Rattle.def_model.specs.Update.{Run, going, stopped, logged, emit_by, emit, put_record, remove_record}
use Rattle.theory_redo.specs.Current.{Current, current_more}
use Rattle.theory_update.specs.Run.Keeps.{Structural, keep_find_add, keep_find_remove}

-- (`base`: the pages before the log.)
pub record Tracks (base : ℕ → Page) (s : Run) : Type 0 where
  pub due : s.due ≡ suc (length s.log)
  pub current : Current 1 base s.log s.pages

module _ (base : ℕ → Page) (zero_numbers : (p : ℕ) → (base p).lsn ≡ 0) where
  tracks_by : (a b : Bool) (r : Rec) (s : Run) → Tracks base s → Tracks base (emit_by a b r s)
  unfolding emit_by logged
  tracks_by false b r s t = t
  tracks_by true false r s t = record { due = t.due; current = t.current }
  tracks_by true true r s t =
      let l = length-append s.log (r ∷ []) in
      let d = t.due in
      let e : s.due ≡ 1 + length s.log = omega arith in
      record {
        due = omega arith;
        current = subst (λ n. Current 1 base (s.log ++ r ∷ []) (redo_record n r s.pages)) (sym e) (current_more 1 base s.log r s.pages (λ p. let z = zero_numbers p in omega arith) t.current);
      }

  pub tracks_emit : (r : Rec) (s : Run) → Tracks base s → Tracks base (emit r s)
  unfolding emit
  tracks_emit r s t = tracks_by (going s) (ltb 0 s.room) r s t

  pub tracks_stop : (s : Run) → s.stop ≡ 0 → Tracks base s → Tracks base (stopped 18 s)
  tracks_stop s z t = record { due = t.due; current = t.current }

  tracks_structural : (r : Rec) → Structural r.kind → (s : Run) → Tracks base s → Tracks base (emit r s)
  tracks_structural r q s t = tracks_emit r s t

  -- An update's records, run from the start, lead to its pages.
  pub put_tracks : (kind : Kind) (batch previous k v : ℕ) (s : Run) → Tracks base s → Tracks base (put_record kind batch previous k v s)
  unfolding put_record
  put_tracks kind batch previous k v s t = tracks_emit _ _ (keep_find_add (Tracks base) tracks_structural tracks_stop k s t)

  pub remove_tracks : (kind : Kind) (batch previous k v : ℕ) (s : Run) → Tracks base s → Tracks base (remove_record kind batch previous k v s)
  unfolding remove_record
  remove_tracks kind batch previous k v s t = tracks_emit _ _ (keep_find_remove (Tracks base) tracks_structural tracks_stop _ k s t)
