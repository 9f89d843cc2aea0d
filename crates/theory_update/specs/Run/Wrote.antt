-- What an update writes: changes of the tree, and then its own record.
use Rattle.std.specs.Prelude.{ℕ, ◌≡◌, refl, ◌≢◌, Bool, true, false, List, [], ◌∷◌, ◌++◌, ltb}
use Rattle.std.proofs.Common.{sym, ap, ◌∙◌, append_assoc, append-nil, arith}
use Rattle.def_base.specs.Tests.{clash, eq_true}
use Rattle.def_layout.specs.Pages.{at}
use Rattle.def_layout.specs.Records.{Kind, Rec, data_row}
use Rattle.def_model.specs.Update.{Run, going, stopped, logged, emit_by, emit, raise_root, find_add, put_record, descend_remove, remove_record}
use Rattle.theory_update.specs.Run.Keeps.{Structural, keep_find_add, keep_find_remove}

unfoldable pub AllStructural : List Rec → Type 0
AllStructural [] = Unit {0}
AllStructural (r ∷ rs) = Structural r.kind × AllStructural rs

pub structural_append : (a b : List Rec) → AllStructural a → AllStructural b → AllStructural (a ++ b)
unfolding AllStructural
structural_append [] b p q = q
structural_append (r ∷ a) b p q = (p.0, structural_append a b p.1 q)

-- Since the log was `log`, only changes of the tree have been written.
pub record Since (log : List Rec) (s : Run) : Type 0 where
  pub body : List Rec
  pub written : s.log ≡ log ++ body
  pub structural : AllStructural body

since_by : (log : List Rec) (a b : Bool) (r : Rec) → Structural r.kind → (s : Run) → Since log s → Since log (emit_by a b r s)
unfolding emit_by logged AllStructural
since_by log false b r q s i = i
since_by log true false r q s i = record { body = i.body; written = i.written; structural = i.structural }
since_by log true true r q s i =
    record {
      body = i.body ++ r ∷ [];
      written = ap (◌++ r ∷ []) i.written ∙ append_assoc log i.body (r ∷ []);
      structural = structural_append i.body (r ∷ []) i.structural (q, tt);
    }

since_emit : (log : List Rec) (r : Rec) → Structural r.kind → (s : Run) → Since log s → Since log (emit r s)
unfolding emit
since_emit log r q s i = since_by log (going s) (ltb 0 s.room) r q s i

since_stop : (log : List Rec) (s : Run) → s.stop ≡ 0 → Since log s → Since log (stopped 18 s)
since_stop log s z i = record { body = i.body; written = i.written; structural = i.structural }

since_start : (s : Run) → Since s.log s
unfolding AllStructural
since_start s = record { body = []; written = sym (append-nil s.log); structural = tt }

-- ---- the update's own record

-- The records that an update of key k has written, in run t after run s.
pub record Wrote (s t : Run) (kind : Kind) (batch previous k v : ℕ) : Type 0 where
  pub body : List Rec
  pub page : ℕ
  pub written : t.log ≡ s.log ++ (body ++ data_row kind batch previous page k v ∷ [])
  pub structural : AllStructural body

-- A record that did not stop the run was written.
emit_by_unstopped : (a b : Bool) (r : Rec) (s : Run) → (a ≡ false → s.stop ≢ 0) → (emit_by a b r s).stop ≡ 0 → (emit_by a b r s).log ≡ s.log ++ r ∷ []
unfolding emit_by logged
emit_by_unstopped true true r s n z = refl
emit_by_unstopped true false r s n z = absurd (omega (arith, z))
emit_by_unstopped false b r s n z = absurd (n refl z)

emit_unstopped : (r : Rec) (s : Run) → (emit r s).stop ≡ 0 → (emit r s).log ≡ s.log ++ r ∷ []
unfolding emit
emit_unstopped r s z = emit_by_unstopped (going s) (ltb 0 s.room) r s (λ e w. clash (sym (eq_true s.stop 0 w) ∙ e)) z

finish_wrote : (s u : Run) (kind : Kind) (batch previous a k v : ℕ) → Since s.log u → (emit (data_row kind batch previous a k v) u).stop ≡ 0
    → Wrote s (emit (data_row kind batch previous a k v) u) kind batch previous k v
finish_wrote s u kind batch previous a k v i z =
    record {
      body = i.body;
      page = a;
      written = emit_unstopped (data_row kind batch previous a k v) u z ∙ ap (◌++ data_row kind batch previous a k v ∷ []) i.written ∙ append_assoc s.log i.body (data_row kind batch previous a k v ∷ []);
      structural = i.structural;
    }

pub put_wrote : (kind : Kind) (batch previous k v : ℕ) (s : Run) → (put_record kind batch previous k v s).stop ≡ 0
    → Wrote s (put_record kind batch previous k v s) kind batch previous k v
unfolding put_record
put_wrote kind batch previous k v s z =
    finish_wrote s (find_add k s).run kind batch previous (find_add k s).page k v
    (keep_find_add (Since s.log) (since_emit s.log) (since_stop s.log) k s (since_start s)) z

pub remove_wrote : (kind : Kind) (batch previous k v : ℕ) (s : Run) → (remove_record kind batch previous k v s).stop ≡ 0
    → Wrote s (remove_record kind batch previous k v s) kind batch previous k v
unfolding remove_record
remove_wrote kind batch previous k v s z =
    let t = raise_root s in
    let d = descend_remove (at t.pages 1).level k 1 t in
    finish_wrote s d.run kind batch previous d.page k v
    (keep_find_remove (Since s.log) (since_emit s.log) (since_stop s.log) (at t.pages 1).level k s (since_start s)) z

-- ---- with the laws

cancel_left : (a b c : List Rec) → a ++ b ≡ a ++ c → b ≡ c
cancel_left [] b c e = e
cancel_left (x ∷ a) b c e = cancel_left a b c (ap (λ l. elim l [ [] ↦ a ++ b | y ∷ ys ↦ ys ]) e)

-- The records between two runs are those.
pub wrote_recs : (s t : Run) (kind : Kind) (batch previous k v : ℕ) (recs : List Rec) → t.log ≡ s.log ++ recs
    → (w : Wrote s t kind batch previous k v)
    → recs ≡ w.body ++ data_row kind batch previous w.page k v ∷ []
wrote_recs s t kind batch previous k v recs e w = cancel_left s.log recs _ (sym e ∙ w.written)
