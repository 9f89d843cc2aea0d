-- What inserts, deletes and their undos owe as a batch's own records.
use Rattle.std.specs.Prelude.{ℕ, ◌≤◌, refl, Bool, ◌&&◌, List, ◌∷◌, length}
use Rattle.std.proofs.Math.Path.{◌≡◌}
use Rattle.std.proofs.Common.{sym, ap, subst, arith}
use Rattle.std.proofs.Math.Bool.{true, false, not}
use Rattle.std.proofs.Math.Option.{Option, none, some}
use Rattle.def_base.specs.Tests.{and_both, eq_true}
use Rattle.def_layout.specs.declared.Entry.{Entry}
use Rattle.def_layout.specs.Entries.{top, look}
use Rattle.def_layout.specs.Records.{Kind, insert, delete, undo_insert, undo_delete, data_row}
use Rattle.def_model.specs.TreeRules.{leaf_records}
use Rattle.def_model.specs.Update.{Run}
use Rattle.def_model.specs.Batches.{Line, Batch, written, undone, rest_of, tell, open_batches, chains, find_batch, change_batch, unmarked, follows, undoes, undoes_line, newest_is, next_undo}
use Rattle.def_model.specs.Pending.{held}
use Rattle.theory_tree.specs.Step.Leaves.{records_after}
use Rattle.theory_ledger.specs.Runs.{Does, DoesBy, apply_by}
use Rattle.theory_ledger.specs.Settles.{Settles, settles_write, settles_undo, undo_apply_by}
use Rattle.theory_ledger.specs.Small.{Small, SmallLines, small_change, small_rest}
use Rattle.theory_ledger.specs.Telling.{slides_by, numbered_open}
use Rattle.theory_history.specs.Core.{Core}
use Rattle.theory_history.specs.Notes.{length_change, few_open}
use Rattle.theory_history.specs.Updating.{Data}

module _ (n : ℕ) (s : Run) (sl : List Entry) (c : Core n s sl) (number : ℕ) (b : Batch) (found : find_batch number (open_batches s.log) ≡ some b) where
  changed_few : (f : Batch → Batch) → length (change_batch number f (open_batches s.log)) ≤ 8
  changed_few f = let e = length_change number f (open_batches s.log) in let w = few_open s.log c.chain in omega arith

  goes_on : (kind : Kind) (page k v : ℕ) → b.marked ≡ false → unmarked (find_batch number (open_batches s.log)) && follows (data_row kind number b.last page k v) (find_batch number (open_batches s.log)) ≡ true
  unfolding unmarked follows
  goes_on kind page k v u = rw found (and_both (ap not u) (eq_true b.last b.last refl))

  writes : (m : ℕ) (l : Line) (o : Option ℕ) → held number l.key (open_batches s.log) ≡ false → Does l (look l.key (leaf_records s.pages)) o
      → Settles sl (apply_by l.adds l.key l.value (leaf_records s.pages)) (change_batch number (written m l) (open_batches s.log))
  writes m l o h d = settles_write number m l o sl (leaf_records s.pages) (open_batches s.log) b (numbered_open s.log).distinct found h d c.settles

  pub insert_data : (k v page : ℕ) → b.marked ≡ false → k ≤ top → v ≤ top → held number k (open_batches s.log) ≡ false → look k (leaf_records s.pages) ≡ none → Data s sl (data_row insert number b.last page k v)
  unfolding chains tell slides_by records_after apply_by DoesBy written SmallLines
  insert_data k v page u kt vt h ab =
      record {
        not_begin = λ z. let w : ◌≡◌ {A = ℕ} 0 1 = cc in omega arith;
        small_value = λ z. vt;
        keeps_chain = goes_on insert page k v u;
        few = λ m. changed_few _;
        small = λ m. small_change number _ (open_batches s.log) (λ a g. (kt, g)) c.small;
        same_slides = refl;
        tells = λ m. writes m (record { number = m; adds = true; key = k; value = v }) (some v) h (ab, refl);
      }

  pub delete_data : (k v page : ℕ) → b.marked ≡ false → k ≤ top → held number k (open_batches s.log) ≡ false → look k (leaf_records s.pages) ≡ some v → Data s sl (data_row delete number b.last page k v)
  unfolding chains tell slides_by records_after apply_by DoesBy written SmallLines
  delete_data k v page u kt h th =
      record {
        not_begin = λ z. let w : ◌≡◌ {A = ℕ} 0 1 = cc in omega arith;
        small_value = λ z. let w : ◌≡◌ {A = ℕ} 0 1 = cc in absurd (omega arith);
        keeps_chain = goes_on delete page k v u;
        few = λ m. changed_few _;
        small = λ m. small_change number _ (open_batches s.log) (λ a g. (kt, g)) c.small;
        same_slides = refl;
        tells = λ m. writes m (record { number = m; adds = false; key = k; value = v }) none h (th, refl);
      }

  module _ (l : Line) (ls : List Line) (newest : b.lines ≡ l ∷ ls) where
    fewer_small : (f : Batch → Batch) → ((a : Batch) → (f a).lines ≡ rest_of a.lines) → Small (change_batch number f (open_batches s.log))
    fewer_small f g = small_change number f (open_batches s.log) (λ a h. subst SmallLines (sym (g a)) (small_rest a.lines h)) c.small

    undoes_true : (kind : Kind) (page v : ℕ) (a : Bool) → l.adds ≡ a → newest_is a v (l ∷ ls) ≡ true → undoes a (data_row kind number (next_undo ls) page l.key v) (find_batch number (open_batches s.log)) ≡ true
    unfolding undoes undoes_line
    undoes_true kind page v a e w = rw (found, newest) (and_both w (and_both (eq_true l.key l.key refl) (eq_true (next_undo ls) (next_undo ls) refl)))

    undo_tells : (m : ℕ) (a : Bool) → l.adds ≡ a → Settles sl (undo_apply_by a l.key l.value (leaf_records s.pages)) (change_batch number (undone m) (open_batches s.log))
    undo_tells m a e = subst (λ z. Settles sl (undo_apply_by z l.key l.value (leaf_records s.pages)) (change_batch number (undone m) (open_batches s.log))) e (settles_undo number m l ls sl (leaf_records s.pages) (open_batches s.log) b found newest c.settles)

    pub undo_insert_data : (page : ℕ) → l.adds ≡ true → Data s sl (data_row undo_insert number (next_undo ls) page l.key 0)
    unfolding chains tell slides_by records_after undone newest_is undo_apply_by
    undo_insert_data page e =
        record {
          not_begin = λ z. let w : ◌≡◌ {A = ℕ} 0 1 = cc in omega arith;
          small_value = λ z. let w : ◌≡◌ {A = ℕ} 0 1 = cc in absurd (omega arith);
          keeps_chain = undoes_true undo_insert page 0 true e e;
          few = λ m. changed_few _;
          small = λ m. fewer_small _ (λ a. refl);
          same_slides = refl;
          tells = λ m. undo_tells m true e;
        }

    pub undo_delete_data : (page : ℕ) → l.adds ≡ false → Data s sl (data_row undo_delete number (next_undo ls) page l.key l.value)
    unfolding chains tell slides_by records_after undone newest_is undo_apply_by
    undo_delete_data page e =
        record {
          not_begin = λ z. let w : ◌≡◌ {A = ℕ} 0 1 = cc in omega arith;
          small_value = λ z. let w : ◌≡◌ {A = ℕ} 0 1 = cc in absurd (omega arith);
          keeps_chain = undoes_true undo_delete page l.value false e (and_both (ap not e) (eq_true l.value l.value refl));
          few = λ m. changed_few _;
          small = λ m. fewer_small _ (λ a. refl);
          same_slides = refl;
          tells = λ m. undo_tells m false e;
        }
