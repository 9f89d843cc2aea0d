-- The records that change no page: begin, commit, abort mark and end, each as one lawful record more.
use Rattle.std.specs.Prelude.{ℕ, suc, ◌≤◌, ◌<◌, Bool, true, false, ◌&&◌, length, leb, eqb}
use Rattle.std.proofs.Math.Path.{◌≡◌, refl}
use Rattle.std.proofs.Common.{ap, arith}
use Rattle.std.proofs.Math.Option.{some}
use Rattle.std.proofs.Math.Bool.{not}
use mathlib.Core.List.{List, [], ◌∷◌, ◌++◌}
use Rattle.std.proofs.Math.ListN.{length-append}
use Rattle.def_base.specs.Tests.{pick, and_both, and_true, eq_true, le_true, true_le}
use Rattle.def_layout.specs.declared.Entry.{Entry}
use Rattle.def_layout.specs.Records.{Rec, Kind, begin, commit, abort_mark, end, batch_row}
use Rattle.def_model.specs.TreeRules.{levels_of, leaf_records}
use Rattle.def_model.specs.Update.{Run}
use Rattle.def_model.specs.Batches.{Batch, find_batch, change_batch, drop_batch, mark_set, tell, told, open_batches, chain_ok, chain_step, chains, follows, unmarked, nothing_pending}
use Rattle.theory_tree.specs.Step.Steps.{notes, by_begin, by_commit, by_mark, by_end}
use Rattle.theory_tree.specs.Step.Leaves.{records_after}
use Rattle.theory_ledger.specs.Runs.{carry_lines}
use Rattle.theory_ledger.specs.Small.{SmallLines, small_change, small_drop, small_end}
use Rattle.theory_ledger.specs.Settles.{settles_begin, settles_commit, settles_mark, settles_end}
use Rattle.theory_ledger.specs.Telling.{slides_by, lines_of}
use Rattle.theory_history.specs.Core.{Core, NextRecord}

-- ---- at most eight batches are open

pub length_change : (n : ℕ) (f : Batch → Batch) (bs : List Batch) → length (change_batch n f bs) ≡ length bs
unfolding change_batch
length_change n f [] = refl
length_change n f (b ∷ bs) = go (eqb n b.number) (length_change n f bs)
  where
    go : (t : Bool) → length (change_batch n f bs) ≡ length bs → length (pick t (f b ∷ bs) (b ∷ change_batch n f bs)) ≡ suc (length bs)
    go true i = refl
    go false i = ap suc i

pub length_drop : (n : ℕ) (bs : List Batch) → length (drop_batch n bs) ≤ length bs
unfolding drop_batch
length_drop n [] = omega arith
length_drop n (b ∷ bs) = go (eqb n b.number) (length_drop n bs)
  where
    go : (t : Bool) → length (drop_batch n bs) ≤ length bs → length (pick t bs (b ∷ drop_batch n bs)) ≤ suc (length bs)
    go true i = omega arith
    go false i = omega arith

few_told : (m : ℕ) (log : List Rec) (bs : List Batch) → length bs ≤ 8 → chain_ok m log bs ≡ true → length (told m log bs) ≤ 8
unfolding told chain_ok chain_step
few_told m [] bs l h = l
few_told m (r ∷ log) bs l h =
    let (a, b) = and_true (chain_step m r bs) (chain_ok (suc m) log (tell r.kind m r bs)) h in
    let (c, d) = and_true (chains r.kind r (find_batch r.batch bs)) (leb (length (tell r.kind m r bs)) 8) a in
    few_told (suc m) log (tell r.kind m r bs) (true_le _ 8 d) b

pub few_open : (log : List Rec) → chain_ok 1 log [] ≡ true → length (open_batches log) ≤ 8
unfolding open_batches
few_open log h = few_told 1 log [] (omega arith) h

-- ---- one note more

module _ (n : ℕ) (s : Run) (slides : List Entry) (c : Core n s slides) where
  few : length (open_batches s.log) ≤ 8
  few = few_open s.log c.chain

  pub begin_next : length (open_batches s.log) < 8 → NextRecord s slides (batch_row begin s.due 0) slides
  unfolding chain_step chains tell slides_by records_after SmallLines
  begin_next l =
      let m = s.due in
      let e = length-append (open_batches s.log) (record { number = m; last = m; marked = false; lines = [] } ∷ []) in
      record {
        after = levels_of s.pages;
        step = notes begin m 0 by_begin;
        begins = λ z. (refl, refl);
        small_value = λ z. let w : ◌≡◌ {A = ℕ} 0 1 = cc in absurd (omega arith);
        keeps_chain = le_true (length (open_batches s.log ++ record { number = m; last = m; marked = false; lines = [] } ∷ [])) 8 (omega arith);
        keeps_small = small_end (open_batches s.log) _ tt c.small;
        story = refl;
        tells = settles_begin slides (leaf_records s.pages) (open_batches s.log) _ refl c.settles;
      }

  -- A record that goes on from an open batch's last.
  goes_on : (kind : Kind) (number : ℕ) (b : Batch) → find_batch number (open_batches s.log) ≡ some b → b.marked ≡ false
      → unmarked (find_batch number (open_batches s.log)) && follows (batch_row kind number b.last) (find_batch number (open_batches s.log)) ≡ true
  unfolding unmarked follows
  goes_on kind number b e u = rw e (and_both (ap not u) (eq_true b.last b.last refl))

  pub commit_next : (number : ℕ) (b : Batch) → find_batch number (open_batches s.log) ≡ some b → b.marked ≡ false
      → NextRecord s slides (batch_row commit number b.last) (carry_lines b.lines slides)
  unfolding chain_step chains tell slides_by lines_of records_after
  commit_next number b e u =
      let d = length_drop number (open_batches s.log) in
      let f = few in
      record {
        after = levels_of s.pages;
        step = notes commit number b.last by_commit;
        begins = λ z. no_begin z;
        small_value = λ z. let w : ◌≡◌ {A = ℕ} 0 1 = cc in absurd (omega arith);
        keeps_chain = and_both (goes_on commit number b e u) (le_true (length (drop_batch number (open_batches s.log))) 8 (omega arith));
        keeps_small = small_drop number (open_batches s.log) c.small;
        story = rw e;
        tells = settles_commit number slides (leaf_records s.pages) (open_batches s.log) b e c.settles;
      }
    where
      no_begin : commit ≡ begin → (number ≡ s.due) × (b.last ≡ 0)
      no_begin z = let w : ◌≡◌ {A = ℕ} 0 1 = cc in absurd (omega arith)

  pub mark_next : (number : ℕ) (b : Batch) → find_batch number (open_batches s.log) ≡ some b → b.marked ≡ false → NextRecord s slides (batch_row abort_mark number b.last) slides
  unfolding chain_step chains tell slides_by records_after mark_set
  mark_next number b e u =
      let d = length_change number (mark_set s.due) (open_batches s.log) in
      let f = few in
      record {
        after = levels_of s.pages;
        step = notes abort_mark number b.last by_mark;
        begins = λ z. no_begin z;
        small_value = λ z. let w : ◌≡◌ {A = ℕ} 0 1 = cc in absurd (omega arith);
        keeps_chain = and_both (goes_on abort_mark number b e u) (le_true (length (change_batch number (mark_set s.due) (open_batches s.log))) 8 (omega arith));
        keeps_small = small_change number (mark_set s.due) (open_batches s.log) (λ a h. h) c.small;
        story = refl;
        tells = settles_mark number s.due slides (leaf_records s.pages) (open_batches s.log) c.settles;
      }
    where
      no_begin : abort_mark ≡ begin → (number ≡ s.due) × (b.last ≡ 0)
      no_begin z = let w : ◌≡◌ {A = ℕ} 0 1 = cc in absurd (omega arith)

  pub end_next : (number previous : ℕ) (b : Batch) → find_batch number (open_batches s.log) ≡ some b → b.lines ≡ [] → previous ≡ b.last → NextRecord s slides (batch_row end number previous) slides
  unfolding chain_step chains follows nothing_pending tell slides_by records_after
  end_next number previous b e w q =
      let d = length_drop number (open_batches s.log) in
      let f = few in
      record {
        after = levels_of s.pages;
        step = notes end number previous by_end;
        begins = λ z. no_begin z;
        small_value = λ z. let w : ◌≡◌ {A = ℕ} 0 1 = cc in absurd (omega arith);
        keeps_chain = and_both idle_follows (le_true (length (drop_batch number (open_batches s.log))) 8 (omega arith));
        keeps_small = small_drop number (open_batches s.log) c.small;
        story = refl;
        tells = settles_end number slides (leaf_records s.pages) (open_batches s.log) b e w c.settles;
      }
    where
      no_begin : end ≡ begin → (number ≡ s.due) × (previous ≡ 0)
      no_begin z = let w : ◌≡◌ {A = ℕ} 0 1 = cc in absurd (omega arith)

      idle_follows : nothing_pending (find_batch number (open_batches s.log)) && follows (batch_row end number previous) (find_batch number (open_batches s.log)) ≡ true
      idle_follows = rw e (and_both (eq_true (length b.lines) 0 (ap length w)) (eq_true previous b.last q))
