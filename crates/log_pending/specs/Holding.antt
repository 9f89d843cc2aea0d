-- Every open batch of a log that keeps the chain has its pending lines linked in it: record by record.
use Prim.Native.Nat.{ℕ, suc, ◌≤◌, ◌<◌}
use Rattle.std.specs.Prelude.{◌≡◌, Bool, not, ◌&&◌, leb, eqb}
use Rattle.std.proofs.Math.Path.{refl, ap}
use Rattle.std.proofs.Common.{sym, ◌∙◌, subst, arith, length-append}
use Rattle.std.proofs.Math.Option.{Option, none, some}
use Rattle.std.proofs.Math.Bool.{true, false}
use mathlib.Core.List.{List, [], ◌∷◌, ◌++◌, append_assoc, append-nil}
use Rattle.std.proofs.Math.ListN.{length}
use Rattle.std.proofs.lemmas.Bool.{not-true}
use Rattle.def_base.specs.Tests.{clash, and_true, true_eq, true_le}
use Rattle.def_layout.specs.Desks.{most_open}
use Rattle.def_layout.specs.Records.{Rec, Kind, begin, insert, delete, undo_insert, undo_delete, commit, abort_mark, end, split, link, unlink, merge, redistribute, raise, lower}
use Rattle.def_model.specs.Batches.{Line, Batch, find_batch, change_batch, drop_batch, rest_of, next_undo, written, undone, mark_set, tell, told, open_batches, follows, unmarked, undoes_line, newest_is, undoes, chains, chain_step, chain_ok, pending_count}
use Rattle.law_bytes.specs.Pieces.{All, all_map}
use Rattle.log_pending.specs.Batches.{all_found, all_drop, all_end, all_change, count_change, count_drop, count_end}
use Rattle.log_pending.specs.Below.{pending_by, pending_after, adds_kind, Linked, record_next, after_more, linked_more, linked_write}

-- ---- what a record that keeps the chain says of its batch

record Goes (r : Rec) (o : Option Batch) : Type 0 where
  pub batch : Batch
  pub is : o ≡ some batch
  pub free : batch.marked ≡ false
  pub last : r.previous ≡ batch.last

goes_on : (r : Rec) (o : Option Batch) → unmarked o && follows r o ≡ true → Goes r o
unfolding unmarked follows
goes_on r none e = clash (sym e)
goes_on r (some b) e =
    let p = and_true (not b.marked) (eqb r.previous b.last) e in
    record { batch = b; is = refl; free = not-true b.marked p.0; last = true_eq r.previous b.last p.1 }

-- An undo's batch, its newest line and the lines after that.
record Undoes (adds : Bool) (r : Rec) (o : Option Batch) : Type 0 where
  pub batch : Batch
  pub is : o ≡ some batch
  pub line : Line
  pub rest : List Line
  pub lines : batch.lines ≡ line ∷ rest
  pub left : r.previous ≡ next_undo rest

undoes_lines : (adds : Bool) (r : Rec) (b : Batch) (ls : List Line) → b.lines ≡ ls → newest_is adds r.second ls && undoes_line r ls ≡ true → Undoes adds r (some b)
unfolding newest_is undoes_line
undoes_lines adds r b [] e h = clash (sym h)
undoes_lines adds r b (l ∷ ls) e h =
    let p = and_true (newest_is adds r.second (l ∷ ls)) (undoes_line r (l ∷ ls)) h in
    let q = and_true (eqb r.key l.key) (eqb r.previous (next_undo ls)) p.1 in
    record { batch = b; is = refl; line = l; rest = ls; lines = e; left = true_eq r.previous (next_undo ls) q.1 }

undoes_on : (adds : Bool) (r : Rec) (o : Option Batch) → undoes adds r o ≡ true → Undoes adds r o
unfolding undoes
undoes_on adds r none e = clash (sym e)
undoes_on adds r (some b) e = undoes_lines adds r b b.lines refl e

-- ---- the batches of a log

-- While a batch has no abort mark, its last record says what is pending.
pub record Sits (log : List Rec) (b : Batch) : Type 0 where
  pub from_one : 0 < b.number
  pub last : b.last ≤ length log
  pub lines : Linked log b.lines
  pub newest : b.marked ≡ false → pending_after log b.last ≡ next_undo b.lines

pub record Holds (log : List Rec) (bs : List Batch) : Type 0 where
  pub sits : All (Sits log) bs
  pub few : length bs ≤ most_open
  pub count : pending_count bs ≤ length log

sits_more : (log : List Rec) (r : Rec) (b : Batch) → Sits log b → Sits (log ++ r ∷ []) b
sits_more log r b s =
    record {
      from_one = s.from_one;
      last = omega (arith, s.last, length-append log (r ∷ []));
      lines = linked_more log (r ∷ []) b.lines s.lines;
      newest = λ e. after_more log (r ∷ []) b.last s.last ∙ s.newest e;
    }

pub linked_rest : (log : List Rec) (l : Line) (ls : List Line) → Linked log (l ∷ ls) → Linked log ls
unfolding Linked
linked_rest log l ls h = h.3

-- One record more: its batch, changed.
module _ (log : List Rec) (r : Rec) (b : Batch) (s : Sits log b) where
  due : suc (length log) ≤ length (log ++ r ∷ [])
  due = omega (arith, length-append log (r ∷ []))

  sits_written : (adds : Bool) → r.kind ≡ adds_kind adds → pending_by (adds_kind adds) (suc (length log)) r ≡ suc (length log) → b.marked ≡ false → r.previous ≡ b.last
      → Sits (log ++ r ∷ []) (written (suc (length log)) (record { number = suc (length log); adds = adds; key = r.key; value = r.second }) b)
  unfolding written pending_after next_undo
  sits_written adds k p free e =
      record {
        from_one = s.from_one;
        last = due;
        lines = linked_write log r adds b.lines k (omega (arith, e, s.last)) (ap (pending_after log) e ∙ s.newest free) s.lines;
        newest = λ _. ap (λ (x : Rec). pending_by x.kind (suc (length log)) x) (record_next log r) ∙ ap (λ (x : Kind). pending_by x (suc (length log)) r) k ∙ p;
      }

  sits_undone : (adds : Bool) (l : Line) (ls : List Line) → ((q : ℕ) → pending_by r.kind q r ≡ r.previous) → b.lines ≡ l ∷ ls → r.previous ≡ next_undo ls
      → Sits (log ++ r ∷ []) (undone (suc (length log)) b)
  unfolding undone rest_of pending_after
  sits_undone adds l ls k e p =
      record {
        from_one = s.from_one;
        last = due;
        lines = rw e (linked_more log (r ∷ []) ls (linked_rest log l ls (subst (Linked log) e s.lines)));
        newest = λ _. rw (record_next log r, e) (k (suc (length log)) ∙ p);
      }

  sits_marked : Sits (log ++ r ∷ []) (mark_set (suc (length log)) b)
  unfolding mark_set
  sits_marked =
      record { from_one = s.from_one; last = due; lines = linked_more log (r ∷ []) b.lines s.lines; newest = λ e. clash e }

-- THE STEP: what a record that keeps the chain does to the batches, by its kind.
module _ (log : List Rec) (r : Rec) (bs : List Batch) (h : Holds log bs) where
  abbrev o : Option Batch
  o = find_batch r.batch bs

  abbrev n : ℕ
  n = suc (length log)

  abbrev Next : List Batch → Type 0
  Next cs = All (Sits (log ++ r ∷ [])) cs × (pending_count cs ≤ length (log ++ r ∷ []))

  longer : length (log ++ r ∷ []) ≡ suc (length log)
  longer = length-append log (r ∷ []) ∙ omega arith

  all_more : All (Sits (log ++ r ∷ [])) bs
  all_more = all_map (sits_more log r) bs h.sits

  same_next : Next bs
  same_next = (all_more, omega (arith, h.count, longer))

  drop_next : Next (drop_batch r.batch bs)
  drop_next = (all_drop (Sits (log ++ r ∷ [])) r.batch bs all_more, omega (arith, h.count, longer, count_drop r.batch bs))

  found_sits : (b : Batch) → o ≡ some b → Sits log b
  found_sits b e = all_found (Sits log) r.batch bs b e h.sits

  change_next : (b : Batch) (f : Batch → Batch) → o ≡ some b → Sits (log ++ r ∷ []) (f b) → length (f b).lines ≤ suc (length b.lines) → Next (change_batch r.batch f bs)
  change_next b f e s q =
      (all_change (Sits (log ++ r ∷ [])) r.batch f bs b e s all_more, omega (arith, h.count, longer, count_change r.batch f bs b e))

  written_next : (adds : Bool) → r.kind ≡ adds_kind adds → pending_by (adds_kind adds) n r ≡ n → unmarked o && follows r o ≡ true
      → Next (change_batch r.batch (written n (record { number = n; adds = adds; key = r.key; value = r.second })) bs)
  unfolding written
  written_next adds k p e =
      let g = goes_on r o e in
      change_next g.batch (written n (record { number = n; adds = adds; key = r.key; value = r.second })) g.is
      (sits_written log r g.batch (found_sits g.batch g.is) adds k p g.free g.last) (omega arith)

  undone_next : (adds : Bool) → ((q : ℕ) → pending_by r.kind q r ≡ r.previous) → undoes adds r o ≡ true → Next (change_batch r.batch (undone n) bs)
  unfolding undone rest_of
  undone_next adds k e =
      let g = undoes_on adds r o e in
      let z : length g.rest ≤ suc (length g.batch.lines) = omega (arith, ap (λ (ls : List Line). length ls) g.lines) in
      change_next g.batch (undone n) g.is
      (sits_undone log r g.batch (found_sits g.batch g.is) adds g.line g.rest k g.lines g.left)
      (rw g.lines (omega arith))

  marked_next : unmarked o && follows r o ≡ true → Next (change_batch r.batch (mark_set n) bs)
  unfolding mark_set
  marked_next e =
      let g = goes_on r o e in
      change_next g.batch (mark_set n) g.is (sits_marked log r g.batch (found_sits g.batch g.is)) (omega arith)

  begun_next : r.kind ≡ begin → Next (bs ++ record { number = n; last = n; marked = false; lines = [] } ∷ [])
  unfolding Linked next_undo pending_after pending_by
  begun_next k = (
    all_end (Sits (log ++ r ∷ [])) bs (record { number = n; last = n; marked = false; lines = [] })
        (record {
          from_one = omega arith;
          last = omega (arith, longer);
          lines = tt;
          newest = λ _. ap (λ (x : Rec). pending_by x.kind n x) (record_next log r) ∙ ap (λ (x : Kind). pending_by x n r) k;
        }) all_more,
    omega (arith, h.count, longer, count_end bs (record { number = n; last = n; marked = false; lines = [] })),
  )

  kind_next : (k : Kind) → r.kind ≡ k → chains k r o ≡ true → Next (tell k n r bs)
  unfolding tell chains adds_kind pending_by
  kind_next begin e c = begun_next e
  kind_next insert e c = written_next true e refl c
  kind_next delete e c = written_next false e refl c
  kind_next undo_insert e c = undone_next true (λ q. ap (λ (x : Kind). pending_by x q r) e) c
  kind_next undo_delete e c = undone_next false (λ q. ap (λ (x : Kind). pending_by x q r) e) c
  kind_next commit e c = drop_next
  kind_next abort_mark e c = marked_next c
  kind_next end e c = drop_next
  kind_next split e c = same_next
  kind_next link e c = same_next
  kind_next unlink e c = same_next
  kind_next merge e c = same_next
  kind_next redistribute e c = same_next
  kind_next raise e c = same_next
  kind_next lower e c = same_next

  pub holds_step : chain_step n r bs ≡ true → Holds (log ++ r ∷ []) (tell r.kind n r bs)
  unfolding chain_step
  holds_step c =
      let p = and_true (chains r.kind r o) (leb (length (tell r.kind n r bs)) most_open) c in
      let q = kind_next r.kind refl p.0 in
      record { sits = q.0; few = true_le (length (tell r.kind n r bs)) most_open p.1; count = q.1 }

-- THE LOG: record after record.
pub holds_none : Holds [] []
unfolding All pending_count
holds_none = record { sits = tt; few = omega arith; count = omega arith }

holds_from : (before log : List Rec) (bs : List Batch) (n : ℕ) → n ≡ suc (length before) → Holds before bs → chain_ok n log bs ≡ true → Holds (before ++ log) (told n log bs)
unfolding chain_ok told
holds_from before [] bs n e h c = subst (λ (x : List Rec). Holds x bs) (sym (append-nil before)) h
holds_from before (r ∷ log) bs n e h c =
    let p = and_true (chain_step n r bs) (chain_ok (suc n) log (tell r.kind n r bs)) c in
    let s : Holds (before ++ r ∷ []) (tell r.kind n r bs) =
    subst (λ (m : ℕ). Holds (before ++ r ∷ []) (tell r.kind m r bs)) (sym e) (holds_step before r bs h (subst (λ (m : ℕ). chain_step m r bs ≡ true) e p.0)) in
    subst (λ (x : List Rec). Holds x (told (suc n) log (tell r.kind n r bs))) (append_assoc before (r ∷ []) log)
    (holds_from (before ++ r ∷ []) log (tell r.kind n r bs) (suc n) (omega (arith, e, length-append before (r ∷ []))) s p.1)

pub holds_open : (log : List Rec) → chain_ok 1 log [] ≡ true → Holds log (open_batches log)
unfolding open_batches
holds_open log c = holds_from [] log [] 1 (omega arith) holds_none c
