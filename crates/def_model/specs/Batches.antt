-- Batches (transactions): 01's batch chain, the open batches that a log says, and the desk that it says.
use Rattle.std.specs.Prelude.{ℕ, suc, ◌+◌, Bool, true, false, not, ◌&&◌, List, [], ◌∷◌, ◌++◌, map, length, leb, ltb, eqb}
use Rattle.std.proofs.Math.Option.{Option, none, some}
use Rattle.def_base.specs.Tests.{pick}
use Rattle.def_layout.specs.declared.Row.{Row}
use Rattle.def_layout.specs.declared.Desk.{Desk}
use Rattle.def_layout.specs.Desks.{eight_rows, most_open}
use Rattle.def_layout.specs.Records.{Rec, Kind, begin, insert, delete, undo_insert, undo_delete, commit, abort_mark, end, split, link, unlink, merge, redistribute, raise, lower}
use Rattle.def_model.specs.Log.{last_number, record_at}

-- An update that is not yet undone (pending): its record's number, whether it inserts, its key and value.
pub record Line : Type 0 where
  pub number : ℕ
  pub adds : Bool
  pub key : ℕ
  pub value : ℕ

-- An open batch: its number, its last record, whether it has its abort mark (7), and what is pending, the newest first.
pub record Batch : Type 0 where
  pub number : ℕ
  pub last : ℕ
  pub marked : Bool
  pub lines : List Line

unfoldable pub find_batch : ℕ → List Batch → Option Batch
find_batch n [] = none
find_batch n (b ∷ bs) = pick (eqb n b.number) (some b) (find_batch n bs)

unfoldable pub change_batch : ℕ → (Batch → Batch) → List Batch → List Batch
change_batch n f [] = []
change_batch n f (b ∷ bs) = pick (eqb n b.number) (f b ∷ bs) (b ∷ change_batch n f bs)

unfoldable pub drop_batch : ℕ → List Batch → List Batch
drop_batch n [] = []
drop_batch n (b ∷ bs) = pick (eqb n b.number) bs (b ∷ drop_batch n bs)

unfoldable pub rest_of : List Line → List Line
rest_of [] = []
rest_of (l ∷ ls) = ls

-- 01: "Next to undo is the batch's newest pending update, 0 if none."
unfoldable pub next_undo : List Line → ℕ
next_undo [] = 0
next_undo (l ∷ ls) = l.number

-- ---- what a record, number n, does to the open batches

unfoldable pub written : ℕ → Line → Batch → Batch
written n l b = record { number = b.number; last = n; marked = b.marked; lines = l ∷ b.lines }

unfoldable pub undone : ℕ → Batch → Batch
undone n b = record { number = b.number; last = n; marked = b.marked; lines = rest_of b.lines }

unfoldable pub mark_set : ℕ → Batch → Batch
mark_set n b = record { number = b.number; last = n; marked = true; lines = b.lines }

unfoldable pub tell : Kind → ℕ → Rec → List Batch → List Batch
tell begin n r bs = bs ++ record { number = n; last = n; marked = false; lines = [] } ∷ []
tell insert n r bs = change_batch r.batch (written n (record { number = n; adds = true; key = r.key; value = r.second })) bs
tell delete n r bs = change_batch r.batch (written n (record { number = n; adds = false; key = r.key; value = r.second })) bs
tell undo_insert n r bs = change_batch r.batch (undone n) bs
tell undo_delete n r bs = change_batch r.batch (undone n) bs
tell commit n r bs = drop_batch r.batch bs
tell abort_mark n r bs = change_batch r.batch (mark_set n) bs
tell end n r bs = drop_batch r.batch bs
tell split n r bs = bs
tell link n r bs = bs
tell unlink n r bs = bs
tell merge n r bs = bs
tell redistribute n r bs = bs
tell raise n r bs = bs
tell lower n r bs = bs

-- The records from number n on.
unfoldable pub told : ℕ → List Rec → List Batch → List Batch
told n [] bs = bs
told n (r ∷ l) bs = told (suc n) l (tell r.kind n r bs)

-- THE OPEN BATCHES that a log says, by rising number.
unfoldable pub open_batches : List Rec → List Batch
open_batches log = told 1 log []

-- 02, U2: a mark is "the number of a record of that batch", of any kind. A record of a tree change is of no batch.
unfoldable pub is_record_of : ℕ → ℕ → List Rec → Bool
is_record_of b n log = ltb 0 n && (leb n (last_number log) && eqb b (record_at log n).batch)

-- ---- the batch chain (refusal 4)

-- A record that goes on from the batch's last record.
unfoldable pub follows : Rec → Option Batch → Bool
follows r none = false
follows r (some b) = eqb r.previous b.last

-- 01: "2, 3, 6 and a second 7 never follow its 7".
unfoldable pub unmarked : Option Batch → Bool
unmarked none = false
unmarked (some b) = not b.marked

-- 01: "a 4 or 5 undoes its newest pending update"; "previous = next to undo after this undo".
unfoldable pub undoes_line : Rec → List Line → Bool
undoes_line r [] = false
undoes_line r (l ∷ ls) = eqb r.key l.key && eqb r.previous (next_undo ls)

unfoldable pub newest_is : Bool → ℕ → List Line → Bool
newest_is adds v [] = false
newest_is true v (l ∷ ls) = l.adds
newest_is false v (l ∷ ls) = not l.adds && eqb v l.value

unfoldable pub undoes : Bool → Rec → Option Batch → Bool
undoes adds r none = false
undoes adds r (some b) = newest_is adds r.second b.lines && undoes_line r b.lines

-- 01: "an 8 has nothing pending".
unfoldable pub nothing_pending : Option Batch → Bool
nothing_pending none = false
nothing_pending (some b) = eqb (length b.lines) 0

-- 01: "a batch starts with its begin .. nothing follows a 6 or 8": every other record of a batch is of an open one.
unfoldable pub chains : Kind → Rec → Option Batch → Bool
chains begin r o = true
chains insert r o = unmarked o && follows r o
chains delete r o = unmarked o && follows r o
chains undo_insert r o = undoes true r o
chains undo_delete r o = undoes false r o
chains commit r o = unmarked o && follows r o
chains abort_mark r o = unmarked o && follows r o
chains end r o = nothing_pending o && follows r o
chains split r o = true
chains link r o = true
chains unlink r o = true
chains merge r o = true
chains redistribute r o = true
chains raise r o = true
chains lower r o = true

-- One record keeps the chain. 01: "more than eight batches are open" is judged after every record.
unfoldable pub chain_step : ℕ → Rec → List Batch → Bool
chain_step n r bs = chains r.kind r (find_batch r.batch bs) && leb (length (tell r.kind n r bs)) most_open

unfoldable pub chain_ok : ℕ → List Rec → List Batch → Bool
chain_ok n [] bs = true
chain_ok n (r ∷ l) bs = chain_step n r bs && chain_ok (suc n) l (tell r.kind n r bs)

-- ---- the desk that a log says

unfoldable pub row_of : Batch → Row
row_of b = record { batch = b.number; last = b.last; undo = next_undo b.lines; pending = length b.lines }

-- Of a log whose first `stored` records are in the stable log.
unfoldable pub desk_of : List Rec → ℕ → Desk
desk_of log stored = record { rows = eight_rows (map row_of (open_batches log)); logged = last_number log; stored = stored }

-- Updates pending in all open batches.
unfoldable pub pending_count : List Batch → ℕ
pending_count [] = 0
pending_count (b ∷ bs) = length b.lines + pending_count bs
