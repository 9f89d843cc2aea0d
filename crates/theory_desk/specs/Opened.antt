-- The open batches of a log, by their places: numbered from 1 and not above the log's last record, each number once, and at most eight.
use Rattle.std.specs.Prelude.{ℕ, zero, suc, ◌≤◌, ◌<◌, ◌≡◌, refl, ◌≢◌, Bool, true, false, List, [], ◌∷◌, ◌++◌, length, get_or, leb, eqb}
use Rattle.std.proofs.Common.{sym, subst, arith}
use Rattle.std.proofs.Math.Option.{none}
use Rattle.def_base.specs.Tests.{pick, and_true, true_le, neq_false}
use Rattle.def_layout.specs.Desks.{most_open}
use Rattle.def_layout.specs.Records.{Rec, Kind, begin, insert, delete, undo_insert, undo_delete, commit, abort_mark, end, split, link, unlink, merge, redistribute, raise, lower}
use Rattle.def_model.specs.Batches.{Batch, find_batch, change_batch, drop_batch, written, undone, mark_set, tell, told, open_batches, chains, chain_step, chain_ok}
use Rattle.def_model.specs.Log.{records_of, slots_ok}
use Rattle.def_model.specs.Areas.{Side}
use Rattle.def_model.specs.Sound.{log_ok}
use Rattle.theory_ledger.specs.Held.{Fresh, Distinct}
use Rattle.theory_ledger.specs.Batching.{Within}
use Rattle.theory_ledger.specs.Telling.{numbered_open}

-- The batch at place i. Where there is none, its row is the empty one.
abbrev pub no_batch : Batch
no_batch = record { number = 0; last = 0; marked = false; lines = [] }

abbrev pub batch_at : List Batch → ℕ → Batch
batch_at bs i = get_or bs i no_batch

-- ---- numbered from 1

unfoldable pub FromOne : List Batch → Type 0
FromOne [] = Unit {0}
FromOne (b ∷ bs) = (0 < b.number) × FromOne bs

one_change : (n : ℕ) (f : Batch → Batch) (bs : List Batch) → ((b : Batch) → (f b).number ≡ b.number) → FromOne bs → FromOne (change_batch n f bs)
unfolding FromOne change_batch
one_change n f [] k h = tt
one_change n f (b ∷ bs) k h = go (eqb n b.number) (one_change n f bs k h.1)
  where
    go : (t : Bool) → FromOne (change_batch n f bs) → FromOne (pick t (f b ∷ bs) (b ∷ change_batch n f bs))
    go true i = (subst (λ m. 0 < m) (sym (k b)) h.0, h.1)
    go false i = (h.0, i)

one_drop : (n : ℕ) (bs : List Batch) → FromOne bs → FromOne (drop_batch n bs)
unfolding FromOne drop_batch
one_drop n [] h = tt
one_drop n (b ∷ bs) h = go (eqb n b.number) (one_drop n bs h.1)
  where
    go : (t : Bool) → FromOne (drop_batch n bs) → FromOne (pick t bs (b ∷ drop_batch n bs))
    go true i = h.1
    go false i = (h.0, i)

one_end : (bs : List Batch) (b : Batch) → 0 < b.number → FromOne bs → FromOne (bs ++ b ∷ [])
unfolding FromOne
one_end [] b l h = (l, tt)
one_end (a ∷ bs) b l h = (h.0, one_end bs b l h.1)

one_tell : (k : Kind) (m : ℕ) (r : Rec) (bs : List Batch) → FromOne bs → FromOne (tell k (suc m) r bs)
unfolding tell written undone mark_set
one_tell begin m r bs h = one_end bs _ (omega arith) h
one_tell insert m r bs h = one_change r.batch _ bs (λ b. refl) h
one_tell delete m r bs h = one_change r.batch _ bs (λ b. refl) h
one_tell undo_insert m r bs h = one_change r.batch _ bs (λ b. refl) h
one_tell undo_delete m r bs h = one_change r.batch _ bs (λ b. refl) h
one_tell commit m r bs h = one_drop r.batch bs h
one_tell abort_mark m r bs h = one_change r.batch _ bs (λ b. refl) h
one_tell end m r bs h = one_drop r.batch bs h
one_tell split m r bs h = h
one_tell link m r bs h = h
one_tell unlink m r bs h = h
one_tell merge m r bs h = h
one_tell redistribute m r bs h = h
one_tell raise m r bs h = h
one_tell lower m r bs h = h

one_told : (m : ℕ) (log : List Rec) (bs : List Batch) → FromOne bs → FromOne (told (suc m) log bs)
unfolding told
one_told m [] bs h = h
one_told m (r ∷ log) bs h = one_told (suc m) log (tell r.kind (suc m) r bs) (one_tell r.kind m r bs h)

pub open_from_one : (log : List Rec) → FromOne (open_batches log)
unfolding open_batches FromOne
open_from_one log = one_told 0 log [] tt

-- ---- at most eight

few_told : (n : ℕ) (log : List Rec) (bs : List Batch) → chain_ok n log bs ≡ true → length bs ≤ 8 → length (told n log bs) ≤ 8
unfolding told chain_ok chain_step
few_told n [] bs e h = h
few_told n (r ∷ log) bs e h =
    let (a, b) = and_true (chain_step n r bs) (chain_ok (suc n) log (tell r.kind n r bs)) e in
    let (c, l) = and_true (chains r.kind r (find_batch r.batch bs)) (leb (length (tell r.kind n r bs)) most_open) a in
    few_told (suc n) log (tell r.kind n r bs) b (true_le (length (tell r.kind n r bs)) most_open l)

pub open_few : (log : List Rec) → chain_ok 1 log [] ≡ true → length (open_batches log) ≤ 8
unfolding open_batches
open_few log e = few_told 1 log [] e (omega arith)

-- Areas in which restart's 4 finds nothing have a log that keeps the chain.
pub log_chain : (s : Side) → log_ok s ≡ true → chain_ok 1 (records_of s.log) [] ≡ true
unfolding log_ok
log_chain s e = (and_true (chain_ok 1 (records_of s.log) []) _ (and_true (slots_ok (length s.pages) 1 s.log) _ e).1).0

-- ---- by place

pub from_one_at : (bs : List Batch) (i : ℕ) → FromOne bs → i < length bs → 0 < (batch_at bs i).number
unfolding FromOne
from_one_at [] i h l = absurd (omega arith)
from_one_at (b ∷ bs) zero h l = h.0
from_one_at (b ∷ bs) (suc i) h l = from_one_at bs i h.1 (omega arith)

within_at : (m : ℕ) (bs : List Batch) (i : ℕ) → Within m bs → i < length bs → (batch_at bs i).number ≤ m
unfolding Within
within_at m [] i h l = absurd (omega arith)
within_at m (b ∷ bs) zero h l = h.0
within_at m (b ∷ bs) (suc i) h l = within_at m bs i h.2 (omega arith)

fresh_at : (n : ℕ) (bs : List Batch) (i : ℕ) → Fresh n bs → i < length bs → n ≢ (batch_at bs i).number
unfolding Fresh
fresh_at n [] i h l = absurd (omega arith)
fresh_at n (b ∷ bs) zero h l = h.0
fresh_at n (b ∷ bs) (suc i) h l = fresh_at n bs i h.1 (omega arith)

distinct_at : (bs : List Batch) (i j : ℕ) → Distinct bs → i < j → j < length bs → (batch_at bs i).number ≢ (batch_at bs j).number
unfolding Distinct
distinct_at [] i j h l k = absurd (omega arith)
distinct_at (b ∷ bs) i zero h l k = absurd (omega arith)
distinct_at (b ∷ bs) zero (suc j) h l k = fresh_at b.number bs j h.0 (omega arith)
distinct_at (b ∷ bs) (suc i) (suc j) h l k = distinct_at bs i j h.1 (omega arith) (omega arith)

pub open_number : (log : List Rec) (i : ℕ) → i < length (open_batches log) → (0 < (batch_at (open_batches log) i).number) × ((batch_at (open_batches log) i).number ≤ length log)
open_number log i l = (from_one_at (open_batches log) i (open_from_one log) l, within_at (length log) (open_batches log) i (numbered_open log).within l)

pub open_differ : (log : List Rec) (i j : ℕ) → i < j → j < length (open_batches log) → (batch_at (open_batches log) i).number ≢ (batch_at (open_batches log) j).number
open_differ log i j l k = distinct_at (open_batches log) i j (numbered_open log).distinct l k

-- Batch 0 is never open.
pub from_one_none : (bs : List Batch) → FromOne bs → find_batch 0 bs ≡ none
unfolding FromOne find_batch
from_one_none [] h = refl
from_one_none (b ∷ bs) h = let a = h.0 in let n : 0 ≢ b.number = λ e. omega arith in rw (neq_false n) (from_one_none bs h.1)

pub zero_not_open : (log : List Rec) → find_batch 0 (open_batches log) ≡ none
zero_not_open log = from_one_none (open_batches log) (open_from_one log)
