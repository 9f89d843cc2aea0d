-- A log has no more open batches than records: a record opens one at most.
use Rattle.std.specs.Prelude.{ℕ, suc, ◌+◌, ◌≤◌, ◌≡◌, refl, Bool, true, false, List, [], ◌∷◌, length, eqb}
use Rattle.std.proofs.Common.{ap, arith, length-append}
use Rattle.def_base.specs.Tests.{pick}
use Rattle.def_layout.specs.Records.{Rec, Kind, begin, insert, delete, undo_insert, undo_delete, commit, abort_mark, end, split, link, unlink, merge, redistribute, raise, lower}
use Rattle.def_model.specs.Batches.{Batch, change_batch, drop_batch, tell, told, open_batches}

pub length_change_batch : (n : ℕ) (f : Batch → Batch) (bs : List Batch) → length (change_batch n f bs) ≡ length bs
unfolding change_batch
length_change_batch n f [] = refl
length_change_batch n f (b ∷ bs) = by_test (eqb n b.number) (length_change_batch n f bs)
  where
    by_test : (t : Bool) → length (change_batch n f bs) ≡ length bs → length (pick t (f b ∷ bs) (b ∷ change_batch n f bs)) ≡ suc (length bs)
    by_test true e = refl
    by_test false e = ap suc e

pub length_drop_batch : (n : ℕ) (bs : List Batch) → length (drop_batch n bs) ≤ length bs
unfolding drop_batch
length_drop_batch n [] = omega arith
length_drop_batch n (b ∷ bs) = by_test (eqb n b.number) (length_drop_batch n bs)
  where
    by_test : (t : Bool) → length (drop_batch n bs) ≤ length bs → length (pick t bs (b ∷ drop_batch n bs)) ≤ suc (length bs)
    by_test true e = omega arith
    by_test false e = omega arith

change_batch_few : (n : ℕ) (f : Batch → Batch) (bs : List Batch) → length (change_batch n f bs) ≤ suc (length bs)
change_batch_few n f bs = let e = length_change_batch n f bs in omega arith

length_tell : (k : Kind) (n : ℕ) (r : Rec) (bs : List Batch) → length (tell k n r bs) ≤ suc (length bs)
unfolding tell
length_tell begin n r bs = let e = length-append bs (record { number = n; last = n; marked = false; lines = [] } ∷ []) in omega arith
length_tell insert n r bs = change_batch_few r.batch _ bs
length_tell delete n r bs = change_batch_few r.batch _ bs
length_tell undo_insert n r bs = change_batch_few r.batch _ bs
length_tell undo_delete n r bs = change_batch_few r.batch _ bs
length_tell commit n r bs = let e = length_drop_batch r.batch bs in omega arith
length_tell abort_mark n r bs = change_batch_few r.batch _ bs
length_tell end n r bs = let e = length_drop_batch r.batch bs in omega arith
length_tell split n r bs = omega arith
length_tell link n r bs = omega arith
length_tell unlink n r bs = omega arith
length_tell merge n r bs = omega arith
length_tell redistribute n r bs = omega arith
length_tell raise n r bs = omega arith
length_tell lower n r bs = omega arith

length_told : (n : ℕ) (l : List Rec) (bs : List Batch) → length (told n l bs) ≤ length l + length bs
unfolding told
length_told n [] bs = omega arith
length_told n (r ∷ l) bs = let e = length_tell r.kind n r bs in let d = length_told (suc n) l (tell r.kind n r bs) in omega arith

pub length_open_batches : (log : List Rec) → length (open_batches log) ≤ length log
unfolding open_batches
length_open_batches log = let e = length_told 1 log [] in omega arith
