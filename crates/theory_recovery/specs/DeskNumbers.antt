-- The desk that a log says fits its bytes, of any log of less than 2^32 records: its numbers are those of records, or count them.
use Prim.Native.Nat.{ℕ, zero, suc, ◌+◌, ◌≤◌, ◌<◌, ◌^◌}
use Rattle.std.specs.Prelude.{◌≡◌, refl, Bool, true, false, eqb}
use Rattle.std.proofs.Common.{sym}
use Rattle.std.proofs.Math.Path.{subst}
use mathlib.Core.List.{List, [], ◌∷◌, ◌++◌, map}
use native.Mathlib.Omega.{arith}
use Rattle.std.proofs.Math.Decide.{dec_lt}
use Rattle.std.proofs.Math.ListN.{length, get_or-eq_default}
use Rattle.def_base.specs.Tests.{pick}
use Rattle.def_layout.specs.Numbers.{tab}
use Rattle.def_layout.specs.Desks.{no_row, row_at, eight_rows, empty_desk, read_row, read_desk}
use Rattle.def_layout.specs.Records.{Rec, Kind, begin, insert, delete, undo_insert, undo_delete, commit, abort_mark, end, split, link, unlink, merge, redistribute, raise, lower}
use Rattle.def_model.specs.Batches.{Line, Batch, change_batch, drop_batch, rest_of, next_undo, written, undone, mark_set, tell, told, open_batches, row_of, desk_of}
use Rattle.law_bytes.specs.Words.{Bytes, be32_lt}
use Rattle.law_bytes.specs.Tables.{tab_length, getD_tab}
use Rattle.law_bytes.specs.DeskBytes.{RowFits, Fits}

-- ---- the open batches of a log: their numbers are not above its last record's

unfoldable LinesUpTo : ℕ → List Line → Type 0
LinesUpTo m [] = Unit {0}
LinesUpTo m (l ∷ ls) = (l.number ≤ m) × LinesUpTo m ls

record UpTo (m : ℕ) (b : Batch) : Type 0 where
  number : b.number ≤ m
  last : b.last ≤ m
  lines : LinesUpTo m b.lines
  pending : length b.lines ≤ m

unfoldable AllUpTo : ℕ → List Batch → Type 0
AllUpTo m [] = Unit {0}
AllUpTo m (b ∷ bs) = UpTo m b × AllUpTo m bs

lines_more : (m : ℕ) (ls : List Line) → LinesUpTo m ls → LinesUpTo (suc m) ls
unfolding LinesUpTo
lines_more m [] h = tt
lines_more m (l ∷ ls) h = let k = h.0 in (omega arith, lines_more m ls h.1)

lines_rest : (m : ℕ) (ls : List Line) → LinesUpTo m ls → (LinesUpTo m (rest_of ls)) × (length (rest_of ls) ≤ length ls)
unfolding LinesUpTo rest_of
lines_rest m [] h = (tt, omega arith)
lines_rest m (l ∷ ls) h = (h.1, omega arith)

up_more : (m : ℕ) (b : Batch) → UpTo m b → UpTo (suc m) b
up_more m b h =
    let x = h.number in
    let y = h.last in
    let z = h.pending in
    record { number = omega arith; last = omega arith; lines = lines_more m b.lines h.lines; pending = omega arith }

all_more : (m : ℕ) (bs : List Batch) → AllUpTo m bs → AllUpTo (suc m) bs
unfolding AllUpTo
all_more m [] h = tt
all_more m (b ∷ bs) h = (up_more m b h.0, all_more m bs h.1)

all_change : (m n : ℕ) (f : Batch → Batch) (bs : List Batch) → ((b : Batch) → UpTo m b → UpTo (suc m) (f b)) → AllUpTo m bs → AllUpTo (suc m) (change_batch n f bs)
unfolding AllUpTo change_batch
all_change m n f [] g h = tt
all_change m n f (b ∷ bs) g h = go (eqb n b.number) (all_change m n f bs g h.1)
  where
    go : (t : Bool) → AllUpTo (suc m) (change_batch n f bs) → AllUpTo (suc m) (pick t (f b ∷ bs) (b ∷ change_batch n f bs))
    go true i = (g b h.0, all_more m bs h.1)
    go false i = (up_more m b h.0, i)

all_drop : (m n : ℕ) (bs : List Batch) → AllUpTo m bs → AllUpTo m (drop_batch n bs)
unfolding AllUpTo drop_batch
all_drop m n [] h = tt
all_drop m n (b ∷ bs) h = go (eqb n b.number) (all_drop m n bs h.1)
  where
    go : (t : Bool) → AllUpTo m (drop_batch n bs) → AllUpTo m (pick t bs (b ∷ drop_batch n bs))
    go true i = h.1
    go false i = (h.0, i)

all_end : (m : ℕ) (bs : List Batch) (b : Batch) → AllUpTo m bs → UpTo m b → AllUpTo m (bs ++ b ∷ [])
unfolding AllUpTo
all_end m [] b h u = (u, tt)
all_end m (x ∷ bs) b h u = (h.0, all_end m bs b h.1 u)

up_written : (m : ℕ) (l : Line) → l.number ≡ suc m → (b : Batch) → UpTo m b → UpTo (suc m) (written (suc m) l b)
unfolding written LinesUpTo
up_written m l e b h =
    let x = h.number in
    let z = h.pending in
    record { number = omega arith; last = omega arith; lines = (omega arith, lines_more m b.lines h.lines); pending = omega arith }

up_undone : (m : ℕ) (b : Batch) → UpTo m b → UpTo (suc m) (undone (suc m) b)
unfolding undone
up_undone m b h =
    let x = h.number in
    let z = h.pending in
    let (r, k) = lines_rest (suc m) b.lines (lines_more m b.lines h.lines) in
    record { number = omega arith; last = omega arith; lines = r; pending = omega arith }

up_marked : (m : ℕ) (b : Batch) → UpTo m b → UpTo (suc m) (mark_set (suc m) b)
unfolding mark_set
up_marked m b h =
    let x = h.number in
    let z = h.pending in
    record { number = omega arith; last = omega arith; lines = lines_more m b.lines h.lines; pending = omega arith }

all_tell : (k : Kind) (m : ℕ) (r : Rec) (bs : List Batch) → AllUpTo m bs → AllUpTo (suc m) (tell k (suc m) r bs)
unfolding tell LinesUpTo
all_tell begin m r bs h = all_end (suc m) bs _ (all_more m bs h) (record { number = omega arith; last = omega arith; lines = tt; pending = omega arith })
all_tell insert m r bs h = all_change m r.batch _ bs (up_written m _ refl) h
all_tell delete m r bs h = all_change m r.batch _ bs (up_written m _ refl) h
all_tell undo_insert m r bs h = all_change m r.batch _ bs (up_undone m) h
all_tell undo_delete m r bs h = all_change m r.batch _ bs (up_undone m) h
all_tell commit m r bs h = all_drop (suc m) r.batch bs (all_more m bs h)
all_tell abort_mark m r bs h = all_change m r.batch _ bs (up_marked m) h
all_tell end m r bs h = all_drop (suc m) r.batch bs (all_more m bs h)
all_tell split m r bs h = all_more m bs h
all_tell link m r bs h = all_more m bs h
all_tell unlink m r bs h = all_more m bs h
all_tell merge m r bs h = all_more m bs h
all_tell redistribute m r bs h = all_more m bs h
all_tell raise m r bs h = all_more m bs h
all_tell lower m r bs h = all_more m bs h

all_told : (m : ℕ) (log : List Rec) (bs : List Batch) → AllUpTo m bs → AllUpTo (m + length log) (told (suc m) log bs)
unfolding told
all_told m [] bs h = let e : m ≡ m + 0 = omega arith in subst (λ n. AllUpTo n bs) e h
all_told m (r ∷ log) bs h =
    let e : suc m + length log ≡ m + suc (length log) = omega arith in
    subst (λ n. AllUpTo n (told (suc (suc m)) log (tell r.kind (suc m) r bs))) e (all_told (suc m) log _ (all_tell r.kind m r bs h))

open_up_to : (log : List Rec) → AllUpTo (length log) (open_batches log)
unfolding open_batches AllUpTo
open_up_to log = let e : 0 + length log ≡ length log = omega arith in subst (λ n. AllUpTo n (told 1 log [])) e (all_told 0 log [] tt)

-- ---- the desk that a log says

undo_up_to : (m : ℕ) (ls : List Line) → LinesUpTo m ls → next_undo ls ≤ m
unfolding LinesUpTo next_undo
undo_up_to m [] h = omega arith
undo_up_to m (l ∷ ls) h = h.0

module _ (m : ℕ) (few : m < 2 ^ 32) where
  no_row_fits : RowFits no_row
  no_row_fits = record { batch = omega arith; last = omega arith; undo = omega arith; pending = omega arith }

  row_fits : (b : Batch) → UpTo m b → RowFits (row_of b)
  unfolding row_of
  row_fits b h =
      let x = h.number in
      let y = h.last in
      let z = h.pending in
      let u = undo_up_to m b.lines h.lines in
      record { batch = omega arith; last = omega arith; undo = omega arith; pending = omega arith }

  rows_fit : (bs : List Batch) → AllUpTo m bs → (i : ℕ) → RowFits (row_at (map row_of bs) i)
  unfolding AllUpTo
  rows_fit [] h i = no_row_fits
  rows_fit (b ∷ bs) h zero = row_fits b h.0
  rows_fit (b ∷ bs) h (suc i) = rows_fit bs h.1 i

  eight_fit : (bs : List Batch) → AllUpTo m bs → (i : ℕ) → RowFits (row_at (eight_rows (map row_of bs)) i)
  unfolding eight_rows
  eight_fit bs h i = go (dec_lt i 8)
    where
      go : Dec (i < 8) → RowFits (row_at (tab 8 (row_at (map row_of bs))) i)
      go (yes l) = subst RowFits (sym (getD_tab 8 i (row_at (map row_of bs)) no_row l)) (rows_fit bs h i)
      go (no l) =
          let e : length (tab 8 (row_at (map row_of bs))) ≤ i = let k = tab_length 8 (row_at (map row_of bs)) in omega arith in
          subst RowFits (sym (get_or-eq_default (tab 8 (row_at (map row_of bs))) no_row {n = i} e)) no_row_fits

-- OF ANY LOG.
pub desk_of_fits : (log : List Rec) (stored : ℕ) → length log < 2 ^ 32 → stored < 2 ^ 32 → Fits (desk_of log stored)
unfolding desk_of eight_rows
desk_of_fits log stored few h =
    record {
      rows = tab_length 8 (row_at (map row_of (open_batches log)));
      row = eight_fit (length log) few (open_batches log) (open_up_to log);
      logged = few;
      stored = h;
    }

pub empty_fits : Fits empty_desk
unfolding desk_of open_batches told eight_rows tab
empty_fits = desk_of_fits [] 0 (omega arith) (omega arith)

-- A desk that is read from bytes fits.
pub read_fits : (b : List ℕ) → Bytes b → Fits (read_desk b)
unfolding read_desk read_row
read_fits b w =
    record {
      rows = tab_length 8 (read_row b);
      row = λ i. go i (dec_lt i 8);
      logged = be32_lt b 128 w;
      stored = be32_lt b 132 w;
    }
  where
    read : (i : ℕ) → RowFits (read_row b i)
    read i = record { batch = be32_lt b _ w; last = be32_lt b _ w; undo = be32_lt b _ w; pending = be32_lt b _ w }

    go : (i : ℕ) → Dec (i < 8) → RowFits (row_at (tab 8 (read_row b)) i)
    go i (yes l) = subst RowFits (sym (getD_tab 8 i (read_row b) no_row l)) (read i)
    go i (no l) =
        let e : length (tab 8 (read_row b)) ≤ i = let k = tab_length 8 (read_row b) in omega arith in
        subst RowFits (sym (get_or-eq_default (tab 8 (read_row b)) no_row {n = i} e)) (no_row_fits 0 (omega arith))
