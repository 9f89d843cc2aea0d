-- The desk after a call's records: a row more, a row changed, or a row gone with the rest closing up.
use Prim.Native.Nat.{ℕ, suc, ◌+◌, ◌≤◌, ◌<◌}
use Rattle.std.specs.Prelude.{◌≡◌, ◌≢◌, true, false, replicate}
use Rattle.std.proofs.Math.Path.{refl, sym, ap}
use Rattle.std.proofs.Common.{ap₂, ◌∙◌, subst}
use mathlib.Core.List.{List, [], ◌∷◌, ◌++◌, append_assoc, append-nil}
use native.Mathlib.Omega.{arith}
use Rattle.std.proofs.Math.ListN.{length, set, length-append}
use Rattle.def_layout.specs.declared.Row.{Row}
use Rattle.def_layout.specs.declared.Desk.{Desk}
use Rattle.def_layout.specs.Numbers.{tab}
use Rattle.def_layout.specs.Desks.{no_row, row_at, eight_rows}
use Rattle.def_layout.specs.Records.{Rec, Kind, begin, insert, delete, commit, batch_row, data_row}
use Rattle.def_model.specs.Batches.{Line, Batch, next_undo, change_batch, drop_batch, written, tell, open_batches, chain_ok, row_of, desk_of}
use Rattle.theory_update.specs.Run.Keeps.{Structural, splitting, linking, unlinking, merging, sharing, raising, lowering}
use Rattle.theory_update.specs.Run.Wrote.{AllStructural}
use Rattle.theory_ledger.specs.Marks.{left_with}
use Rattle.theory_ledger.specs.Batching.{find_number}
use Rattle.theory_ledger.specs.Telling.{open_more}
use Rattle.law_bytes.specs.DeskRows.{place_of, new_row, without}
use Rattle.theory_desk.specs.Opened.{batch_at, open_few}
use Rattle.theory_desk.specs.Rows.{rows_of, rows_added, rows_changed, rows_dropped}
use Rattle.theory_desk.specs.Said.{said_rows, said_row, said_used, said_found}

-- ---- records of the tree say nothing of batches

pub structural_tells : (k : Kind) → Structural k → (n : ℕ) (r : Rec) (bs : List Batch) → tell k n r bs ≡ bs
unfolding tell
structural_tells k splitting n r bs = refl
structural_tells k linking n r bs = refl
structural_tells k unlinking n r bs = refl
structural_tells k merging n r bs = refl
structural_tells k sharing n r bs = refl
structural_tells k raising n r bs = refl
structural_tells k lowering n r bs = refl

pub open_structural : (log body : List Rec) → AllStructural body → open_batches (log ++ body) ≡ open_batches log
unfolding AllStructural
open_structural log [] q = ap open_batches (append-nil log)
open_structural log (r ∷ body) q =
    ap open_batches (sym (append_assoc log (r ∷ []) body)) ∙ open_structural (log ++ r ∷ []) body q.1
    ∙ open_more log r ∙ structural_tells r.kind q.0 (suc (length log)) r (open_batches log)

-- So the last record alone tells, with its own number.
pub open_last : (log after body : List Rec) (r : Rec) → AllStructural body → after ≡ log ++ (body ++ r ∷ []) → open_batches after ≡ tell r.kind (length after) r (open_batches log)
open_last log after body r q e =
    let f : after ≡ (log ++ body) ++ r ∷ [] = e ∙ sym (append_assoc log body (r ∷ [])) in
    let n : suc (length (log ++ body)) ≡ length after = sym (ap length f ∙ length-append (log ++ body) (r ∷ []) ∙ omega arith) in
    ap open_batches f ∙ open_more (log ++ body) r ∙ ap₂ (λ m bs. tell r.kind m r bs) n (open_structural log body q)

-- The desk of a log by its rows; with no batch open they are all empty.
desk_by : (after : List Rec) (rows : List Row) (n stored : ℕ) → rows_of (open_batches after) ≡ rows → n ≡ length after → desk_of after stored ≡ record { rows = rows; logged = n; stored = stored }
unfolding desk_of
desk_by after rows n stored e en = let sn = sym en in λ i. record { rows = e i; logged = sn i; stored = stored }

pub desk_none_open : (after : List Rec) (n stored : ℕ) → open_batches after ≡ [] → n ≡ length after → desk_of after stored ≡ record { rows = replicate 8 no_row; logged = n; stored = stored }
unfolding eight_rows tab
desk_none_open after n stored o en = desk_by after (replicate 8 no_row) n stored (ap rows_of o) en

module _ (log : List Rec) (d : Desk) (chain : chain_ok 1 log [] ≡ true) (said : d ≡ desk_of log d.stored) where
  few : length (open_batches log) ≤ 8
  few = open_few log chain

  was : rows_of (open_batches log) ≡ d.rows
  was = said_rows log d chain said

  -- ---- begin: a row more

  pub desk_begun : (after : List Rec) (n previous stored : ℕ) → place_of 0 d.rows < 8 → n ≡ suc (length log) → after ≡ log ++ batch_row begin n previous ∷ []
      → desk_of after stored ≡ record { rows = set d.rows (place_of 0 d.rows) (new_row n); logged = n; stored = stored }
  unfolding tell row_of next_undo
  desk_begun after n previous stored h en e =
      let x : Batch = record { number = suc (length log); last = suc (length log); marked = false; lines = [] } in
      let o : open_batches after ≡ open_batches log ++ x ∷ [] = ap open_batches e ∙ open_more log (batch_row begin n previous) in
      let l : length (open_batches log) ≡ place_of 0 d.rows = sym (said_used log d chain said) in
      let sn = sym en in
      desk_by after (set d.rows (place_of 0 d.rows) (new_row n)) n stored
      (ap rows_of o ∙ rows_added (open_batches log) x (omega arith) ∙ (λ i. set (was i) (l i) (new_row (sn i))))
      (sym (ap length e ∙ length-append log (batch_row begin n previous ∷ []) ∙ omega arith))

  -- ---- an update: the row of its batch changed, at place i

  changed_rows : (b i : ℕ) (f : Batch → Batch) → b ≢ 0 → i ≡ place_of b d.rows → i < 8
      → rows_of (change_batch b f (open_batches log)) ≡ set d.rows i (row_of (f (batch_at (open_batches log) i)))
  changed_rows b i f n e h =
      let at_place = subst (λ (rs : List Row). b ≢ 0 → place_of b rs < 8 → rows_of (change_batch b f (open_batches log)) ≡ set rs (place_of b rs) (row_of (f (batch_at (open_batches log) (place_of b rs))))) was (rows_changed (open_batches log) few b f) in
      subst (λ (j : ℕ). j < 8 → rows_of (change_batch b f (open_batches log)) ≡ set d.rows j (row_of (f (batch_at (open_batches log) j)))) (sym e) (at_place n) h

  wrote_desk : (after : List Rec) (b i p n stored : ℕ) (l : Line) → b ≢ 0 → i ≡ place_of b d.rows → i < 8 → p ≡ (row_at d.rows i).pending + 1 → n ≡ length after → l.number ≡ length after
      → open_batches after ≡ change_batch b (written (length after) l) (open_batches log)
      → desk_of after stored ≡ record { rows = set d.rows i (record { batch = b; last = n; undo = n; pending = p }); logged = n; stored = stored }
  unfolding row_of written next_undo
  wrote_desk after b i p n stored l nz e h ep en el o =
      let x = batch_at (open_batches log) i in
      let num : x.number ≡ b = sym (find_number b (open_batches log) x (said_found log d chain said b i nz e h)) in
      let was_pending : (row_at d.rows i).pending ≡ length x.lines = ap (λ (r : Row). r.pending) (said_row log d chain said i) in
      let pend : suc (length x.lines) ≡ p = omega arith in
      let sn = sym en in
      let un = el ∙ sn in
      desk_by after (set d.rows i (record { batch = b; last = n; undo = n; pending = p })) n stored
      (ap rows_of o ∙ changed_rows b i (written (length after) l) nz e h ∙ (λ j. set d.rows i (record { batch = num j; last = sn j; undo = un j; pending = pend j }))) en

  -- Records of the tree, and then an update's own.
  pub desk_inserted : (after body : List Rec) (b previous a k v i p n stored : ℕ) → b ≢ 0 → i ≡ place_of b d.rows → i < 8 → p ≡ (row_at d.rows i).pending + 1
      → AllStructural body → after ≡ log ++ (body ++ data_row insert b previous a k v ∷ []) → n ≡ length after
      → desk_of after stored ≡ record { rows = set d.rows i (record { batch = b; last = n; undo = n; pending = p }); logged = n; stored = stored }
  unfolding tell
  desk_inserted after body b previous a k v i p n stored nz e h ep q w en =
      wrote_desk after b i p n stored (record { number = length after; adds = true; key = k; value = v }) nz e h ep en refl (open_last log after body (data_row insert b previous a k v) q w)

  pub desk_deleted : (after body : List Rec) (b previous a k v i p n stored : ℕ) → b ≢ 0 → i ≡ place_of b d.rows → i < 8 → p ≡ (row_at d.rows i).pending + 1
      → AllStructural body → after ≡ log ++ (body ++ data_row delete b previous a k v ∷ []) → n ≡ length after
      → desk_of after stored ≡ record { rows = set d.rows i (record { batch = b; last = n; undo = n; pending = p }); logged = n; stored = stored }
  unfolding tell
  desk_deleted after body b previous a k v i p n stored nz e h ep q w en =
      wrote_desk after b i p n stored (record { number = length after; adds = false; key = k; value = v }) nz e h ep en refl (open_last log after body (data_row delete b previous a k v) q w)

  -- ---- a return: its batch's row has another last record, and fewer lines

  pub desk_returned : (after : List Rec) (b i last n stored : ℕ) (ls : List Line) → b ≢ 0 → i ≡ place_of b d.rows → i < 8 → open_batches after ≡ change_batch b (left_with last ls) (open_batches log) → n ≡ length after
      → desk_of after stored ≡ record { rows = set d.rows i (record { batch = b; last = last; undo = next_undo ls; pending = length ls }); logged = n; stored = stored }
  unfolding row_of left_with
  desk_returned after b i last n stored ls nz e h o en =
      let x = batch_at (open_batches log) i in
      let num : x.number ≡ b = sym (find_number b (open_batches log) x (said_found log d chain said b i nz e h)) in
      desk_by after (set d.rows i (record { batch = b; last = last; undo = next_undo ls; pending = length ls })) n stored
      (ap rows_of o ∙ changed_rows b i (left_with last ls) nz e h ∙ (λ j. set d.rows i (record { batch = num j; last = last; undo = next_undo ls; pending = length ls }))) en

  -- ---- a batch gone: its row goes, and the rest close up

  pub desk_dropped : (after : List Rec) (b i n stored : ℕ) → b ≢ 0 → i ≡ place_of b d.rows → i < 8 → open_batches after ≡ drop_batch b (open_batches log) → n ≡ length after
      → desk_of after stored ≡ record { rows = without d.rows i; logged = n; stored = stored }
  desk_dropped after b i n stored nz e h o en =
      let at_place = subst (λ (rs : List Row). b ≢ 0 → place_of b rs < 8 → rows_of (drop_batch b (open_batches log)) ≡ without rs (place_of b rs)) was (rows_dropped (open_batches log) few b) in
      desk_by after (without d.rows i) n stored
      (ap rows_of o ∙ subst (λ (j : ℕ). j < 8 → rows_of (drop_batch b (open_batches log)) ≡ without d.rows j) (sym e) (at_place nz) h) en

  pub desk_committed : (after : List Rec) (b previous i n stored : ℕ) → b ≢ 0 → i ≡ place_of b d.rows → i < 8 → after ≡ log ++ batch_row commit b previous ∷ [] → n ≡ length after
      → desk_of after stored ≡ record { rows = without d.rows i; logged = n; stored = stored }
  unfolding tell
  desk_committed after b previous i n stored nz e h w en =
      desk_dropped after b i n stored nz e h (ap open_batches w ∙ open_more log (batch_row commit b previous)) en
