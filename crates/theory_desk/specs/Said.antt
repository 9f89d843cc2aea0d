-- What a desk that is the one its log says tells of the log: how many records and open batches there are, and which batch has a row.
use Rattle.std.specs.Prelude.{ℕ, ◌≤◌, ◌<◌, ◌≡◌, ◌≢◌, true, List, [], length}
use Rattle.std.proofs.Common.{sym, ◌∙◌, subst}
use Rattle.std.proofs.Math.Path.{ap}
use Rattle.std.proofs.Math.Option.{none, some}
use Rattle.def_layout.specs.declared.Row.{Row}
use Rattle.def_layout.specs.declared.Desk.{Desk}
use Rattle.def_layout.specs.Desks.{row_at}
use Rattle.def_layout.specs.Records.{Rec}
use Rattle.def_model.specs.Batches.{Batch, find_batch, open_batches, chain_ok, row_of, desk_of}
use Rattle.law_bytes.specs.DeskRows.{place_of}
use Rattle.theory_desk.specs.Opened.{batch_at, open_from_one, open_few}
use Rattle.theory_desk.specs.Rows.{rows_of, rows_at, rows_used, rows_none, rows_found, rows_open}

module _ (log : List Rec) (d : Desk) (chain : chain_ok 1 log [] ≡ true) (said : d ≡ desk_of log d.stored) where
  pub said_rows : rows_of (open_batches log) ≡ d.rows
  unfolding desk_of
  said_rows = ap (λ x. x.rows) (sym said)

  pub said_logged : d.logged ≡ length log
  unfolding desk_of
  said_logged = ap (λ x. x.logged) said

  -- A row is that of the batch at its place; the empty one where there is none.
  pub said_row : (i : ℕ) → row_at d.rows i ≡ row_of (batch_at (open_batches log) i)
  said_row i = subst (λ (rs : List Row). row_at rs i ≡ row_of (batch_at (open_batches log) i)) said_rows (rows_at (open_batches log) (open_few log chain) i)

  -- The first row not in use is the number of open batches.
  pub said_used : place_of 0 d.rows ≡ length (open_batches log)
  said_used = subst (λ (rs : List Row). place_of 0 rs ≡ length (open_batches log)) said_rows (rows_used (open_batches log) (open_few log chain) (open_from_one log))

  -- With i the place of batch b's row: a batch without a row is not open (nor is batch 0: `zero_not_open`).
  pub said_none : (b i : ℕ) → i ≡ place_of b d.rows → 8 ≤ i → find_batch b (open_batches log) ≡ none
  said_none =
      subst (λ (rs : List Row). (b i : ℕ) → i ≡ place_of b rs → 8 ≤ i → find_batch b (open_batches log) ≡ none) said_rows
      (λ b i e h. rows_none (open_batches log) (open_few log chain) b (subst (λ (j : ℕ). 8 ≤ j) e h))

  -- A batch with a row is the one at that place.
  pub said_found : (b i : ℕ) → b ≢ 0 → i ≡ place_of b d.rows → i < 8 → find_batch b (open_batches log) ≡ some (batch_at (open_batches log) i)
  said_found =
      subst (λ (rs : List Row). (b i : ℕ) → b ≢ 0 → i ≡ place_of b rs → i < 8 → find_batch b (open_batches log) ≡ some (batch_at (open_batches log) i)) said_rows
      (λ b i n e h.
      rows_found (open_batches log) (open_few log chain) b n (subst (λ (j : ℕ). j < 8) e h) ∙ ap (λ (j : ℕ). some (batch_at (open_batches log) j)) (sym e))

  -- The other way: an open batch has a row, which is its own.
  pub said_open : (b : ℕ) (x : Batch) → find_batch b (open_batches log) ≡ some x → (b ≢ 0) × (place_of b d.rows < 8) × (row_at d.rows (place_of b d.rows) ≡ row_of x)
  said_open =
      subst (λ (rs : List Row). (b : ℕ) (x : Batch) → find_batch b (open_batches log) ≡ some x → (b ≢ 0) × (place_of b rs < 8) × (row_at rs (place_of b rs) ≡ row_of x)) said_rows
      (rows_open (open_batches log) (open_few log chain) (open_from_one log))
