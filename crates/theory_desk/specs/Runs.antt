-- The desk after the run of each call that changes batches, where the run did not stop.
use Rattle.std.specs.Prelude.{ℕ, suc, ◌+◌, ◌<◌, ◌≡◌, ◌≢◌, true, [], length, set}
use Rattle.std.proofs.Common.{ap, ◌∙◌}
use Rattle.def_layout.specs.declared.Desk.{Desk}
use Rattle.def_layout.specs.Desks.{row_at}
use Rattle.def_layout.specs.Records.{begin, insert, delete, commit, batch_row}
use Rattle.def_model.specs.Update.{Run, emit, put_record, remove_record}
use Rattle.def_model.specs.Batches.{Batch, drop_batch, open_batches, chain_ok, desk_of}
use Rattle.def_model.specs.Undo.{abort_run}
use Rattle.theory_update.specs.Run.Wrote.{put_wrote, remove_wrote}
use Rattle.law_bytes.specs.DeskRows.{place_of, new_row, without}
use Rattle.theory_desk.specs.After.{desk_begun, desk_inserted, desk_deleted, desk_dropped, desk_committed}
use Rattle.theory_desk.specs.Aborted.{emit_log, open_aborted}

module _ (s : Run) (d : Desk) (chain : chain_ok 1 s.log [] ≡ true) (said : d ≡ desk_of s.log d.stored) where
  pub begin_desk : (n previous stored : ℕ) → place_of 0 d.rows < 8 → n ≡ suc (length s.log) → (emit (batch_row begin n previous) s).stop ≡ 0
      → desk_of (emit (batch_row begin n previous) s).log stored ≡ record { rows = set d.rows (place_of 0 d.rows) (new_row n); logged = n; stored = stored }
  begin_desk n previous stored h en z =
      desk_begun s.log d chain said (emit (batch_row begin n previous) s).log n previous stored h en (emit_log (batch_row begin n previous) s z)

  -- With i the place of batch b's row.
  pub insert_desk : (b previous k v i p n stored : ℕ) → b ≢ 0 → i ≡ place_of b d.rows → i < 8 → p ≡ (row_at d.rows i).pending + 1
      → (put_record insert b previous k v s).stop ≡ 0 → n ≡ length (put_record insert b previous k v s).log
      → desk_of (put_record insert b previous k v s).log stored ≡ record { rows = set d.rows i (record { batch = b; last = n; undo = n; pending = p }); logged = n; stored = stored }
  insert_desk b previous k v i p n stored nz e h ep z en =
      let w = put_wrote insert b previous k v s z in
      desk_inserted s.log d chain said (put_record insert b previous k v s).log w.body b previous w.page k v i p n stored nz e h ep w.structural w.written en

  pub delete_desk : (b previous k v i p n stored : ℕ) → b ≢ 0 → i ≡ place_of b d.rows → i < 8 → p ≡ (row_at d.rows i).pending + 1
      → (remove_record delete b previous k v s).stop ≡ 0 → n ≡ length (remove_record delete b previous k v s).log
      → desk_of (remove_record delete b previous k v s).log stored ≡ record { rows = set d.rows i (record { batch = b; last = n; undo = n; pending = p }); logged = n; stored = stored }
  delete_desk b previous k v i p n stored nz e h ep z en =
      let w = remove_wrote delete b previous k v s z in
      desk_deleted s.log d chain said (remove_record delete b previous k v s).log w.body b previous w.page k v i p n stored nz e h ep w.structural w.written en

  pub commit_desk : (b previous i n stored : ℕ) → b ≢ 0 → i ≡ place_of b d.rows → i < 8 → (emit (batch_row commit b previous) s).stop ≡ 0 → n ≡ length (emit (batch_row commit b previous) s).log
      → desk_of (emit (batch_row commit b previous) s).log stored ≡ record { rows = without d.rows i; logged = n; stored = stored }
  commit_desk b previous i n stored nz e h z en =
      desk_committed s.log d chain said (emit (batch_row commit b previous) s).log b previous i n stored nz e h (emit_log (batch_row commit b previous) s z) en

  -- y is the batch, found by its number b.
  pub abort_desk : (y : Batch) (b i n stored : ℕ) → y.number ≡ b → b ≢ 0 → i ≡ place_of b d.rows → i < 8 → (abort_run y s).stop ≡ 0 → n ≡ length (abort_run y s).log
      → desk_of (abort_run y s).log stored ≡ record { rows = without d.rows i; logged = n; stored = stored }
  abort_desk y b i n stored ey nz e h z en =
      desk_dropped s.log d chain said (abort_run y s).log b i n stored nz e h (open_aborted y s z ∙ ap (λ (m : ℕ). drop_batch m (open_batches s.log)) ey) en
