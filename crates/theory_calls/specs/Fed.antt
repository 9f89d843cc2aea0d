-- WHAT THE BOOK IS FED (02, U2): the desk that a log says gives a batch's last record.
use Rattle.std.specs.Prelude.{ℕ, ◌≤◌, ◌≡◌, true, List, [], ◌∷◌, ◌++◌, map, length, eqb}
use Rattle.std.proofs.Common.{sym, ap, ◌∙◌, subst}
use Rattle.std.proofs.Math.Option.{some}
use Rattle.std.proofs.lemmas.List.{length-map}
use Rattle.def_base.specs.Tests.{pick, Case, yes!, no!, case, none_some, some_inj}
use Rattle.def_layout.specs.declared.Row.{Row}
use Rattle.def_layout.specs.Records.{Rec}
use Rattle.def_model.specs.Batches.{Batch, find_batch, open_batches, chain_ok, row_of, desk_of}
use Rattle.def_recovery.specs.Events.{last_in}
use Rattle.theory_desk.specs.Places.{eight_rows_are}
use Rattle.theory_history.specs.Notes.{few_open}

last_first : (n : ℕ) (bs : List Batch) (b : Batch) (more : List Row) → find_batch n bs ≡ some b → last_in n (map row_of bs ++ more) ≡ b.last
unfolding find_batch last_in row_of
last_first n [] b more e = none_some e
last_first n (a ∷ bs) b more e = go (case (eqb n a.number)) (last_first n bs b more)
  where
    go : Case (eqb n a.number) → (find_batch n bs ≡ some b → last_in n (map row_of bs ++ more) ≡ b.last) → pick (eqb n a.number) a.last (last_in n (map row_of bs ++ more)) ≡ b.last
    go (yes! t) i = rw t (ap (λ x. x.last) (some_inj (rw t at e)))
    go (no! t) i = rw t (i (rw t at e))

pub last_given : (n : ℕ) (log : List Rec) (stored : ℕ) (b : Batch) → chain_ok 1 log [] ≡ true → find_batch n (open_batches log) ≡ some b → last_in n (desk_of log stored).rows ≡ b.last
unfolding desk_of
last_given n log stored b c e =
    let few : length (map row_of (open_batches log)) ≤ 8 = subst (λ k. k ≤ 8) (sym (length-map (open_batches log) row_of)) (few_open log c) in
    ap (last_in n) (eight_rows_are (map row_of (open_batches log)) few) ∙ last_first n (open_batches log) b _ e
