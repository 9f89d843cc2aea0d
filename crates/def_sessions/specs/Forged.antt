-- FORGED IMAGES: before a restart the stored page 1 is replaced by a leaf of other entries.
use Rattle.std.specs.Prelude.{ℕ, List, [], ◌∷◌, ◌++◌}
use Rattle.def_layout.specs.declared.Entry.{Entry}
use Rattle.def_layout.specs.Entries.{entry}
use Rattle.def_layout.specs.Pages.{at}
use Rattle.def_model.specs.Change.{with_lsn, with_entries}
use Rattle.def_model.specs.Areas.{store_page, store}
use Rattle.def_model.specs.Restart.{stable_pages}
use Rattle.def_model.specs.CallNames.{begin, restart, commit}
use Rattle.def_sessions.specs.Play.{Machine, Step, ask, new, play, play_step}
use Rattle.def_sessions.specs.Table.{inserts, deletes, power_cut}

-- The stored page p with another log number and other entries.
unfoldable pub forged : ℕ → ℕ → List Entry → Machine → Machine
forged p n es m =
    let x = with_lsn n (with_entries es (at (stable_pages m.areas) p)) in
    record { areas = record { work = m.areas.work; stable = store (store_page p x) m.areas.stable }; desk = m.desk; answers = m.answers }

-- The answers of the steps on a new register, and of a restart on page 1 forged.
unfoldable pub forged_answers : List Step → ℕ → List Entry → List (List ℕ)
forged_answers steps n es = (play_step (ask restart) (forged 1 n es (play (steps ++ power_cut ∷ []) (new 64 256)))).answers

-- Entries that do not rise: the search for 10 ends at 30.
abbrev pub unsorted : List Entry
unsorted = entry 30 30 ∷ entry 10 10 ∷ entry 20 20 ∷ []

-- Record 2 inserts 30, record 3 inserts 10; and then both are deleted.
abbrev pub two_added : List Step
two_added = ask begin ∷ inserts 1 (30 ∷ 10 ∷ []) ++ ask (commit 1) ∷ []

abbrev pub both_removed : List Step
both_removed = ask begin ∷ inserts 1 (30 ∷ 10 ∷ []) ++ deletes 1 (30 ∷ 10 ∷ []) ++ ask (commit 1) ∷ []
