-- What the desk counts, and the reserves by it.
use Rattle.std.specs.Prelude.{ℕ, ◌≡◌, refl, Bool, true, false, List, Option, Some, None, MatchOption}
use Rattle.std.proofs.Common.{sym, ◌∙◌}
use Rattle.def_layout.specs.declared.Desk.{Desk}
use Rattle.def_layout.specs.Pages.{Page}
use Rattle.def_model.specs.TreeRules.{free_pages}
use Rattle.law_bytes.specs.DeskRows.{place_of}
use Rattle.log_judge.specs.Accepted.{total}
use Rattle.sound_parts.specs.Reserves.{reserves_by}
use Rattle.sound_register.specs.declared.Standing.{Standing}

-- Whether they hold.
abbrev pub desk_reserves : ℕ → List Page → Desk → Bool
desk_reserves m pages d = reserves_by m (free_pages pages) d.logged (total d.rows) (place_of 0 d.rows)

-- The numbers that they were judged by.
pub record Counts (pages : List Page) (d : Desk) (marks : List Bool) (r : Standing) : Type 0 where
  pub marked : r.marked ≡ marks
  pub pending : r.pending ≡ total d.rows
  pub free : r.free ≡ free_pages pages

-- None just where they do not hold; else those numbers.
abbrev pub Reserved : ℕ → List Page → Desk → List Bool → Option Standing → Type 0
Reserved m pages d marks r = MatchOption r (desk_reserves m pages d ≡ false) (λ s. (desk_reserves m pages d ≡ true) × Counts pages d marks s)

module _ (m : ℕ) (pages : List Page) (d : Desk) (marked : List Bool) (t : Bool) (used free pending batches : ℕ)
    (et : t ≡ reserves_by m free used pending batches) (eu : used ≡ d.logged) (ef : free ≡ free_pages pages) (ep : pending ≡ total d.rows) (eb : batches ≡ place_of 0 d.rows) where
  by_desk : t ≡ desk_reserves m pages d
  by_desk = et ∙ rw (eu, ef, ep, eb)

  pub reserves_broken : t ≡ false → Reserved m pages d marked None
  reserves_broken e = sym by_desk ∙ e

  pub reserves_kept : t ≡ true → Reserved m pages d marked (Some (record { marked = marked; pending = pending; free = free }))
  reserves_kept e = (sym by_desk ∙ e, record { marked = refl; pending = ep; free = ef })
