-- WHERE A REGISTER STANDS: whether it is sound, and what a call knows of one that is.
use Rattle.std.specs.Prelude.{ℕ, ◌≤◌, ◌≡◌, Bool, true, false, ◌&&◌, List, map, length, take, Option, None, MatchOption}
use Rattle.std.proofs.Common.{arith}
use Rattle.def_layout.specs.declared.Desk.{Desk}
use Rattle.def_layout.specs.Desks.{eight_rows}
use Rattle.def_layout.specs.Pages.{Page}
use Rattle.def_layout.specs.Records.{Rec}
use Rattle.def_model.specs.Areas as areas
use Rattle.def_model.specs.Log.{records_of}
use Rattle.def_model.specs.Batches.{open_batches, row_of, desk_of, pending_count}
use Rattle.def_model.specs.TreeRules.{tree_ok, free_pages}
use Rattle.def_model.specs.Links.{lefts_ok}
use Rattle.def_model.specs.Sound.{sound}
use Rattle.def_model.specs.Calls.{run_of}
use Rattle.def_model.specs.OnBytes.{read_work, read_lefts, read_log, read_areas}
use Rattle.law_bytes.specs.DeskRows.{place_of}
use Rattle.log_pending.specs.Reading.{Reads, reads_few}
use Rattle.log_pending.specs.Holding.{Holds}
use Rattle.law_bytes.specs.Eights.{eight}
use Rattle.log_chain.specs.Shown.{marks_of}
use Rattle.log_chain.specs.Families.{rows_used}
use Rattle.law_areas.specs.Logs.{HoldsLog, AllFit}
use Rattle.area_lengths.specs.Lent.{lent}
use Rattle.record_pages.specs.Pages.{Pages}
use Rattle.tree_write.specs.Shows.{Shows}
use Rattle.sound_pending.specs.Rows as rows
use Rattle.sound_register.specs.declared.Standing.{Standing}

-- The pages and the log that areas show, as the definitions read them.
abbrev pub pages_in : List ℕ → List Page
pages_in wp = areas.pages_of (read_work wp)

abbrev pub log_in : List ℕ → List Rec
log_in wl = records_of (read_log wl)

-- The tree's rules, and that left and right links agree.
abbrev pub linked_ok : List Page → List ℕ → Bool
linked_ok xs ls = tree_ok xs && lefts_ok xs ls

-- KNOWN of a sound register of n pages and m slots that shows these pages and this log.
pub record Known (n m : ℕ) (wp wl sl : List ℕ) (d : Desk) (r : Standing) (xs : List Page) (l : List Rec) : Type 0 where
  -- The areas.
  pub pages : Pages n wp xs (read_lefts wp)
  pub log : HoldsLog wl l
  pub stable : HoldsLog sl (take d.stored l)
  pub fits : AllFit 1 l
  pub shows : (sp : List ℕ) → Shows n m wp wl (record { logged = d.logged; stop = None }) (run_of (read_areas (lent wp sp wl sl)))
  -- The log's lines and batches.
  pub reads : Reads m wl l
  pub holds : Holds l (open_batches l)
  -- The desk.
  pub desk : d ≡ desk_of l d.stored
  pub rows : d.rows ≡ eight_rows (map row_of (open_batches l))
  pub logged : d.logged ≡ length l
  pub stored : d.stored ≤ length l
  -- What is beside it.
  pub marked : r.marked ≡ eight false (marks_of (open_batches l))
  pub pending : r.pending ≡ pending_count (open_batches l)
  pub free : r.free ≡ free_pages xs

-- Whether areas of this working pages, logs and desk are sound, whatever their stable pages.
abbrev pub SoundIs : List ℕ → List ℕ → List ℕ → Desk → Bool → Type 0
SoundIs wp wl sl d t = (sp : List ℕ) → sound (read_areas (lent wp sp wl sl)) d ≡ t

-- None just where the register is not sound; else what is known of it.
abbrev pub Stands : ℕ → ℕ → List ℕ → List ℕ → List ℕ → Desk → Option Standing → Type 0
Stands n m wp wl sl d r = MatchOption r (SoundIs wp wl sl d false) (λ s. SoundIs wp wl sl d true × Known n m wp wl sl d s (pages_in wp) (log_in wl))

-- ---- what calls ask of it

module _ {n m : ℕ} {wp wl sl : List ℕ} {d : Desk} {r : Standing} {xs : List Page} {l : List Rec} (k : Known n m wp wl sl d r xs l) where
  -- Whether a key is held.
  pub known_rows : rows.Known m wl d.rows l (open_batches l)
  known_rows = record { reads = k.reads; holds = k.holds; rows = k.rows }

  -- The numbers that reserves are judged by, and their bounds.
  pub known_used : place_of 0 d.rows ≡ length (open_batches l)
  known_used = rows_used d.rows l (open_batches l) k.holds k.rows

  pub known_low : m ≤ 16384 → (d.logged ≤ 16384) × (r.pending ≤ 16384) × (place_of 0 d.rows ≤ 8)
  known_low few =
      let few_records : length l ≤ m = reads_few m wl l k.reads in (
        omega (arith, k.logged),
        omega (arith, k.pending, k.holds.count),
        omega (arith, known_used, k.holds.few),
      )
