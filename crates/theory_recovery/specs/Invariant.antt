-- THE INVARIANT that every call, cut and growth keeps.
use Rattle.std.specs.Prelude.{ℕ, ◌≤◌, ◌≡◌, Bool, true, List, [], ◌++◌, length}
use Rattle.def_layout.specs.Numbers.{zeros}
use Rattle.def_layout.specs.Pages.{Page, map_bits}
use Rattle.def_layout.specs.Records.{Rec}
use Rattle.def_model.specs.Links.{relinked}
use Rattle.def_model.specs.OnBytes.{Lent}
use Rattle.def_recovery.specs.Book.{Book}
use Rattle.def_recovery.specs.Events.{World}
use Rattle.theory_redo.specs.Current.{Behind}
use Rattle.theory_history.specs.Origin.{Origin}
use Rattle.theory_history.specs.Start.{slides_after, pages_after}
use Rattle.theory_history.specs.History.{History}
use Rattle.theory_ranges.specs.Histories.{RangedHistory}
use Rattle.law_areas.specs.Pages.{HoldsPages}
use Rattle.law_areas.specs.Working.{HoldsWork}
use Rattle.law_areas.specs.Logs.{HoldsLog}
use Rattle.theory_calls.specs.Stories.{story}
use Rattle.theory_calls.specs.Passing.{Fixed}

-- The stable areas hold a history, each page the changes of a first part of it. (n: the pages when it was last written; zeros may follow.)
pub record Sure (o : Origin) (n : ℕ) (l : Lent) (log : List Rec) : Type 0 where
  pub least : o.least ≤ n
  pub most : n ≤ map_bits
  pub pages : List Page
  pub count : length pages ≡ n
  pub stored : HoldsPages l.stable_pages pages
  pub logged : HoldsLog l.stable_log log
  pub history : History o n log
  pub ranged : RangedHistory o n log
  pub behind : Behind 1 o.base log pages

-- The working areas hold a longer history, which tells of the same slides from the stored part on.
pub record Live (o : Origin) (n : ℕ) (l : Lent) (stable log : List Rec) : Type 0 where
  pub pages : HoldsWork l.work_pages (pages_after o n log) (relinked (pages_after o n log) [])
  pub logged : HoldsLog l.work_log log
  pub history : History o n log
  pub ranged : RangedHistory o n log
  pub rest : List Rec
  pub longer : log ≡ stable ++ rest
  pub fixed : Fixed o stable rest

-- The working areas follow the stable ones, and the book tells what they say; or a refused restart zeroed them; or a cut left anything, and
-- no restart has passed since.
pub data Mode (o : Origin) (n : ℕ) (l : Lent) (stable : List Rec) (book : Book) (since_cut : Bool) : Type 0 where
  live : (log : List Rec) → Live o n l stable log → book ≡ story o log → Mode o n l stable book since_cut
  dead : (j k : ℕ) → l.work_pages ≡ zeros j → l.work_log ≡ zeros k → Mode o n l stable book since_cut
  lost : since_cut ≡ true → Mode o n l stable book since_cut

pub record Inv (w : World) : Type 0 where
  pub origin : Origin
  pub n : ℕ
  pub log : List Rec
  pub sure : Sure origin n w.lent log
  pub slides : w.book.slides ≡ slides_after origin log
  pub mode : Mode origin n w.lent log w.book w.since_cut
