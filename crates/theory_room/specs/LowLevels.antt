-- Levels stay below 16: a page has four bits for its level, and every change cuts it to size.
use Rattle.std.specs.Prelude.{ℕ, zero, suc, ◌<◌, Bool, true, false, List, [], ◌∷◌, set, ltb}
use Rattle.std.proofs.Common.{arith}
use Rattle.def_base.specs.Tests.{pick}
use Rattle.def_layout.specs.Pages.{Page, at}
use Rattle.def_layout.specs.Records.{Rec}
use Rattle.def_model.specs.Change.{cut_to_size, act}
use Rattle.def_model.specs.Redo.{places, redo_at, redo_page, redo_places, redo_record, replay}

abbrev pub Low : List Page → Type 0
Low pages = (p : ℕ) → (at pages p).level < 16

pub low_set : (pages : List Page) (p : ℕ) (y : Page) → Low pages → y.level < 16 → Low (set pages p y)
low_set [] p y h k q = h q
low_set (x ∷ pages) zero y h k zero = k
low_set (x ∷ pages) zero y h k (suc q) = h (suc q)
low_set (x ∷ pages) (suc p) y h k zero = h zero
low_set (x ∷ pages) (suc p) y h k (suc q) = low_set pages p y (λ r. h (suc r)) k q

low_act : (p n : ℕ) (r : Rec) (x : Page) → (act p n r x).level < 16
unfolding cut_to_size
low_act p n r x = omega arith

pub low_redo_at : (n : ℕ) (r : Rec) (p : ℕ) (x : Page) → x.level < 16 → (redo_at n r p x).level < 16
unfolding redo_at
low_redo_at n r p x h = by_test (ltb x.lsn n)
  where
    by_test : (b : Bool) → (pick b (act p n r x) x).level < 16
    by_test true = low_act p n r x
    by_test false = h

pub low_redo_page : (n : ℕ) (r : Rec) (p : ℕ) (pages : List Page) → Low pages → Low (redo_page n r p pages)
unfolding redo_page
low_redo_page n r p pages h = low_set pages p _ h (low_redo_at n r p (at pages p) (h p))

low_redo_places : (n : ℕ) (r : Rec) (ps : List ℕ) (pages : List Page) → Low pages → Low (redo_places n r ps pages)
unfolding redo_places
low_redo_places n r [] pages h = h
low_redo_places n r (p ∷ ps) pages h = low_redo_places n r ps (redo_page n r p pages) (low_redo_page n r p pages h)

pub low_redo_record : (n : ℕ) (r : Rec) (pages : List Page) → Low pages → Low (redo_record n r pages)
unfolding redo_record
low_redo_record n r pages h = low_redo_places n r (places r) pages h

-- Redo keeps them so.
pub low_replay : (n : ℕ) (l : List Rec) (pages : List Page) → Low pages → Low (replay n l pages)
unfolding replay
low_replay n [] pages h = h
low_replay n (r ∷ l) pages h = low_replay (suc n) l (redo_record n r pages) (low_redo_record n r pages h)
