-- A session: calls on a new register, cuts, forged pages and slots, what is answered, and what can be seen in the areas afterwards.
use Rattle.std.specs.Prelude.{ℕ, ◌+◌, ◌-◌, ◌*◌, ◌/◌, Bool, true, false, ◌&&◌, List, [], ◌∷◌, ◌++◌, map, length, take, drop, get_or, set, eqb}
use Rattle.def_base.specs.Tests.{every}
use Rattle.def_layout.specs.declared.Entry.{Entry}
use Rattle.def_layout.specs.declared.Desk.{Desk}
use Rattle.def_layout.specs.declared.Row.{Row}
use Rattle.def_layout.specs.Desks.{no_row, empty_desk, same_row}
use Rattle.def_layout.specs.Numbers.{be32, put32, same_bytes}
use Rattle.def_layout.specs.Entries.{same_entries}
use Rattle.def_layout.specs.Pages.{at, zero_page, page_kind_number}
use Rattle.def_layout.specs.PageBytes.{Block, page, page_bytes, block_bytes, read_block, left_in, without_left, with_left}
use Rattle.def_layout.specs.Records.{kind_number}
use Rattle.def_layout.specs.RecordBytes.{Slot, empty, slot_bytes}
use Rattle.def_model.specs.Links.{left_at}
use Rattle.def_model.specs.Areas.{Side, Areas, pages_of, zero_side, store_some}
use Rattle.def_model.specs.Log.{slot_of}
use Rattle.def_model.specs.Answers.{Outcome, Numbers, answer_numbers}
use Rattle.def_model.specs.Sound.{work_pages, work_log}
use Rattle.def_model.specs.TreeRules.{leaf_records}
use Rattle.def_model.specs.OnBytes.{Call, outcome}
use Rattle.def_model.specs.CallNames.{format}

-- A call that ends; one that is cut after so many of its stores, and leaves nothing of use in the working areas and the desk; or a stable page,
-- or the slot of a log number, or a working page or slot, or the desk, or the last 12 bits of a working page's first word, in whose place something else is put.
pub data Step : Type 0 where
  ask : Call → Step
  cut : ℕ → Call → Step
  forge_page : ℕ → Block → Step
  forge_slot : ℕ → Slot → Step
  forge_work_page : ℕ → Block → Step
  forge_work_slot : ℕ → Slot → Step
  forge_desk : Desk → Step
  forge_low_bits : ℕ → ℕ → Step

-- The four areas, the desk, and the answers so far, each as 0 or the refusal and two values.
pub record Machine : Type 0 where
  pub areas : Areas
  pub desk : Desk
  pub answers : List (List ℕ)

unfoldable pub numbers : Numbers → List ℕ
numbers n = n.reason ∷ n.first ∷ n.second ∷ []

unfoldable pub ended : Outcome → Machine → Machine
ended o m =
    record {
      areas = record { work = o.work; stable = store_some (length o.stores) o.stores m.areas.stable };
      desk = o.desk;
      answers = m.answers ++ numbers (answer_numbers o.answer) ∷ [];
    }

unfoldable pub cut_off : ℕ → Outcome → Machine → Machine
cut_off j o m =
    let s = m.areas.work in
    record {
      areas = record { work = zero_side (length s.pages) (length s.log); stable = store_some j o.stores m.areas.stable };
      desk = empty_desk;
      answers = m.answers;
    }

unfoldable pub forged : Side → Machine → Machine
forged s m = record { areas = record { work = m.areas.work; stable = s }; desk = m.desk; answers = m.answers }

unfoldable pub with_work : Side → Machine → Machine
with_work s m = record { areas = record { work = s; stable = m.areas.stable }; desk = m.desk; answers = m.answers }

-- The bytes of working page p, with other last 12 bits in the first word, and read again: the ten of a left link, and two spare ones.
unfoldable pub low_bits : ℕ → ℕ → Side → Side
low_bits p w s =
    let b = with_left (left_at s.lefts p) (block_bytes (get_or s.pages p (page zero_page))) in
    let c = put32 (be32 b 0 / 4096 * 4096 + w) ++ drop 4 b in
    record { pages = set s.pages p (read_block (without_left c)); lefts = set s.lefts p (left_in c); log = s.log }

unfoldable pub play_step : Step → Machine → Machine
play_step (ask c) m = ended (outcome c m.areas m.desk) m
play_step (cut j c) m = cut_off j (outcome c m.areas m.desk) m
play_step (forge_page p x) m = let s = m.areas.stable in forged (record { pages = set s.pages p x; lefts = s.lefts; log = s.log }) m
play_step (forge_slot n x) m = let s = m.areas.stable in forged (record { pages = s.pages; lefts = s.lefts; log = set s.log (slot_of n) x }) m
play_step (forge_work_page p x) m = let s = m.areas.work in with_work (record { pages = set s.pages p x; lefts = s.lefts; log = s.log }) m
play_step (forge_work_slot n x) m = let s = m.areas.work in with_work (record { pages = s.pages; lefts = s.lefts; log = set s.log (slot_of n) x }) m
play_step (forge_desk d) m = record { areas = m.areas; desk = d; answers = m.answers }
play_step (forge_low_bits p w) m = with_work (low_bits p w m.areas.work) m

unfoldable pub play : List Step → Machine → Machine
play [] m = m
play (s ∷ ss) m = play ss (play_step s m)

-- A new register of so many pages and slots: lent as zeros, and formatted.
unfoldable pub new : ℕ → ℕ → Machine
new pages slots =
    let z = zero_side pages slots in
    let a : Areas = record { work = z; stable = record { pages = z.pages; lefts = []; log = z.log } } in
    let m = ended (outcome format a empty_desk) (record { areas = a; desk = empty_desk; answers = [] }) in
    record { areas = m.areas; desk = m.desk; answers = [] }

-- ---- what can be seen

pub data See : Type 0 where
  page_keys : ℕ → List ℕ → See
  page_entries : ℕ → List Entry → See
  page_right page_left : ℕ → ℕ → See
  page_kind_is : ℕ → ℕ → See
  page_count : ℕ → ℕ → See
  page_bytes_from stored_bytes_from : ℕ → ℕ → List ℕ → See
  kinds_from : ℕ → List ℕ → See
  previous_from batches_from : ℕ → List ℕ → See
  slot_bytes_from : ℕ → ℕ → List ℕ → See
  desk_row : ℕ → Row → See
  slides : List Entry → See

unfoldable pub seen : Machine → See → Bool
seen m (page_keys p ks) = same_bytes (map (λ e. e.key) (at (work_pages m.areas) p).entries) ks
seen m (page_entries p es) = same_entries (at (work_pages m.areas) p).entries es
seen m (page_right p r) = eqb (at (work_pages m.areas) p).right r
seen m (page_left p l) = eqb (left_at m.areas.work.lefts p) l
seen m (page_kind_is p k) = eqb (page_kind_number (at (work_pages m.areas) p).kind) k
seen m (page_count p n) = eqb (length (at (work_pages m.areas) p).entries) n
seen m (page_bytes_from p i bs) = same_bytes (take (length bs) (drop i (with_left (left_at m.areas.work.lefts p) (page_bytes (at (work_pages m.areas) p))))) bs
seen m (stored_bytes_from p i bs) = same_bytes (take (length bs) (drop i (page_bytes (at (pages_of m.areas.stable.pages) p)))) bs
seen m (kinds_from n ks) = same_bytes (map (λ r. kind_number r.kind) (drop (n - 1) (work_log m.areas))) ks
seen m (previous_from n ps) = same_bytes (map (λ r. r.previous) (drop (n - 1) (work_log m.areas))) ps
seen m (batches_from n bs) = same_bytes (map (λ r. r.batch) (drop (n - 1) (work_log m.areas))) bs
seen m (slot_bytes_from n i bs) = same_bytes (take (length bs) (drop i (slot_bytes (get_or m.areas.work.log (slot_of n) empty)))) bs
seen m (desk_row i r) = same_row (get_or m.desk.rows i no_row) r
seen m (slides es) = same_entries (leaf_records (work_pages m.areas)) es

-- ---- a row of the table

pub record Session : Type 0 where
  pub pages : ℕ
  pub slots : ℕ
  pub steps : List Step
  pub answers : List (List ℕ)
  pub sees : List See

unfoldable pub same_answers : List (List ℕ) → List (List ℕ) → Bool
same_answers [] [] = true
same_answers [] (y ∷ ys) = false
same_answers (x ∷ xs) [] = false
same_answers (x ∷ xs) (y ∷ ys) = same_bytes x y && same_answers xs ys

-- The answers are those of the row, and all that it names is seen afterwards.
unfoldable pub shows : Session → Machine → Bool
shows s m = same_answers m.answers s.answers && every (seen m) s.sees

unfoldable pub comes_true : Session → Bool
comes_true s = shows s (play s.steps (new s.pages s.slots))
