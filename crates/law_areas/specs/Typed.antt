-- Typed areas that were written are read back: pages, records, and how many there are.
use Rattle.std.specs.Prelude.{ℕ, zero, suc, ◌-◌, ◌≤◌, ◌≡◌, refl, List, [], ◌∷◌, ◌++◌, map, length, replicate}
use Rattle.std.proofs.Common.{ap, arith, length-append}
use Rattle.std.proofs.lemmas.List.{length-replicate}
use Rattle.def_layout.specs.Pages.{Page, zero_page}
use Rattle.def_layout.specs.PageBytes.{page}
use Rattle.def_layout.specs.Records.{Rec}
use Rattle.def_layout.specs.RecordBytes.{empty}
use Rattle.def_model.specs.Log.{records_of, slots_from, log_area}
use Rattle.def_model.specs.Areas.{pages_of, page_in}
use Rattle.def_model.specs.Calls.{formatted_pages}

pub pages_back : (xs : List Page) → pages_of (map page xs) ≡ xs
unfolding page_in
pages_back [] = refl
pages_back (x ∷ xs) = ap (x ∷◌) (pages_back xs)

pub records_back : (m k : ℕ) (log : List Rec) → records_of (slots_from m log ++ replicate k empty) ≡ log
unfolding records_of slots_from
records_back m zero [] = refl
records_back m (suc k) [] = refl
records_back m k (r ∷ log) = ap (r ∷◌) (records_back (suc m) k log)

pub log_back : (m : ℕ) (log : List Rec) → records_of (log_area m log) ≡ log
unfolding log_area
log_back m log = records_back 1 (m - length log) log

pub slots_length : (m : ℕ) (log : List Rec) → length (slots_from m log) ≡ length log
unfolding slots_from
slots_length m [] = refl
slots_length m (r ∷ log) = ap suc (slots_length (suc m) log)

pub log_area_length : (m : ℕ) (log : List Rec) → length log ≤ m → length (log_area m log) ≡ m
unfolding log_area
log_area_length m log h =
    let a = length-append (slots_from 1 log) (replicate (m - length log) empty) in
    let b = slots_length 1 log in
    let c = length-replicate (m - length log) empty in
    omega arith

pub formatted_length : (n : ℕ) → 2 ≤ n → length (formatted_pages n) ≡ n
unfolding formatted_pages
formatted_length n h = let e = length-replicate (n - 2) zero_page in omega arith
