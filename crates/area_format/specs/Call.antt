-- A formatting or a loading as the definitions' call: what it answers, and the four areas that it leaves by a budget.
use Rattle.std.specs.Prelude.{◌≡◌, ℕ, ◌/◌, Bool, true, List, [], map, length, replicate, take}
use Rattle.std.proofs.Math.Path.{ap, ap₂}
use Rattle.std.proofs.Common.{sym, ◌∙◌}
use Rattle.std.proofs.Math.Option.{none}
use Rattle.def_layout.specs.declared.Entry.{Entry}
use Rattle.def_layout.specs.declared.Desk.{Desk}
use Rattle.def_layout.specs.Desks.{empty_desk}
use Rattle.def_layout.specs.PageBytes.{page}
use Rattle.def_layout.specs.Sizes.{page_size, slot_size}
use Rattle.def_layout.specs.RecordBytes.{empty}
use Rattle.def_model.specs.declared.Answer.TheVariants.{Done}
use Rattle.def_model.specs.Answers.{Outcome, first_broken}
use Rattle.def_model.specs.Links.{relinked}
use Rattle.def_model.specs.Loading.{columns, loaded_pages}
use Rattle.def_model.specs.Calls.{format_stores, start_side, format_areas, load_checks, load_areas}
use Rattle.def_model.specs.OnBytes.{Call, Lent, Result, checks, start_checks, does, start_does, outcome_by, lengths_ok, read_areas, work_bytes, log_bytes, outcome, call_by, call, store_all_bytes, lent_after}
use Rattle.def_model.specs.CallNames.{format, load}
use Rattle.law_areas.specs.Working.{read_work_length}
use Rattle.law_areas.specs.Logs.{read_log_length}
use Rattle.law_areas.specs.Outcomes.{unbroken_does}
use Rattle.theory_load.specs.LoadedOrigin.{formatted_loaded}
use Rattle.area_lengths.specs.Lent.{lent, Sized, lengths_numbers}
use Rattle.area_format.specs.Started.{Started}

abbrev pub started_result : List Entry → ℕ → ℕ → Result
started_result es n m =
    record {
      answer = Done;
      work_pages = work_bytes (map page (loaded_pages n es)) (relinked (loaded_pages n es) []);
      work_log = log_bytes (replicate m empty);
      desk = empty_desk;
      stores = format_stores (loaded_pages n es) m;
    }

module _ (l : Lent) (d : Desk) (e : lengths_ok l ≡ true) where
  n : ℕ
  n = length l.work_pages / page_size

  m : ℕ
  m = length l.work_log / slot_size

  sizes : Sized l.work_pages l.stable_pages l.work_log l.stable_log
  sizes = lengths_numbers l.work_pages l.stable_pages l.work_log l.stable_log e

  pages_read : length (read_areas l).work.pages ≡ n
  unfolding read_areas n
  pages_read = read_work_length (length l.work_pages / page_size) l.work_pages sizes.0

  slots_read : length (read_areas l).work.log ≡ m
  unfolding read_areas m
  slots_read = read_log_length (length l.work_log / slot_size) l.work_log sizes.4

  -- ANSWERED where no refusal is found: for a formatting refusal 1.
  pub format_result : call format l d ≡ started_result [] (length l.work_pages / page_size) (length l.work_log / slot_size)
  unfolding call call_by outcome outcome_by checks start_checks first_broken does start_does format_areas start_side n m
  format_result =
      ap (λ (b : Bool). call_by b format l d) e
      ∙ ap (λ xs. record { answer = Done; work_pages = work_bytes (map page xs) (relinked xs []); work_log = log_bytes (replicate (length (read_areas l).work.log) empty); desk = empty_desk; stores = format_stores xs (length (read_areas l).work.log) }) (formatted_loaded (length (read_areas l).work.pages))
      ∙ ap₂ (started_result []) pages_read slots_read

  pub load_result : (ks vs : List ℕ) → first_broken (load_checks ks vs (read_areas l)) ≡ none
      → call (load ks vs) l d ≡ started_result (columns ks vs) (length l.work_pages / page_size) (length l.work_log / slot_size)
  unfolding call call_by checks start_checks does start_does load_areas start_side n m
  load_result ks vs passes =
      ap (λ (b : Bool). call_by b (load ks vs) l d) e
      ∙ ap (λ (x : Outcome). record { answer = x.answer; work_pages = work_bytes x.work.pages x.work.lefts; work_log = log_bytes x.work.log; desk = x.desk; stores = x.stores }) (unbroken_does (load ks vs) (read_areas l) d passes)
      ∙ ap₂ (started_result (columns ks vs)) pages_read slots_read

-- STARTED, and the working pages' left links then worked out.
pub record Linked (es : List Entry) (budget : ℕ) (l after : Lent) : Type 0 where
  pub unlinked : List ℕ
  pub started : Started es budget l (lent unlinked after.stable_pages after.work_log after.stable_log)
  pub work_pages : after.work_pages ≡ work_bytes (map page (loaded_pages (length l.work_pages / page_size) es)) (relinked (loaded_pages (length l.work_pages / page_size) es) [])

-- LEFT: what the program leaves is what the call leaves by that budget.
pub started_left : (c : Call) (es : List Entry) (budget : ℕ) (l after : Lent) (d : Desk) → call c l d ≡ started_result es (length l.work_pages / page_size) (length l.work_log / slot_size)
    → Linked es budget l after → after ≡ lent_after budget (call c l d) l
unfolding lent_after
started_left c es budget l after d e f =
    let r : Result = started_result es (length l.work_pages / page_size) (length l.work_log / slot_size) in
    let s : Lent = store_all_bytes (take budget r.stores) l in
    let g = f.started in
    ap₂ (λ (p b : List ℕ). lent p b after.work_log after.stable_log) f.work_pages g.stable_pages
    ∙ ap₂ (λ (g b : List ℕ). lent r.work_pages s.stable_pages g b) g.work_log g.stable_log
    ∙ ap (λ (q : Result). lent_after budget q l) (sym e)
