-- WHAT A CALL OWES that passes its checks on working areas that hold a history.
use Rattle.std.specs.Prelude.{ℕ, ◌≤◌, ◌<◌, ◌≡◌, Bool, true, false, List, [], ◌∷◌, ◌++◌, length}
use Rattle.std.proofs.Common.{subst}
use Rattle.def_layout.specs.declared.Entry.{Entry}
use Rattle.def_layout.specs.declared.Desk.{Desk}
use Rattle.def_layout.specs.Pages.{at}
use Rattle.def_layout.specs.Records.{Rec}
use Rattle.def_model.specs.Fit.{found}
use Rattle.def_model.specs.Update.{Run}
use Rattle.def_model.specs.Answers.{Outcome}
use Rattle.def_model.specs.Areas.{Areas, Store, store_page, log_stores}
use Rattle.def_model.specs.Calls.{run_of, run_side}
use Rattle.def_model.specs.OnBytes.{Call, request, commit, outcome}
use Rattle.def_recovery.specs.Book.{Book, book_call, commits}
use Rattle.def_recovery.specs.Events.{fed}
use Rattle.def_recovery.specs.Demand3.{is_commit_of}
use Rattle.theory_update.specs.Run.Way.{written_by}
use Rattle.theory_history.specs.Origin.{Origin}
use Rattle.theory_history.specs.Start.{slides_after}
use Rattle.theory_history.specs.Core.{NextRecord}
use Rattle.theory_history.specs.Trail.{Trail}
use Rattle.theory_history.specs.History.{Standing}
use Rattle.theory_calls.specs.Stories.{story}

unfoldable pub is_commit : Call → Bool
is_commit c = found (commits c)

-- The book after a call that passed, fed as its desk then says.
abbrev pub book_of : Call → Outcome → Book → Book
book_of c o b = book_call c o.answer (fed c o.desk) b

-- The slides stay at every first part of what follows a log.
abbrev pub Fixed : Origin → List Rec → List Rec → Type 0
Fixed o log more = (a b : List Rec) → more ≡ a ++ b → slides_after o (log ++ a) ≡ slides_after o log

-- From a run to a later one: records that leave the slides, or one commit.
pub data Walk (sl : List Entry) (s : Run) : Run → Type 0 where
  calm : {t : Run} → Trail s sl t sl → Walk sl s t
  by_commit_record : {sl' : List Entry} {r : Rec} → NextRecord s sl r sl' → Walk sl s (written_by r s)

-- What is stored: nothing; every unstored record; or these and then one page.
pub data Stored (n : ℕ) (stable : List Rec) (t : Run) : List Store → Type 0 where
  nothing : Stored n stable t []
  the_log : Stored n stable t (log_stores (length stable) t.log)
  log_and_page : (p : ℕ) → p < n → Stored n stable t (log_stores (length stable) t.log ++ store_page p (at t.pages p) ∷ [])

-- What follows the log: records that leave the slides; or, of a commit, which stores all, its own record.
pub data Follows (o : Origin) (stable : List Rec) (c : Call) (log : List Rec) (t : Run) (stores : List Store) : Type 0 where
  quietly : (more : List Rec) → is_commit c ≡ false → t.log ≡ log ++ more → Fixed o log more → Follows o stable c log t stores
  by_commit : (b : ℕ) (r : Rec) → c ≡ request (commit b) → is_commit_of b r ≡ true → t.log ≡ log ++ r ∷ [] → stores ≡ log_stores (length stable) t.log → Follows o stable c log t stores

-- A call on working areas that hold `log` and stable ones that hold `stable`.
pub record Passes (o : Origin) (n m : ℕ) (stable log : List Rec) (c : Call) (a : Areas) (d : Desk) : Type 0 where
  pub run : Run
  pub walk : Walk (slides_after o log) (run_of a) run
  pub standing : Standing o n run (slides_after o run.log)
  pub work : (outcome c a d).work ≡ run_side m run
  pub within : length run.log ≤ m
  pub stored : Stored n stable run (outcome c a d).stores
  pub follows : Follows o stable c log run (outcome c a d).stores
  pub book : book_of c (outcome c a d) (story o log) ≡ story o run.log

-- ---- runs

pub standing_slides : (o : Origin) (n : ℕ) (s : Run) (sl : List Entry) → Standing o n s sl → Standing o n s (slides_after o s.log)
standing_slides o n s sl x = subst (Standing o n s) x.slides x
