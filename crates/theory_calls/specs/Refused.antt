-- Every request asks for sound areas, which zeroed ones are not.
use Rattle.std.specs.Prelude.{ℕ, zero, suc, ◌<◌, ◌≡◌, true, [], length, leb}
use Rattle.std.proofs.Common.{sym, subst, arith}
use Rattle.std.proofs.Math.Option.{none}
use Rattle.def_base.specs.Tests.{clash}
use Rattle.def_layout.specs.declared.Desk.{Desk}
use Rattle.def_layout.specs.Pages.{layout, layout_by}
use Rattle.def_model.specs.declared.Refusal.TheVariants.{PageNumber}
use Rattle.def_model.specs.Areas.{Areas, blocks_ok, block_ok, zero_side}
use Rattle.def_model.specs.Answers.{check, first_broken, passed}
use Rattle.def_model.specs.Sound.{sound, layouts_ok}
use Rattle.def_model.specs.Calls.{begin_checks, fetch_checks, next_checks, previous_checks, zero_key, insert_checks, delete_checks, commit_checks, abort_checks, write_out_checks, mark_checks, return_checks}
use Rattle.def_model.specs.OnBytes.{request, Request, ask, begin, fetch, next, previous, insert, delete, commit, abort, write_out, take_mark, return_to, checks, question_checks, request_checks, outcome}
use Rattle.theory_refusals.specs.Order.{passed_does}
use Rattle.theory_calls.specs.Checks.{none_broken, kept_check, sound_parts}

-- No check is broken: in particular not 11's.
pub asks_sound : (q : Request) (a : Areas) (d : Desk) → passed (outcome (request q) a d).answer ≡ true → sound a d ≡ true
unfolding checks request_checks question_checks begin_checks fetch_checks next_checks previous_checks insert_checks delete_checks commit_checks abort_checks mark_checks return_checks write_out_checks
asks_sound q a d p = go q (passed_does (request q) a d p).0
  where
    go : (q : Request) → first_broken (checks (request q) a d) ≡ none → sound a d ≡ true
    go begin e = (kept_check (sound a d) _ _ e).0
    go (ask (fetch b k)) e = (kept_check (sound a d) _ _ e).0
    go (ask (next b k)) e = (kept_check (sound a d) _ _ e).0
    go (ask (previous b k)) e = (kept_check (sound a d) _ _ e).0
    go (insert b k v) e = (kept_check (sound a d) _ _ (none_broken (zero_key k) _ e).1).0
    go (delete b k) e = (kept_check (sound a d) _ _ e).0
    go (commit b) e = (kept_check (sound a d) _ _ e).0
    go (abort b) e = (kept_check (sound a d) _ _ e).0
    go (ask (take_mark b)) e = (kept_check (sound a d) _ _ e).0
    go (return_to b m) e = (kept_check (sound a d) _ _ e).0
    go (write_out p) e = (kept_check (sound a d) _ [] (none_broken (check (leb (length a.work.pages) p) PageNumber) _ e).1).0

-- Page 0 is the map, never zeros.
pub zeros_unsound : {A : Type 0} (n m : ℕ) → 0 < n → (a : Areas) (d : Desk) → a.work ≡ zero_side n m → sound a d ≡ true → A
unfolding layouts_ok blocks_ok block_ok layout layout_by
zeros_unsound zero m pos a d e s = absurd (omega arith)
zeros_unsound (suc n) m pos a d e s = let y = subst (λ z. layouts_ok z ≡ true) e (sound_parts a d s).layouts in clash (sym y)
