-- REFUSAL 7. 02, U1: "7, the key of an insert is 0, checked after 2 and before 11". On right lengths it is answered to every insert of key 0,
-- whatever the areas and the desk hold, and to nothing else.
use Rattle.std.specs.Prelude.{ℕ, ◌≡◌, refl, Bool, true, false, not, List, [], ◌∷◌, length, eqb}
use Rattle.std.proofs.Common.{sym, ◌∙◌, subst}
use Rattle.std.proofs.Math.Option.{some}
use Rattle.def_base.specs.Tests.{pick, any, clash, none_some, some_inj, true_eq, or_right}
use Rattle.def_layout.specs.declared.Desk.{Desk}
use Rattle.def_model.specs.declared.Refusal.TheVariants.{Lengths, ZeroKey, ColumnsDiffer}
use Rattle.def_model.specs.declared.Answer.TheVariants.{Refused}
use Rattle.def_model.specs.Answers.{refusal_number, Check, check, first_broken}
use Rattle.def_model.specs.Calls.{begin_checks, fetch_checks, next_checks, previous_checks, insert_checks, delete_checks, commit_checks, abort_checks, mark_checks, return_checks, write_out_checks, load_checks}
use Rattle.def_model.specs.Restart.{restart_checks}
use Rattle.def_model.specs.OnBytes.{Call, start, restart, request, format, load, ask, begin, fetch, next, previous, insert, delete, commit, abort, write_out, take_mark, return_to, checks, start_checks, question_checks, request_checks, Lent, read_areas, lengths_ok, call}
use Rattle.def_recovery.specs.Events.{is_restart}
use Rattle.theory_refusals.specs.Order.{all_checks, refused_exactly}
use Rattle.theory_refusals.specs.Left.{zeroes}
use Rattle.theory_refusals.specs.OnBytes.{left_lent_by, refused_leaves}

-- The areas and the desk stay, and nothing is stored.
pub zero_refused : (b v : ℕ) (l : Lent) (d : Desk) → lengths_ok l ≡ true → call (request (insert b 0 v)) l d ≡ record { answer = Refused ZeroKey; work_pages = l.work_pages; work_log = l.work_log; desk = d; stores = [] }
unfolding checks request_checks insert_checks first_broken left_lent_by zeroes is_restart
zero_refused b v l d e = refused_leaves (request (insert b 0 v)) l d ZeroKey ((refused_exactly (request (insert b 0 v)) l d ZeroKey).1 (rw e))

-- ---- and to nothing else

-- A check of the list says 7.
unfoldable says_7 : List Check → Bool
says_7 cs = any (λ (c : Check). eqb (refusal_number c.says) 7) cs

said : (cs : List Check) → first_broken cs ≡ some ZeroKey → says_7 cs ≡ true
unfolding says_7 any first_broken refusal_number
said [] e = none_some e
said (c ∷ cs) e = go c.broken e (said cs)
  where
    go : (b : Bool) → pick b (some c.says) (first_broken cs) ≡ some ZeroKey → (first_broken cs ≡ some ZeroKey → says_7 cs ≡ true) → says_7 (c ∷ cs) ≡ true
    go true e more = rw (some_inj e)
    go false e more = or_right (eqb (refusal_number c.says) 7) (more e)

unfoldable after_first : List Check → List Check
after_first [] = []
after_first (c ∷ cs) = cs

-- An insert of key 0, or a loading with a key 0.
pub data AsksZero : Call → Type 0 where
  inserts : (batch value : ℕ) → AsksZero (request (insert batch 0 value))
  loads : (keys values : List ℕ) → any (λ k. eqb k 0) keys ≡ true → AsksZero (start (load keys values))

-- 7 as an answer means that.
pub zero_alone : (c : Call) (l : Lent) (d : Desk) → (call c l d).answer ≡ Refused ZeroKey → AsksZero c
unfolding checks start_checks request_checks question_checks load_checks begin_checks restart_checks fetch_checks next_checks previous_checks insert_checks delete_checks commit_checks abort_checks mark_checks return_checks write_out_checks says_7 any refusal_number first_broken after_first
zero_alone c l d e = go c ((refused_exactly c l d ZeroKey).0 e)
  where
    -- It says no 7, so that is not what was broken first.
    not_7 : {A : Type 0} (cs : List Check) → says_7 cs ≡ false → first_broken cs ≡ some ZeroKey → A
    not_7 cs n e = clash (sym (said cs e) ∙ n)

    go : (c : Call) → first_broken (all_checks c l d) ≡ some ZeroKey → AsksZero c
    go (start format) e = not_7 (all_checks (start format) l d) refl e
    go (start (load ks vs)) e = by_keys (any (λ k. eqb k 0) ks) refl e
      where
        rest : List Check
        rest = check (not (lengths_ok l)) Lengths ∷ check (not (eqb (length ks) (length vs))) ColumnsDiffer ∷ after_first (after_first (load_checks ks vs (read_areas l)))

        by_keys : (z : Bool) → any (λ k. eqb k 0) ks ≡ z
            → pick (not (lengths_ok l)) (some Lengths) (pick (not (eqb (length ks) (length vs))) (some ColumnsDiffer) (pick z (some ZeroKey) (first_broken (after_first (after_first (load_checks ks vs (read_areas l))))))) ≡ some ZeroKey → AsksZero (start (load ks vs))
        by_keys true t e = loads ks vs t
        by_keys false t e = not_7 rest refl e
    go (request begin) e = not_7 (all_checks (request begin) l d) refl e
    go restart e = not_7 (all_checks restart l d) refl e
    go (request (ask (fetch b k))) e = not_7 (all_checks (request (ask (fetch b k))) l d) refl e
    go (request (ask (next b k))) e = not_7 (all_checks (request (ask (next b k))) l d) refl e
    go (request (ask (previous b k))) e = not_7 (all_checks (request (ask (previous b k))) l d) refl e
    go (request (insert b k v)) e = by_key (eqb k 0) refl e
      where
        by_key : (z : Bool) → eqb k 0 ≡ z → pick (not (lengths_ok l)) (some Lengths) (pick z (some ZeroKey) (first_broken (after_first (insert_checks b k (read_areas l) d)))) ≡ some ZeroKey → AsksZero (request (insert b k v))
        by_key true t e = subst (λ x. AsksZero (request (insert b x v))) (sym (true_eq k 0 t)) (inserts b v)
        by_key false t e = not_7 (check (not (lengths_ok l)) Lengths ∷ after_first (insert_checks b k (read_areas l) d)) refl e
    go (request (delete b k)) e = not_7 (all_checks (request (delete b k)) l d) refl e
    go (request (commit b)) e = not_7 (all_checks (request (commit b)) l d) refl e
    go (request (abort b)) e = not_7 (all_checks (request (abort b)) l d) refl e
    go (request (write_out p)) e = not_7 (all_checks (request (write_out p)) l d) refl e
    go (request (ask (take_mark b))) e = not_7 (all_checks (request (ask (take_mark b))) l d) refl e
    go (request (return_to b m)) e = not_7 (all_checks (request (return_to b m)) l d) refl e
