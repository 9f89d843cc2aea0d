-- What a refused call leaves of typed areas: no store, and the working areas as they were or, of restart, zeroed.
use Rattle.std.specs.Prelude.{◌≡◌, ◌⊎◌, false, [], length}
use Rattle.std.proofs.Common.{sym, ap, ◌∙◌, inl, inr}
use Rattle.def_layout.specs.declared.Desk.{Desk}
use Rattle.def_model.specs.declared.Refusal.{Refusal}
use Rattle.def_model.specs.Areas.{Side, Areas, zero_side}
use Rattle.def_model.specs.Answers.{passed}
use Rattle.def_model.specs.OnBytes.{Call, start, restart, request, refused_work, refused, outcome}
use Rattle.law_areas.specs.Outcomes.{broken_refused}
use Rattle.theory_refusals.specs.Order.{not_passed, refusal_in, first_refused}

abbrev pub zeroed_side : Side → Side
zeroed_side s = zero_side (length s.pages) (length s.log)

refused_is : (c : Call) (a : Areas) (d : Desk) → passed (outcome c a d).answer ≡ false → (r : Refusal) × (outcome c a d ≡ refused c r a d)
unfolding refusal_in
refused_is c a d p = let (r, e) = not_passed (outcome c a d).answer p in (r, broken_refused c a d r (sym (first_refused c a d) ∙ ap refusal_in e))

pub work_refused : (c : Call) (a : Areas) (d : Desk) → passed (outcome c a d).answer ≡ false → ((outcome c a d).work ≡ a.work) ⊎ ((outcome c a d).work ≡ zeroed_side a.work)
unfolding refused refused_work
work_refused (start s) a d p = inl (ap (λ o. o.work) (refused_is (start s) a d p).1)
work_refused restart a d p = inr (ap (λ o. o.work) (refused_is restart a d p).1)
work_refused (request q) a d p = inl (ap (λ o. o.work) (refused_is (request q) a d p).1)

pub refused_stores : (c : Call) (a : Areas) (d : Desk) → passed (outcome c a d).answer ≡ false → (outcome c a d).stores ≡ []
unfolding refused
refused_stores c a d p = ap (λ o. o.stores) (refused_is c a d p).1

pub restart_zeroes : (a : Areas) (d : Desk) → passed (outcome restart a d).answer ≡ false → (outcome restart a d).work ≡ zeroed_side a.work
unfolding refused refused_work
restart_zeroes a d p = ap (λ o. o.work) (refused_is restart a d p).1
