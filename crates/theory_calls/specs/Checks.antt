-- What it says that a call passed its checks, or that it was refused.
use Rattle.std.specs.Prelude.{ℕ, ◌<◌, ◌≡◌, refl, Bool, true, false, not, List, [], ◌∷◌, length}
use Rattle.std.proofs.Common.{sym, arith}
use Rattle.std.proofs.Math.Option.{Option, none, some}
use Rattle.def_base.specs.Tests.{Case, yes!, no!, case, clash, none_some, and_true}
use Rattle.def_layout.specs.declared.Desk.{Desk}
use Rattle.def_model.specs.declared.Refusal.{Refusal}
use Rattle.def_model.specs.Fit.{found}
use Rattle.def_model.specs.Batches.{Batch, find_batch, unmarked}
use Rattle.def_model.specs.Areas.{Areas}
use Rattle.def_model.specs.Answers.{Check, check, first_broken}
use Rattle.def_model.specs.Sound.{sound, layouts_ok, log_ok, work_pages, work_log, work_slots, work_open, desk_ok, stored_ok, reserves_ok}
use Rattle.def_model.specs.TreeRules.{tree_ok}
use Rattle.def_model.specs.Pending.{pending_ok}
use Rattle.def_model.specs.Links.{lefts_ok}
use Rattle.def_model.specs.Calls.{is_none}

not_false : (b : Bool) → not b ≡ false → b ≡ true
not_false true e = refl
not_false false e = clash e

-- No check was broken: the first was not, and none of the others.
pub none_broken : (c : Check) (cs : List Check) → first_broken (c ∷ cs) ≡ none → (c.broken ≡ false) × (first_broken cs ≡ none)
unfolding first_broken
none_broken c cs e = go (case c.broken)
  where
    go : Case c.broken → (c.broken ≡ false) × (first_broken cs ≡ none)
    go (no! f) = (f, rw f at e)
    go (yes! f) = let y : some c.says ≡ none = rw f at e in none_some (sym y)

pub kept_check : (b : Bool) (r : Refusal) (cs : List Check) → first_broken (check (not b) r ∷ cs) ≡ none → (b ≡ true) × (first_broken cs ≡ none)
kept_check b r cs e = let (x, y) = none_broken (check (not b) r) cs e in (not_false b x, y)

-- ---- what soundness says

pub record Parts (a : Areas) (d : Desk) : Type 0 where
  pub layouts : layouts_ok a.work ≡ true
  pub log : log_ok a.work ≡ true
  pub tree : tree_ok (work_pages a) ≡ true
  pub pending : pending_ok (work_pages a) (work_open a) ≡ true
  pub desk : desk_ok a d ≡ true
  pub stored : stored_ok a d ≡ true
  pub reserves : reserves_ok (work_slots a) (work_pages a) (work_log a) (work_open a) ≡ true
  pub lefts : lefts_ok (work_pages a) a.work.lefts ≡ true

pub sound_parts : (a : Areas) (d : Desk) → sound a d ≡ true → Parts a d
unfolding sound
sound_parts a d e =
    let (p₁, e₁) = and_true (layouts_ok a.work) _ e in
    let (p₂, e₂) = and_true (log_ok a.work) _ e₁ in
    let (p₃, e₃) = and_true (tree_ok (work_pages a)) _ e₂ in
    let (p₄, e₄) = and_true (pending_ok (work_pages a) (work_open a)) _ e₃ in
    let (p₅, e₅) = and_true (desk_ok a d) _ e₄ in
    let (p₆, e₆) = and_true (stored_ok a d) _ e₅ in
    let (p₇, p₈) = and_true (reserves_ok (work_slots a) (work_pages a) (work_log a) (work_open a)) (lefts_ok (work_pages a) a.work.lefts) e₆ in
    record { layouts = p₁; log = p₂; tree = p₃; pending = p₄; desk = p₅; stored = p₆; reserves = p₇; lefts = p₈ }

-- ---- options

pub some_of : {A : Type 0} (o : Option A) → is_none o ≡ false → (x : A) × (o ≡ some x)
unfolding is_none
some_of none e = clash e
some_of (some x) e = (x, refl)

pub live_batch : (o : Option Batch) → unmarked o ≡ true → (b : Batch) × (o ≡ some b) × (b.marked ≡ false)
unfolding unmarked
live_batch none e = clash (sym e)
live_batch (some b) e = (b, refl, unmark b.marked e)
  where
    unmark : (m : Bool) → not m ≡ true → m ≡ false
    unmark true e = clash (sym e)
    unmark false e = refl

pub absent_of : (o : Option ℕ) → found o ≡ false → o ≡ none
unfolding found
absent_of none e = refl
absent_of (some v) e = clash e

pub present_of : (o : Option ℕ) → found o ≡ true → (v : ℕ) × (o ≡ some v)
unfolding found
present_of none e = clash (sym e)
present_of (some v) e = (v, refl)

-- A batch is open.
pub found_open : (n : ℕ) (bs : List Batch) (b : Batch) → find_batch n bs ≡ some b → 0 < length bs
unfolding find_batch
found_open n [] b e = none_some e
found_open n (a ∷ bs) b e = omega arith
