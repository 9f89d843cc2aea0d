-- What `is_none` of an open batch's row tells of its place; and what is asked of a value that may be there, in the definitions' words.
use Rattle.std.specs.Prelude.{◌≡◌, refl, ℕ, ◌<◌, ◌≤◌, Bool, true, false, not, List, Option, Some, None, Err, is_some, MatchOption}
use Rattle.std.specs.Option.{unwrap_or, ok_or}
use Rattle.std.proofs.Common.{arith, subst}
use Rattle.def_layout.specs.declared.Row.{Row}
use Rattle.def_model.specs.declared.Refusal.{Refusal}
use Rattle.def_model.specs.Fit.{found}
use Rattle.def_model.specs.Calls.{value_or}
use Rattle.tree_lookup.specs.Answers.{option_of}
use Rattle.call_slides.specs.Given.{open_place, Live, NotLive}

module _ (b : ℕ) (rows : List Row) where
  abbrev OpenRow : Option ℕ → Type 0
  OpenRow o = MatchOption o (open_place b rows ≡ 8) (λ i. (i ≡ open_place b rows) × (i < 8))

  pub no_row : (o : Option ℕ) (t : Bool) → OpenRow o → is_some o ≡ not t → t ≡ true → 8 ≤ open_place b rows
  no_row None t h e q = omega (arith, h)
  no_row (Some i) t h e q = cc

  pub one_row : (o : Option ℕ) (t : Bool) → OpenRow o → is_some o ≡ not t → t ≡ false → open_place b rows < 8
  one_row None t h e q = cc
  one_row (Some i) t h e q = omega (arith, h.0, h.1)

pub found_by : (o : Option ℕ) → is_some o ≡ found (option_of o)
unfolding found
found_by None = refl
found_by (Some v) = refl

pub missing_by : (o : Option ℕ) (t : Bool) → is_some o ≡ not t → t ≡ not (found (option_of o))
unfolding found
missing_by None true e = refl
missing_by None false e = cc
missing_by (Some v) true e = cc
missing_by (Some v) false e = refl

pub value_by : (o : Option ℕ) → unwrap_or o 0 ≡ value_or (option_of o)
unfolding value_or
value_by None = refl
value_by (Some v) = refl

-- A row that is looked for, where the search is known to find it, or not to.
module _ (rows : List Row) (marked : List Bool) (b : ℕ) where
  abbrev LiveRow : Option ℕ → Type 0
  LiveRow o = MatchOption o (NotLive rows marked b) (Live rows marked b)

  pub live_there : (o : Option ℕ) (i : ℕ) → LiveRow o → o ≡ Some i → Live rows marked b i
  live_there o i h e = subst LiveRow e h

  pub live_none : (o : Option ℕ) → LiveRow o → o ≡ None → NotLive rows marked b
  live_none o h e = subst LiveRow e h

-- Why `ok_or` refuses.
pub why_refused : (o : Option ℕ) (why r : Refusal) → Err r ≡ ok_or o why → o ≡ None → r ≡ why
why_refused None why r e h = cc
why_refused (Some i) why r e h = cc
