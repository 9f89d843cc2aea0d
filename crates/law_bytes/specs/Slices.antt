-- A parameter that is a slice of bytes lent by `&mut`, as an `ensures` names it: what it was at entry and what it is at exit.
use Rattle.std.specs.Prelude.{ℕ, List}
use Rattle.std.specs.Borrow.{MutBor}
use denote.Triple.Both.{Both}

abbrev pub Slice : Type 0
Slice = Both (MutBor (List ℕ)) (MutBor (List ℕ))
