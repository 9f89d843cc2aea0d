-- `lefts_ok`: the answer for all leaves is the answer for those from the page at hand on.
use mathlib.Core.Path.{◌≡◌}
use Prim.Native.Nat.{◌-◌}
use Rattle.def_model.specs.TreeRules.{chain}
use Rattle.def_model.specs.Links.{linked, lefts_ok}
use Rattle.law_bytes.specs.PageAreas.{pages_of, lefts_of}
use Rattle.tree_links.proofs.lefts_ok.Given as goal

abbrev pub invariant-loop : goal.invariant-loop
invariant-loop l = lefts_ok (pages_of l.n l.pages) (lefts_of l.n l.pages) ≡ linked l.before (chain (l.n - l.counter) (pages_of l.n l.pages) l.p) (lefts_of l.n l.pages)
