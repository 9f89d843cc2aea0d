-- `fresh`: page 0 is the map, or marks nothing as free.
use borrow.Author.Rules.{rules}
use native.Mathlib.Omega.{arith}
use Rattle.codec_map.specs.Turns.{marks}
use Rattle.tree_write.specs.Taking.{highest_below, fresh_none, fresh_is}
use Rattle.tree_write.proofs.fresh.Goals as goal

pub returns-in_default : goal.returns-in_default
returns-in_default c = let x = c.page_at-x in (search rules, λ xs ls near h. fresh_none x.result near xs ls h (x.ensures.1 xs ls h) c.in_default.not-Map)

pub overflow_cast-result : goal.overflow_cast-result
overflow_cast-result c =
    let a = c.args in
    omega (arith, c.highest_free.ensures, highest_below a.n (marks c.page_at-x.result.entries), c.requires)

pub returns-in-Map : goal.returns-in-Map
returns-in-Map c =
    let a = c.args in
    let x = c.page_at-x in (
      omega (arith, c.highest_free.ensures, highest_below a.n (marks x.result.entries), c.requires),
      λ xs ls near h. fresh_is x.result near xs ls h (x.ensures.1 xs ls h) _ c.in-Map.is c.highest_free.ensures,
    )
