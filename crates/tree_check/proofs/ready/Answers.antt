-- `ready`: from a page's end on to the next page nothing is left out.
use mathlib.Core.Path.{refl, ◌∙◌}
use Rattle.law_bytes.specs.PageAreas.{pages_of}
use Rattle.tree_check.specs.Above.{rest_none, rest_out, moved}
use Rattle.tree_check.proofs.ready.Goals as goal
use Rattle.tree_check.proofs.ready.Goals.{then-r-eq0-via-then-r-eq0, then-r-eq0-via-else-r-eq0+then-r-eq0-2}

pub loop-r-init : goal.loop-r-init
loop-r-init c = (refl, refl)

pub returns-then-r-eq0 : goal.returns-then-r-eq0
returns-then-r-eq0 c =
    let xs = pages_of c.args.n c.args.pages.now in
    let l = c.loop-r in (
      l.invariant.0,
      l.invariant.1,
      λ h.
          elim c.then-r-eq0.branch [
            | then-r-eq0-via-then-r-eq0 w ↦ rest_none xs l.r h w.if-r-eq0.true
            | then-r-eq0-via-else-r-eq0+then-r-eq0-2 w ↦ rest_out xs l.r h w.if-r-eq0-2.true
          ],
    )

pub loop-r-preserved : goal.loop-r-preserved
loop-r-preserved c =
    let a = c.args in
    let l = c.loop-r in
    let s = c.start_above-r.ensures in
    (moved (pages_of a.n a.pages.now) l.r c.start_above-r.result c.loop-r-test.true c.if-r-eq0.false c.if-r-eq0-2.false s ∙ l.invariant.0, s.3 ∙ l.invariant.1)
