-- `put_page`: inside the area a patch, past it nothing.
use native.Mathlib.Omega.{arith}
use Rattle.codec_page.specs.Typed.{typed}
use Rattle.record_pages.specs.Pages.{pages_put, pages_past}
use Rattle.record_pages.proofs.put_page.Goals as goal

pub returns-then-q-n : goal.returns-then-q-n
returns-then-q-n c xs ls h f =
    let a = c.args in
    pages_put a.p (typed a.x) c.if-q-n.true c.write_at.ensures xs ls h f

pub returns-else-q-n : goal.returns-else-q-n
returns-else-q-n c xs ls h f = let a = c.args in pages_past a.p (typed a.x) (omega (arith, c.if-q-n.false)) xs ls h
