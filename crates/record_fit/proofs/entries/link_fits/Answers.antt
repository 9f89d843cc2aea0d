-- `link_fits`: nothing at w's place, or the entry there and the key before it.
use mathlib.Core.Path.{refl, ◌∙◌}
use Rattle.record_fit.specs.Tests.{both_of, link_past, link_here}
use Rattle.record_fit.proofs.entries.link_fits.Goals as goal

pub returns-then-i-n : goal.returns-then-i-n
returns-then-i-n c = let a = c.args in link_past a.n a.es a.b a.u a.w _ c.find-i.ensures.0 c.if-i-n.true

pub returns : goal.returns
returns c =
    let a = c.args in
    both_of refl (both_of refl (both_of c.ends_below.ensures refl))
    ∙ link_here a.n a.es a.b a.u a.w c.find-i.result c.find-i.ensures.0 c.if-i-n.false
