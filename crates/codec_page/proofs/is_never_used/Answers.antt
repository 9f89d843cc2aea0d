-- `is_never_used`: by the zeros, of every page but the map.
use mathlib.Core.Path.{sym, ◌∙◌}
use Rattle.def_base.specs.Tests.{clash}
use Rattle.codec_page.specs.Layouts.{never_used_keeps}
use Rattle.codec_page.proofs.is_never_used.Goals as goal

pub returns-then-p-eq0 : goal.returns-then-p-eq0
returns-then-p-eq0 c = λ e. clash (sym e)

pub returns-then-get32-ne0 : goal.returns-then-get32-ne0
returns-then-get32-ne0 c = λ e. clash (sym e)

pub returns : goal.returns
returns c =
    let a = c.args in
    λ e. (sym c.get32.ensures ∙ c.if-get32-ne0.false, λ n. never_used_keeps n a.p a.b.now c.requires _ c.is_zero.ensures e c.if-p-eq0.false)
