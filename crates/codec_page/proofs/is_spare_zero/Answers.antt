-- `is_spare_zero`: test by test.
use mathlib.Core.Path.{sym, ◌∙◌}
use Rattle.codec_page.specs.Working.{spare_zero}
use Rattle.codec_page.proofs.is_spare_zero.Goals as goal
use Rattle.codec_page.proofs.is_spare_zero.Goals.{else-working-via-then-working+else-is_leaf, else-working-via-else-working}

pub returns-then-is_leaf : goal.returns-then-is_leaf
unfolding spare_zero
returns-then-is_leaf c = let w = c.if-working.true in let l = sym c.is_leaf.ensures ∙ c.if-is_leaf.true in rw (w, l)

pub returns : goal.returns
unfolding spare_zero
returns c =
    elim c.else-working.branch [
      | else-working-via-then-working+else-is_leaf w ↦ let l = sym w.is_leaf.ensures ∙ w.if-is_leaf.false in let t = w.if-working.true in rw (t, l)
      | else-working-via-else-working w ↦ let t = w.if-working.false in rw t
    ]
