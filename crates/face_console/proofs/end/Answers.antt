-- `end`: a last line that has no end.
use borrow.Author.Rules.{rules}
use mathlib.Core.Path.{◌≡◌, refl}
use native.Mathlib.Omega.{arith}
use lib.ListN.{length}
use Rattle.area_lengths.specs.Lent.{lent}
use Rattle.face_console.specs.Hears.{counted, nothing_left, line_left}
use Rattle.face_console.proofs.end.Goals as goal

pub returns-then-eq : goal.returns-then-eq
returns-then-eq c =
    let a = c.args in
    (counted 0 a.out.now (omega arith), nothing_left (lent a.wp.now a.sp.now a.wl.now a.sl.now) a.h (record { line = a.h.line; desk = a.h.desk; said = 0 }) a.out.now (search rules) refl refl refl)

pub returns : goal.returns
returns c =
    let a = c.args in
    let l = c.hear_line in
    let before = lent a.wp.now a.sp.now a.wl.now a.sl.now in
    let after = lent l.new.wp l.new.sp l.new.wl l.new.sl in
    let e : length l.new.out ≡ length a.out.now = search rules in (
      counted l.result.said l.new.out (omega (arith, e, l.ensures.0, c.requires)),
      line_left before after a.h (record { line = a.h.line; desk = a.h.desk; said = 0 }) l.result a.out.now l.new.out (search rules) refl refl refl l.ensures.1,
    )
