-- `find`: no entry before i is the one, so the place is i and the place in the rest.
use borrow.Author.Rules.{rules}
use native.Mathlib.Omega.{arith}
use Rattle.codec_entries.specs.Turns.{find_more, find_here, find_none}
use Rattle.codec_entries.proofs.find.Goals as goal

pub loop-place-init : goal.loop-place-init
loop-place-init c = (search rules, search rules)

pub returns-then-es-place : goal.returns-then-es-place
returns-then-es-place c =
    let a = c.args in
    let l = c.loop-place in
    (omega (arith, find_here a.es a.n a.k l.place _ (omega arith) c.if-es-place.true l.invariant.1), omega arith)

pub loop-place-preserved : goal.loop-place-preserved
loop-place-preserved c =
    let a = c.args in
    let l = c.loop-place in
    (search rules, find_more a.es a.n a.k l.place _ (omega arith) c.if-es-place.false l.invariant.1)

pub returns : goal.returns
returns c =
    let a = c.args in
    let l = c.loop-place in
    (omega (arith, find_none a.es a.n a.k l.place _ (omega arith) l.invariant.1), omega arith)
