-- `held_within`: no row so far holds such a key.
use borrow.Author.Rules.{rules}
use native.Mathlib.Omega.{arith}
use mathlib.Core.Path.{◌≡◌}
use lib.ListN.{length}
use Rattle.sound_pending.specs.Keys.{from_to}
use Rattle.sound_pending.specs.Rows.{desk_start, desk_hit, desk_on, desk_end}
use Rattle.sound_pending.proofs.held_within.Goals as goal

pub loop-row-init : goal.loop-row-init
loop-row-init c = let a = c.args in desk_start (from_to a.first a.last) a.m a.log.now a.d.rows a.n

pub returns-then-row_has_within : goal.returns-then-row_has_within
returns-then-row_has_within c =
    let a = c.args in
    let l = c.loop-row in
    let h : length a.d.rows ≡ 8 = search rules in
    desk_hit (from_to a.first a.last) a.m a.log.now a.d.rows a.n l.row-index l.invariant (omega (arith, h, c.loop-row-test.true)) _ c.if-row_has_within.true c.row_has_within.ensures

pub loop-row-preserved : goal.loop-row-preserved
loop-row-preserved c =
    let a = c.args in
    let l = c.loop-row in
    let h : length a.d.rows ≡ 8 = search rules in
    desk_on (from_to a.first a.last) a.m a.log.now a.d.rows a.n l.row-index l.invariant (omega (arith, h, c.loop-row-test.true)) _ c.if-row_has_within.false c.row_has_within.ensures

pub returns : goal.returns
returns c =
    let a = c.args in
    let l = c.loop-row in
    let h : length a.d.rows ≡ 8 = search rules in
    desk_end (from_to a.first a.last) a.m a.log.now a.d.rows a.n l.row-index l.invariant (omega (arith, h, c.loop-row-test.false))
