-- `highest_free`: the pages from p on are all marked, so the highest free one is below p.
use borrow.Author.Rules.{rules}
use native.Mathlib.Omega.{arith}
use Prim.Native.Nat.{◌<◌, ◌^◌}
use mathlib.Core.Path.{refl, ◌∙◌, sym}
use Rattle.codec_map.specs.Turns.{marks, highest_here, highest_lower, highest_none}
use Rattle.codec_map.proofs.highest_free.Goals as goal

pub loop-p-init : goal.loop-p-init
loop-p-init c = (search rules, refl)

pub overflow_sub-result-then-c-ne0 : goal.overflow_sub-result-then-c-ne0
overflow_sub-result-then-c-ne0 c =
    let a = c.args in
    let l = c.loop-p in
    let small : c.map_word.result < 2 ^ 32 = search rules in
    let h = highest_here a.es l.p c.map_word.result c.clear_in-c.result (omega arith) (omega arith) c.map_word.ensures small c.clear_in-c.ensures c.if-c-ne0.true in
    omega (arith, c.last_zeros.ensures)

pub returns-then-c-ne0 : goal.returns-then-c-ne0
returns-then-c-ne0 c =
    let a = c.args in
    let l = c.loop-p in
    let small : c.map_word.result < 2 ^ 32 = search rules in
    let h = highest_here a.es l.p c.map_word.result c.clear_in-c.result (omega arith) (omega arith) c.map_word.ensures small c.clear_in-c.ensures c.if-c-ne0.true in
    omega (arith, c.last_zeros.ensures, l.invariant.1)

pub loop-p-preserved : goal.loop-p-preserved
loop-p-preserved c =
    let a = c.args in
    let l = c.loop-p in
    let small : c.map_word.result < 2 ^ 32 = search rules in
    (omega arith, l.invariant.1 ∙ highest_lower a.es l.p c.map_word.result c.clear_in-c.result (omega arith) (omega arith) c.map_word.ensures small c.clear_in-c.ensures c.if-c-ne0.false)

pub returns : goal.returns
returns c =
    let a = c.args in
    let l = c.loop-p in
    sym (l.invariant.1 ∙ highest_none l.p (marks a.es) (omega arith))
