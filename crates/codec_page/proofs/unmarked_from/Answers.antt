-- `unmarked_from`: no page from n to i is marked, so the answer is the answer for the rest; a word without a mark is 32 of them.
use borrow.Author.Rules.{rules}
use native.Mathlib.Omega.{arith}
use mathlib.Core.Path.{refl, sym, ◌∙◌}
use Rattle.codec_page.specs.Layouts.{unmarked_more, unmarked_word, marked_here, unmarked_none}
use Rattle.codec_page.proofs.unmarked_from.Goals as goal

pub loop-i-init : goal.loop-i-init
loop-i-init c = (search rules, refl)

pub loop-i-preserved-then-is_clear : goal.loop-i-preserved-then-is_clear
loop-i-preserved-then-is_clear c =
    let l = c.loop-i in
    let e = c.is_clear.ensures c.if-is_clear.true in
    (search rules, l.invariant.1 ∙ unmarked_word _ l.i 32 e.0 e.1 (omega arith) (omega (arith, e.0, c.loop-i-test.true)))

pub returns-then-marked : goal.returns-then-marked
returns-then-marked c =
    let l = c.loop-i in
    sym (l.invariant.1 ∙ marked_here _ l.i (omega arith) (sym c.marked.ensures ∙ c.if-marked.true))

pub loop-i-preserved : goal.loop-i-preserved
loop-i-preserved c =
    let l = c.loop-i in
    (search rules, l.invariant.1 ∙ unmarked_more _ l.i (omega arith) (sym c.marked.ensures ∙ c.if-marked.false))

pub returns : goal.returns
returns c =
    let l = c.loop-i in
    sym (l.invariant.1 ∙ unmarked_none _ l.i (omega arith))
