-- `count_used`: after each word the ones are those of the pages passed.
use borrow.Author.Rules.{rules}
use native.Mathlib.Omega.{arith}
use Prim.Native.Nat.{ℕ, ◌<◌, ◌-◌, ◌*◌, ◌/◌, ◌^◌}
use mathlib.Core.Path.{◌≡◌, refl, ◌∙◌, ap}
use lib.ListN.{take, drop}
use Rattle.def_model.specs.TreeRules.{ones}
use Rattle.codec_map.specs.Turns.{marks, ones_run, ones_more, ones_start}
use Rattle.codec_map.proofs.count_used.Goals as goal

pub loop-p-init : goal.loop-p-init
loop-p-init c = (search rules, λ h. (refl, search rules), ones_start c.args.es)

pub overflow_add-s : goal.overflow_add-s
overflow_add-s c =
    let m = c.loop-p.invariant.1 c.loop-p-test.true in
    omega arith

pub loop-p-smaller : goal.loop-p-smaller
loop-p-smaller c =
    omega (arith, c.min-k.ensures)

pub loop-p-preserved : goal.loop-p-preserved
loop-p-preserved c =
    let a = c.args in
    let l = c.loop-p in
    let m = l.invariant.1 c.loop-p-test.true in
    let k = c.min-k.result in
    let e : 32 * (l.p / 32) ≡ l.p = omega arith in
    let small : c.map_word.result < 2 ^ 32 = search rules in
    let run = ones_run a.es (l.p / 32) k c.map_word.result (omega arith) (search rules) c.map_word.ensures small in
    let word = c.ones_in-s.ensures.0 ∙ run ∙ ap (λ (q : ℕ). ones (take k (drop q (marks a.es)))) e in (
      search rules,
      λ h. (omega arith, omega arith),
      ones_more a.es l.p k l.s c.ones_in-s.result l.invariant.2 word,
    )

pub returns : goal.returns
returns c =
    let a = c.args in
    let l = c.loop-p in
    let e : l.p ≡ a.n = omega arith in
    l.invariant.2 ∙ ap (λ (q : ℕ). ones (take q (marks a.es))) e
