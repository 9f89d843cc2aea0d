-- `levels_ok`: as a level begins the walk from it down decides, and along a level the walk of what is left of it; a broken rule fails both.
use borrow.Author.Rules.{rules}
use borrow.Author.Tests.{not-true, not-false}
use native.Mathlib.Omega.{arith}
use Prim.Native.Nat.{◌<◌}
use mathlib.Core.Path.{◌≡◌, sym, ◌∙◌}
use Rattle.def_layout.specs.PageBytes.{page_fields}
use Rattle.law_bytes.specs.Pieces.{read_all_length}
use Rattle.law_bytes.specs.PageAreas.{pages_of}
use Rattle.codec_map.specs.Turns.{marks}
use Rattle.tree_check.specs.Turns.{root_begun, level_begun, too_long, not_fit, not_under, goes_on, not_ended, judged, has_pages, goes_down}
use Rattle.tree_check.proofs.levels_ok.Goals as goal

pub levels-init : goal.levels-init
levels-init c =
    let x = c.nth_page-root in
    let a = c.args in
    let u : x.result.level < 4294967296 = search rules in
    (omega arith, root_begun (pages_of a.n a.pages.now) x.result _ _ x.ensures c.root_few-few.ensures c.above_root-above.ensures)

pub loop-p-init : goal.loop-p-init
loop-p-init c =
    let a = c.args in
    let l = c.levels in (
      search rules,
      search rules,
      l.invariant.0,
      level_begun (pages_of a.n a.pages.now) _ _ _ _ _ _ (read_all_length 128 page_fields a.n a.pages.now) l.invariant.1 c.first_child-first.ensures,
    )

pub passed-above-requires : goal.passed-above-requires
passed-above-requires c = c.stands_under.ensures.1 (not-false _ c.if-not-stands_under.false-raw)

pub overflow_add-count : goal.overflow_add-count
overflow_add-count c =
    let i = c.loop-p.invariant in
    record { fits = omega (arith, i.1, i.2, c.requires.0.1) }

pub loop-p-preserved : goal.loop-p-preserved
loop-p-preserved c =
    let s = c in
    let a = s.args in
    let l = c.loop-p in
    let x = c.nth_page-x in
    let r = c.ready-above in
    let u = c.stands_under in (
      search rules,
      omega (arith, l.invariant.1, c.if-left-eq0.false),
      l.invariant.2,
      goes_on _ _ _ _ _ _ _ _ _ _ _ l.invariant.3 c.loop-p-test.true x.result x.ensures (marks a.map) a.n
          (read_all_length 128 page_fields a.n a.pages.now) s.requires.1 r.result r.ensures c.if-left-eq0.false
          (sym c.page_ok.ensures ∙ not-false _ c.if-not-page_ok.false-raw)
          (sym u.ensures.0 ∙ not-false _ c.if-not-stands_under.false-raw) c.passed-above.result (u.ensures.1 (not-false _ c.if-not-stands_under.false-raw)) c.passed-above.ensures,
    )

pub returns-then-level-eq0 : goal.returns-then-level-eq0
returns-then-level-eq0 c =
    let s = c in
    let a = s.args in
    let l = c.loop-p in
    let r = c.ready-above-in-levels in
    judged _ _ _ _ _ _ _ _ _ _ _ l.invariant.3 c.loop-p-test.false r.result r.ensures (sym c.level_ended.ensures ∙ not-false _ c.if-not-level_ended.false-raw)
    a.n (marks a.map) c.count_used.result c.if-level-eq0.true (read_all_length 128 page_fields a.n a.pages.now) s.requires.1 c.count_used.ensures

pub overflow_sub-n : goal.overflow_sub-n
overflow_sub-n c =
    let a = c.args in
    let l = c.loop-p in
    let r = c.ready-above-in-levels in
    let h = has_pages _ _ _ _ _ _ _ _ _ _ _ l.invariant.3 c.loop-p-test.false r.result r.ensures (sym c.level_ended.ensures ∙ not-false _ c.if-not-level_ended.false-raw) in
    let n : a.n ≡ 0 → ⊥ = λ z. h (read_all_length 128 page_fields a.n a.pages.now ∙ z) in
    omega arith

pub levels-preserved : goal.levels-preserved
levels-preserved c =
    let s = c in
    let a = s.args in
    let l = c.loop-p in
    let r = c.ready-above-in-levels in (
      omega (arith, l.invariant.1, l.invariant.2, s.requires.0.1, c.if-level-eq0.false),
      goes_down _ _ _ _ _ _ _ _ _ _ _ l.invariant.3 c.loop-p-test.false r.result r.ensures (sym c.level_ended.ensures ∙ not-false _ c.if-not-level_ended.false-raw)
          a.n c.start_above-above.result c.if-level-eq0.false (read_all_length 128 page_fields a.n a.pages.now) c.start_above-above.ensures,
    )

pub returns-then-left-eq0 : goal.returns-then-left-eq0
returns-then-left-eq0 c =
    let l = c.loop-p in
    too_long _ _ _ _ _ _ _ _ _ _ _ l.invariant.3 c.loop-p-test.true c.if-left-eq0.true

pub returns-then-not-page_ok : goal.returns-then-not-page_ok
returns-then-not-page_ok c =
    let s = c in
    let a = s.args in
    let l = c.loop-p in
    let x = c.nth_page-x in
    not_fit _ _ _ _ _ _ _ _ _ _ _ l.invariant.3 c.loop-p-test.true x.result x.ensures (marks a.map) a.n
    (read_all_length 128 page_fields a.n a.pages.now) s.requires.1 (sym c.page_ok.ensures ∙ not-true _ c.if-not-page_ok.true-raw)

pub returns-then-not-stands_under : goal.returns-then-not-stands_under
returns-then-not-stands_under c =
    let s = c in
    let a = s.args in
    let l = c.loop-p in
    let x = c.nth_page-x in
    let r = c.ready-above in
    not_under _ _ _ _ _ _ _ _ _ _ _ l.invariant.3 c.loop-p-test.true x.result x.ensures (marks a.map) a.n
    (read_all_length 128 page_fields a.n a.pages.now) s.requires.1 r.result r.ensures (sym c.stands_under.ensures.0 ∙ not-true _ c.if-not-stands_under.true-raw)

pub returns-then-not-level_ended : goal.returns-then-not-level_ended
returns-then-not-level_ended c =
    let l = c.loop-p in
    let r = c.ready-above-in-levels in
    not_ended _ _ _ _ _ _ _ _ _ _ _ l.invariant.3 c.loop-p-test.false r.result r.ensures (sym c.level_ended.ensures ∙ not-true _ c.if-not-level_ended.true-raw)
