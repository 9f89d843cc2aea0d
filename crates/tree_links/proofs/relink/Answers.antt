-- `relink`: after each leaf the links of the others are left to be worked out.
use borrow.Author.Rules.{rules}
use native.Mathlib.Omega.{arith}
use mathlib.Core.Path.{◌≡◌, refl, ap, ◌∙◌}
use mathlib.Core.List.{List}
use Prim.Native.Nat.{suc, ◌-◌, ◌+◌}
use Rattle.def_layout.specs.Pages.{Page, at}
use Rattle.record_pages.specs.Pages.{pages_shown}
use Rattle.tree_links.specs.Linking.{begun, ended, ran_out, inside, one_more}
use Rattle.tree_links.specs.Leaves.{first_leaf}
use Rattle.tree_links.proofs.relink.Goals as goal
use Rattle.tree_links.proofs.relink.Goals.{then-p-eq0-via-then-p-eq0, then-p-eq0-via-else-p-eq0+then-p-n}

pub loop-init : goal.loop-init
loop-init c =
    let a = c.args in
    (refl, search rules, λ xs ls h t. begun a.n a.pages.now xs ls _ _ (omega arith) h t c.requires.1 (c.first_leaf-p.ensures ∙ ap first_leaf (pages_shown h)))

pub loop-preserved : goal.loop-preserved
loop-preserved c =
    let a = c.args in
    let l = c.loop in
    let e : a.n - l.counter ≡ suc (a.n - (l.counter + 1)) = omega arith in (
      c.set_left.auto.pages ∙ l.invariant.0,
      search rules,
      λ xs ls h t.
          let s = l.invariant.2 xs ls h t in
          one_more s c.if-p-eq0.false _ e _ _ c.requires.1 (c.right_of-next.ensures ∙ ap (λ (ys : List Page). (at ys l.p).right) (pages_shown s.pages)) c.set_left.ensures,
    )

pub returns-then-p-eq0 : goal.returns-then-p-eq0
returns-then-p-eq0 c xs ls h t =
    let a = c.args in
    let l = c.loop in
    let s = l.invariant.2 xs ls h t in
    let e : a.n - l.counter ≡ suc (a.n - (l.counter + 1)) = omega arith in
    elim c.then-p-eq0.branch [
      | then-p-eq0-via-then-p-eq0 w ↦ ended s w.if-p-eq0.true
      | then-p-eq0-via-else-p-eq0+then-p-n w ↦ absurd (omega (arith, inside s w.if-p-eq0.false _ e, w.if-p-n.true))
    ]

pub returns-after-loop : goal.returns-after-loop
returns-after-loop c xs ls h t = ran_out (c.loop.invariant.2 xs ls h t) (omega arith)
