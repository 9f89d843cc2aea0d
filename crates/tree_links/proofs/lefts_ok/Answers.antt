-- `lefts_ok`: the answer for all leaves is the answer for those from the page at hand on.
use native.Mathlib.Omega.{arith}
use mathlib.Core.Path.{◌≡◌, refl, sym, ap, ◌∙◌}
use Prim.Native.Nat.{ℕ, suc, ◌-◌, ◌+◌}
use Rattle.def_model.specs.TreeRules.{chain}
use Rattle.def_model.specs.Links.{linked}
use Rattle.law_bytes.specs.Pieces.{read_all_length}
use Rattle.def_layout.specs.PageBytes.{page_fields}
use Rattle.law_bytes.specs.PageAreas.{pages_of, lefts_of}
use Rattle.tree_links.specs.Leaves.{first_leaf, linked_from, linked_end, linked_out, linked_on, linked_off}
use Rattle.tree_links.proofs.lefts_ok.Goals as goal

pub loop-init : goal.loop-init
loop-init c =
    let a = c.args in
    let xs = pages_of a.n a.pages.now in
    linked_from xs (lefts_of a.n a.pages.now)
    ∙ ap (λ (k : ℕ). linked 0 (chain k xs (first_leaf xs)) (lefts_of a.n a.pages.now)) (read_all_length 128 page_fields a.n a.pages.now ∙ omega arith)
    ∙ ap (λ (p : ℕ). linked 0 (chain (a.n - 0) xs p) (lefts_of a.n a.pages.now)) (sym c.first_leaf-p.ensures)

pub returns-then-left_of-before : goal.returns-then-left_of-before
returns-then-left_of-before c =
    let a = c.args in
    let l = c.loop in
    let e : a.n - l.counter ≡ suc (a.n - (l.counter + 1)) = omega arith in
    sym (l.invariant ∙ linked_off (pages_of a.n a.pages.now) (lefts_of a.n a.pages.now) l.before _ _ l.p _ e c.if-p-eq0.false refl (λ q. c.if-left_of-before.true (c.left_of.ensures ∙ q)))

pub loop-preserved : goal.loop-preserved
loop-preserved c =
    let a = c.args in
    let l = c.loop in
    let e : a.n - l.counter ≡ suc (a.n - (l.counter + 1)) = omega arith in
    l.invariant ∙ linked_on (pages_of a.n a.pages.now) (lefts_of a.n a.pages.now) l.before _ _ l.p _ e c.if-p-eq0.false c.right_of-p.ensures (sym c.left_of.ensures ∙ c.if-left_of-before.false)

pub returns-then-p-eq0 : goal.returns-then-p-eq0
returns-then-p-eq0 c = let a = c.args in let l = c.loop in sym (l.invariant ∙ linked_end (pages_of a.n a.pages.now) (lefts_of a.n a.pages.now) l.before _ l.p c.if-p-eq0.true)

pub returns-after-loop : goal.returns-after-loop
returns-after-loop c = let a = c.args in let l = c.loop in sym (l.invariant ∙ linked_out (pages_of a.n a.pages.now) (lefts_of a.n a.pages.now) l.before (a.n - l.counter) l.p (omega arith))
