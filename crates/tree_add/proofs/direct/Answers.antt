-- `direct`: the child is reached directly, or linked first.
use mathlib.Core.Path.{◌∙◌, ap}
use native.Mathlib.Omega.{arith}
use Rattle.def_layout.specs.Pages.{Page}
use Rattle.def_model.specs.Update.{make_room}
use Rattle.def_model.specs.Lookup.{entry_for}
use Rattle.tree_add.specs.Rooms.{direct_stays, direct_links}
use Rattle.tree_add.proofs.direct.Goals as goal

pub returns-then-q-e : goal.returns-then-q-e
returns-then-q-e c s h =
    let a = c.args in
    let q = c.page_at-x.ensures.1 s.pages s.lefts h.pages in
    direct_stays h a.k a.p _ _ (c.entry_for-e.ensures ∙ ap (λ (y : Page). entry_for a.k y.entries) q.is) (c.page_at-q.ensures.1 s.pages s.lefts h.pages) c.if-q-e.true

pub link_child-u-requires : goal.link_child-u-requires
link_child-u-requires c =
    let p = c.requires in
    (omega (arith, p, c.make_room-a.auto.wp), p.1, omega (arith, p, c.make_room-a.auto.wl), p.3)

pub half-requires : goal.half-requires
half-requires c = let p = c.requires in (omega (arith, p, c.make_room-a.auto.wp, c.link_child-u.auto.wp), p.1)

pub returns : goal.returns
returns c s h =
    let a = c.args in
    let q = c.page_at-x.ensures.1 s.pages s.lefts h.pages in
    let e = c.entry_for-e.result in
    let r = c.make_room-a.ensures s h in
    direct_links h a.k a.p e _ (c.entry_for-e.ensures ∙ ap (λ (y : Page). entry_for a.k y.entries) q.is) (c.page_at-q.ensures.1 s.pages s.lefts h.pages)
    c.make_room-a.result _ _ (omega (arith, c.if-q-e.false)) r.page
    (c.link_child-u.ensures (make_room a.k a.p s).run r.run)
    (λ y w. c.half.ensures y.pages y.lefts w.pages)
