-- `slide_made`: by the kind's number.
use borrow.Author.Rules.{rules}
use mathlib.Core.Path.{◌≡◌, ap}
use Rattle.def_layout.specs.Records.{kind_of, insert, delete}
use Rattle.record_leaf.specs.Leaves.{does_as}
use Rattle.record_leaf.proofs.slide_made.Goals as goal

pub returns-then-kind-eq2 : goal.returns-then-kind-eq2
unfolding kind_of
returns-then-kind-eq2 c =
    let a = c.args in
    let e : kind_of a.kind ≡ insert = ap kind_of c.if-kind-eq2.true in
    does_as a.own a.k a.v a.b.now e c.file_slide.ensures

pub returns : goal.returns
unfolding kind_of
returns c =
    let a = c.args in
    let z : a.kind ≡ 3 = search rules in
    let e : kind_of a.kind ≡ delete = ap kind_of z in
    does_as a.own a.k a.v a.b.now e c.strike_slide.ensures
