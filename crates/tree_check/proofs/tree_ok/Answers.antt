-- `tree_ok`: no map, a map that does not mark itself, or the walk.
use mathlib.Core.Path.{sym, ◌∙◌}
use borrow.Author.Tests.{not-true, not-false}
use Rattle.def_layout.specs.PageBytes.{page_fields}
use Rattle.law_bytes.specs.Pieces.{read_all_length}
use Rattle.law_bytes.specs.PageAreas.{pages_of}
use Rattle.tree_check.specs.Nodes.{not_a_map, marks_are, itself_unmarked, by_walk}
use Rattle.tree_check.proofs.tree_ok.Goals as goal

pub returns-in_default : goal.returns-in_default
returns-in_default c =
    let a = c.args in
    not_a_map (pages_of a.n a.pages.now) _ c.nth_page-x.ensures c.in_default.not-Map

pub returns-then-not-marked : goal.returns-then-not-marked
returns-then-not-marked c =
    let a = c.args in
    itself_unmarked (pages_of a.n a.pages.now) _ c.nth_page-x.ensures c.in-Map.is (sym c.marked.ensures ∙ not-true _ c.if-not-marked.true-raw)

pub levels_ok-requires : goal.levels_ok-requires
levels_ok-requires c =
    let s = c in
    (s.requires, marks_are (pages_of s.args.n s.args.pages.now) _ c.nth_page-x.ensures c.in-Map.is)

pub returns : goal.returns
returns c =
    let s = c in
    let a = s.args in
    c.levels_ok.ensures
    ∙ by_walk (pages_of a.n a.pages.now) _ c.nth_page-x.ensures c.in-Map.is a.n (read_all_length 128 page_fields a.n a.pages.now) s.requires.1
    (sym c.marked.ensures ∙ not-false _ c.if-not-marked.false-raw)
