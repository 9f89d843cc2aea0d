-- `layout_ok`: by the kind.
use mathlib.Core.Path.{sym, ◌∙◌}
use Rattle.codec_page.specs.Layouts.{layout_free, layout_leaf, layout_index, layout_map}
use Rattle.codec_page.proofs.layout_ok.Goals as goal

pub returns-in-Free : goal.returns-in-Free
returns-in-Free c =
    let a = c.args in
    c.free_ok.ensures ∙ sym (layout_free a.n a.p a.x c.in-Free.is)

pub returns-in-Leaf : goal.returns-in-Leaf
returns-in-Leaf c =
    let a = c.args in
    c.leaf_ok.ensures ∙ sym (layout_leaf a.n a.p a.x c.in-Leaf.is)

pub returns-in-Index : goal.returns-in-Index
returns-in-Index c =
    let a = c.args in
    c.index_ok.ensures ∙ sym (layout_index a.n a.p a.x c.in-Index.is)

pub returns-in-Map : goal.returns-in-Map
returns-in-Map c =
    let a = c.args in
    c.map_ok.ensures ∙ sym (layout_map a.n a.p a.x c.in-Map.is)
