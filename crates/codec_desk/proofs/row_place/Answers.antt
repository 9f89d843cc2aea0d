-- `row_place`: the first row that is the batch's.
use Rattle.std.proofs.Common.{rules, ◌≡◌, length, eqb, ◌∙◌}
use Rattle.std.specs.Prelude.{Bool, ltb, cond, Some, None}
use Rattle.std.specs.List.{position_or_len}
use Rattle.std.proofs.lemmas.Iterator.Adapters.{position_from-zero}
use Rattle.std.proofs.lemmas.Iterator.Search.{position_from_yields_List}
use Rattle.std.proofs.lemmas.Iterator.{YieldsList-from_slice}
use Rattle.def_layout.specs.declared.Row.{Row}
use Rattle.codec_desk.proofs.Places.{found}
use Rattle.codec_desk.proofs.row_place.Goals as goal

pub returns : goal.returns
returns c =
    let a = c.args in
    let h : length a.rows ≡ 8 = search rules in
    let is_batch : Row → Bool = λ r. eqb r.batch a.b in
    let e : c.position.result ≡ cond (ltb (position_or_len is_batch a.rows) (length a.rows)) (Some (position_or_len is_batch a.rows)) None =
    position_from_yields_List is_batch _ _ _ c.position.ensures.ran (YieldsList-from_slice a.rows cc) (λ x b q k. search rules) in
    found a.b a.rows _ h (e ∙ position_from-zero is_batch a.rows)
