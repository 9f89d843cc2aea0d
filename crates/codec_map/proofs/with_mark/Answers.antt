-- `with_mark`: one digit of one word is one mark.
use mathlib.Core.Path.{◌∙◌, ap}
use lib.ListN.{set}
use Rattle.codec_map.specs.Setting.{marks_set, mark_digit_of}
use Rattle.codec_map.specs.Turns.{marks}
use Rattle.codec_map.proofs.with_mark.Goals as goal

pub returns : goal.returns
returns c =
    let a = c.args in
    marks_set a.es c.with_word.result a.p c.map_word.result c.with_digit-w.result _ c.requires c.map_word.ensures c.with_word.ensures c.with_digit-w.ensures
    ∙ ap (set (marks a.es) a.p) (mark_digit_of a.on)
