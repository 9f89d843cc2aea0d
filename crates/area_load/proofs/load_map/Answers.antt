-- `load_map`: after i turns the first i entries have their words.
use borrow.Author.Rules.{rules}
use native.Mathlib.Omega.{arith}
use mathlib.Core.Path.{refl, ap, ap₂, ◌∙◌}
use Rattle.def_layout.specs.Entries.{entry}
use Rattle.law_bytes.specs.Tables.{tab_none, tab_step, tab_end}
use Rattle.def_layout.specs.declared.page.PageKind.TheVariants.{Map}
use Rattle.codec_page.specs.Shown.{program_page}
use Rattle.codec_page.specs.Typed.{typed}
use Rattle.area_load.specs.Maps.{typed_used}
use Rattle.area_load.proofs.load_map.Goals as goal

pub loop-i-init : goal.loop-i-init
loop-i-init c = (search rules, tab_none _ _)

pub loop-i-preserved : goal.loop-i-preserved
loop-i-preserved c =
    let l = c.loop-i in
    (omega arith, tab_step l.i _ _ _ _ (omega arith) l.invariant.1 (ap₂ entry c.map_word-key.ensures c.map_word.ensures))

pub returns : goal.returns
returns c =
    let l = c.loop-i in
    ap (λ es. typed (program_page Map 0 0 0 0 0 0 es)) (tab_end 14 l.i _ _ _ refl (omega arith) l.invariant.1) ∙ typed_used c.args.used (omega arith)
