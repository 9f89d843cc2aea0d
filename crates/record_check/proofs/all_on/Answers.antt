-- `all_on`: entry by entry.
use Rattle.std.proofs.Common.{rules, arith, ◌≡◌, length, take, ap, sym, ◌∙◌}
use Rattle.std.proofs.lemmas.Iterator.{YieldsList-from_slice}
use Rattle.std.proofs.lemmas.Iterator.Search.{all_from_yields_List}
use Rattle.def_base.specs.Tests.{every}
use Rattle.def_layout.specs.declared.Entry.{Entry}
use Rattle.codec_entries.proofs.Tests.{used_front}
use Rattle.record_check.proofs.Every.{all_every}
use Rattle.record_check.specs.Kept.{on_side}
use Rattle.record_check.proofs.all_on.Goals as goal

pub returns : goal.returns
returns c =
    let a = c.args in
    let h : length a.es ≡ 14 = search rules in
    all_from_yields_List (λ (e : Entry). on_side a.low a.key e.key) _ _ _ c.all.ensures.ran (YieldsList-from_slice (take a.n a.es) cc) (λ x b q k. search rules)
    ∙ all_every _ (take a.n a.es)
    ∙ sym (ap (every (λ e. on_side a.low a.key e.key)) (used_front a.n a.es (omega arith)))
