-- `children_fit`: child by child.
use Rattle.std.proofs.Common.{rules, tests, arith, ◌≡◌, length, take, ap, sym, ◌∙◌, nat_lt}
use Rattle.std.proofs.lemmas.Iterator.{YieldsList-from_slice}
use Rattle.std.proofs.lemmas.Iterator.Search.{all_from_yields_List}
use Rattle.def_layout.specs.declared.Entry.{Entry}
use Rattle.def_layout.specs.Entries.{ten_bits}
use Rattle.codec_entries.proofs.Tests.{all_ten, used_front}
use Rattle.codec_entries.proofs.children_fit.Goals as goal

pub returns : goal.returns
returns c =
    let a = c.args in
    let h : length a.es ≡ 14 = search rules in
    all_from_yields_List (λ (e : Entry). nat_lt e.val 1024) _ _ _ c.all.ensures.ran (YieldsList-from_slice (take a.n a.es) cc) (λ x b q k. search (rules, tests))
    ∙ all_ten (take a.n a.es)
    ∙ sym (ap ten_bits (used_front a.n a.es (omega arith)))
