-- `same_list`: entry by entry.
use Rattle.std.proofs.Common.{rules, arith, ◌≡◌, length, ap₂, sym, ◌∙◌, refl}
use Rattle.def_layout.specs.Entries.{same_entries}
use Rattle.codec_entries.proofs.Tests.{pairwise, used_front}
use Rattle.codec_entries.proofs.same_list.Goals as goal

pub returns : goal.returns
returns c =
    let a = c.args in
    let h : length a.es ≡ 14 = search rules in
    let g : length a.fs ≡ 14 = search rules in
    c.eq.ensures ∙ pairwise _ (λ x y. refl) _ _ ∙ sym (ap₂ same_entries (used_front a.n a.es (omega arith)) (used_front a.m a.fs (omega arith)))
