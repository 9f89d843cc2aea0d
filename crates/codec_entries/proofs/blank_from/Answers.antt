-- `blank_from`: before i all is zero, so the answer is the answer for the rest.
use Rattle.std.proofs.Common.{rules, arith, ◌≡◌, length, sym, ◌∙◌}
use Rattle.law_bytes.specs.Blank.{blank_none}
use Rattle.codec_entries.proofs.Tests.{blank_off, blank_on}
use Rattle.codec_entries.proofs.blank_from.Goals as goal

pub returns-then-ne : goal.returns-then-ne
returns-then-ne c =
    let l = c.loop-i in
    let d = c.default.ensures in
    let h : length c.args.es ≡ 14 = search rules in
    sym (l.invariant.1 ∙ blank_off _ l.i _ _ _ (omega arith) d.0 d.1 c.ne.ensures c.if-ne.true)

pub loop-i-preserved : goal.loop-i-preserved
loop-i-preserved c =
    let l = c.loop-i in
    let d = c.default.ensures in
    let h : length c.args.es ≡ 14 = search rules in
    (search rules, l.invariant.1 ∙ blank_on _ l.i _ _ _ (omega arith) d.0 d.1 c.ne.ensures c.if-ne.false)

pub returns : goal.returns
returns c =
    let l = c.loop-i in
    let h : length c.args.es ≡ 14 = search rules in
    sym (l.invariant.1 ∙ blank_none _ l.i (omega arith))
