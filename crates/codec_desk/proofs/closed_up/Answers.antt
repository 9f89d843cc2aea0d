-- `closed_up`: element by element by the rule.
use Rattle.std.proofs.Common.{rules}
use Rattle.law_bytes.specs.Eights.{closing}
use Rattle.codec_bytes.specs.Made.{made}
use Rattle.codec_desk.proofs.closed_up.Goals as goal

pub returns : goal.returns
returns g c =
    let a = c.args in
    made _ _ (closing a.last a.xs a.i) 8 a.last (λ j y q h k. search rules) c.from_fn.result c.from_fn.ensures.items
