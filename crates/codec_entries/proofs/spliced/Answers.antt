-- `spliced`: element by element by the rule.
use Rattle.std.proofs.Common.{rules}
use Rattle.def_layout.specs.Entries.{no_entry}
use Rattle.codec_bytes.specs.Made.{made}
use Rattle.codec_entries.specs.Arrays.{splice}
use Rattle.codec_entries.proofs.spliced.Goals as goal

pub returns : goal.returns
returns c =
    let a = c.args in
    made _ _ (splice a.es a.i a.fs a.k) 14 no_entry (λ j y q h k. search rules) c.from_fn.result c.from_fn.ensures.items
