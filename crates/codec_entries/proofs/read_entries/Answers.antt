-- `read_entries`: the table of what is read entry by entry.
use Rattle.std.proofs.Common.{rules}
use Rattle.def_layout.specs.Entries.{no_entry}
use Rattle.def_layout.specs.Numbers.{read_entry}
use Rattle.codec_bytes.specs.Made.{made}
use Rattle.codec_entries.proofs.read_entries.Goals as goal

pub returns : goal.returns
returns c =
    let a = c.args in
    made _ _ (read_entry a.b.now a.from) 14 no_entry (λ j y q h k. search rules) c.from_fn.result c.from_fn.ensures.items
