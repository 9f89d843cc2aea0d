-- `get_desk`: the rows are the table of what is read row by row.
use Rattle.std.proofs.Common.{rules}
use Rattle.def_layout.specs.Desks.{no_row, read_row}
use Rattle.law_bytes.specs.DeskBytes.{desk_parts}
use Rattle.codec_bytes.specs.Made.{made}
use Rattle.codec_desk.proofs.get_desk.Goals as goal

pub returns : goal.returns
returns c =
    let b = c.args.b.now in
    let m = made _ _ (read_row b) 8 no_row (λ j y q h k. search rules) c.from_fn.result c.from_fn.ensures.items in
    desk_parts b _ _ _ m c.get32.ensures c.get32-2.ensures
