-- `get_row`: four numbers are a row.
use Rattle.law_bytes.specs.DeskBytes.{row_parts}
use Rattle.codec_desk.proofs.get_row.Goals as goal

pub returns : goal.returns
returns c = row_parts c.args.b.now c.args.i _ _ _ _ c.get32.ensures c.get32-2.ensures c.get32-3.ensures c.get32-4.ensures
