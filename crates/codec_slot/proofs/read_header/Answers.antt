-- `read_header`: the eight words are the header that the bytes show.
use Rattle.codec_slot.specs.Shown.{header_parts}
use Rattle.codec_slot.proofs.read_header.Goals as goal

pub returns : goal.returns
returns c =
    header_parts c.args.b.now _ _ _ _ _ _ _ _ c.get32-w.ensures c.get32-pages.ensures c.get32.ensures
    c.get32-2.ensures c.get32-3.ensures c.get32-4.ensures c.get32-5.ensures c.get32-6.ensures
