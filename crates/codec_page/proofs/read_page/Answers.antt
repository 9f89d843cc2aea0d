-- `read_page`: the four words and the entries are the page that the bytes show.
use Rattle.codec_page.specs.Shown.{shown_parts, typed_parts}
use Rattle.codec_page.proofs.read_page.Goals as goal

pub returns : goal.returns
returns c =
    let e = shown_parts c.args.b.now _ _ _ _ _ _ c.get32-w.ensures c.from_bits.ensures c.read_entries-es.ensures c.get32.ensures c.get32-2.ensures c.get32-3.ensures in
    (typed_parts c.args.b.now _ c.requires e, e)
