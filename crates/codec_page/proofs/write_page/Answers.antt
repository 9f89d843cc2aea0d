-- `write_page`: front and entries, one after the other, are the whole page.
use Rattle.codec_page.specs.Shown.{page_written}
use Rattle.codec_page.proofs.write_page.Goals as goal

pub returns : goal.returns
returns c =
    let a = c.args in
    page_written a.b.now _ _ a.p _ c.requires c.write_front.ensures c.to_write.ensures c.write_entries.ensures
