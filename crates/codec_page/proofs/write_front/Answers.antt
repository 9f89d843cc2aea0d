-- `write_front`: four words in a row are one patch.
use borrow.Author.Rules.{rules}
use mathlib.Core.Path.{refl}
use Rattle.def_layout.specs.Numbers.{put32}
use Rattle.def_layout.specs.PageBytes.{page_front}
use Rattle.law_bytes.specs.Patch.{then_patch}
use Rattle.codec_page.specs.Typed.{typed}
use Rattle.codec_page.proofs.write_front.Goals as goal

pub returns : goal.returns
unfolding page_front put32 typed
returns c =
    rw (← c.pack_front.ensures)
    (then_patch _ _ _ _ 12 _ (put32 _)
    (then_patch _ _ _ _ 8 _ (put32 _)
    (then_patch _ _ _ 0 4 (put32 _) (put32 _) c.set32.ensures c.set32-2.ensures refl (search rules))
    c.set32-3.ensures refl (search rules))
    c.set32-4.ensures refl (search rules))
