-- `zero_page` stands for the page that was never used.
use mathlib.Core.Path.{ap, ◌∙◌}
use Rattle.std.specs.Prelude.{replicate}
use Rattle.def_layout.specs.declared.Entry.{Entry}
use Rattle.def_layout.specs.declared.page.PageKind.TheVariants.{Free}
use Rattle.codec_page.specs.Shown.{typed_zero, program_page}
use Rattle.codec_page.specs.Typed.{typed}
use Rattle.codec_page.proofs.zero_page.Goals as goal

pub returns : goal.returns
returns c =
    ap (λ (e : Entry). typed (program_page Free 0 0 0 0 0 0 (replicate 14 e))) (λ i. record { key = c.default.ensures.0 i; val = c.default.ensures.1 i }) ∙ typed_zero
