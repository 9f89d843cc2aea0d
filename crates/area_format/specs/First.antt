-- The root of a register without slides, as the program has it.
use Rattle.std.specs.Prelude.{◌≡◌, refl, [], replicate}
use Rattle.def_layout.specs.Entries.{top, no_entry}
use Rattle.def_layout.specs.Numbers.{tab}
use Rattle.def_layout.specs.Pages.{node_at}
use Rattle.def_layout.specs.declared.page.PageKind.TheVariants.{Leaf}
use Rattle.codec_page.specs.declared.Page as program
use Rattle.codec_page.specs.Shown.{program_page}
use Rattle.codec_page.specs.Typed.{typed, used_entries, used_marks}

abbrev pub program_root : program.Page
program_root = program_page Leaf 0 0 0 top 0 1 (replicate 14 no_entry)

pub typed_root : typed program_root ≡ node_at 1 0 0 top []
unfolding typed used_entries used_marks tab
typed_root = refl
