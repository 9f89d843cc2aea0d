-- `size_of`: by the kind.
use Rattle.codec_page.specs.Shown.{typed_entries, map_entries}
use borrow.Author.Rules.{rules}
use Rattle.codec_page.proofs.size_of.Goals as goal

pub returns-in-Map : goal.returns-in-Map
returns-in-Map c = (map_entries c.args.x c.in-Map.is, search rules)

pub returns-in_default : goal.returns-in_default
returns-in_default c = (typed_entries c.args.x c.in_default.not-Map, search rules)
