-- The program's page of a height.
use Rattle.std.specs.Prelude.{ℕ, ◌≡◌, Bool, true, false, List, [], eqb}
use Rattle.std.proofs.Common.{ap, ap₂, sym, ◌∙◌}
use Rattle.def_base.specs.Tests.{pick}
use Rattle.def_layout.specs.declared.Entry.{Entry}
use Rattle.def_layout.specs.Entries.{entry_at}
use Rattle.def_layout.specs.Numbers.{tab}
use Rattle.def_layout.specs.Pages.{Page, kind_at, node_at}
use Rattle.def_layout.specs.declared.page.PageKind.{PageKind}
use Rattle.def_layout.specs.declared.page.PageKind.TheVariants.{Leaf, Index, Map}
use Rattle.codec_page.specs.Shown.{program_page}
use Rattle.codec_page.specs.Typed.{typed, used_entries_node, used_marks_node}

-- No height has the map's kind.
no_map : (b : Bool) → pick b Leaf Index ≡ Map → ⊥
no_map true e = cc
no_map false e = cc

pub node_typed : (k : PageKind) (h n right high p : ℕ) (es : List Entry) → k ≡ kind_at h → typed (program_page k h n right high 0 p es) ≡ node_at p h right high (tab n (entry_at es))
unfolding typed
node_typed k h n right high p es e =
    let l : k ≡ Map → ⊥ = λ m. no_map (eqb h 0) (sym e ∙ m) in
    ap₂ (λ (xs : List Entry) ms. record { kind = k; level = h; right = right; high = high; lsn = 0; own = p; entries = xs; marks = ms }) (used_entries_node n es k l) (used_marks_node es k l)
    ∙ ap (λ q. record { kind = q; level = h; right = right; high = high; lsn = 0; own = p; entries = tab n (entry_at es); marks = [] }) e
