-- `page_at`: by the kind.
use borrow.Author.Rules.{rules}
use native.Mathlib.Omega.{arith}
use mathlib.Core.Path.{subst, sym}
use Prim.Native.Nat.{ℕ}
use Rattle.def_layout.specs.Pages.{at}
use Rattle.record_pages.specs.Pages.{Reads, reads_map, reads_node, with_count}
use Rattle.record_pages.proofs.page_at.Goals as goal

pub returns-in-Map : goal.returns-in-Map
returns-in-Map c = (search rules, reads_map c.args.p _ c.nth_page-x.ensures c.in-Map.is)

pub returns-in_default : goal.returns-in_default
returns-in_default c =
    let x = c.nth_page-x in (
      omega arith,
      λ xs ls h.
          subst (λ (m : ℕ). Reads (with_count m x.result) (at xs c.args.p)) (sym c.min.ensures) (reads_node c.args.p _ x.ensures c.in_default.not-Map xs ls h),
    )
