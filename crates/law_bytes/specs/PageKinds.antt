-- What depends on a page's kind, by the kind's number: 0 to 2 have entries, 3 has marks.
use Rattle.std.specs.Prelude.{◌≡◌, List, [], eqb}
use Rattle.std.proofs.Math.Path.{refl, ap}
use Rattle.std.proofs.Common.{sym, ◌∙◌, arith, lit<}
use Prim.Native.Nat.{ℕ, zero, suc, ◌/◌, ◌%◌, ◌<◌, ◌≤◌}
use Rattle.std.proofs.Math.Decide.{dec_lt}
use denote.Enum.Bare.{sameb}
use Rattle.def_base.specs.Tests.{neq_false}
use Rattle.def_layout.specs.Numbers.{be32, tab, read_entry, entries_bytes}
use Rattle.def_layout.specs.Pages.{Page, page_kind, page_kind_number, kind_is, map_bits}
use Rattle.def_layout.specs.contracts.page.PageKind.{the_type}
use Rattle.def_layout.specs.declared.page.PageKind.{PageKind}
use Rattle.def_layout.specs.declared.page.PageKind.TheVariants.{Free, Leaf, Index, Map}
use Rattle.def_layout.specs.PageBytes.{read_entries, read_marks, read_mark, page_body, marks_bytes}

pub kind_back : (k : PageKind) → page_kind (page_kind_number k) ≡ k
unfolding page_kind page_kind_number
kind_back Free = refl
kind_back Leaf = refl
kind_back Index = refl
kind_back Map = refl

pub kind_lt : (k : PageKind) → page_kind_number k < 4
unfolding page_kind_number
kind_lt Free = lit< tt
kind_lt Leaf = lit< tt
kind_lt Index = lit< tt
kind_lt Map = lit< tt

-- The program compares two kinds.
pub same_kind : (k l : PageKind) → sameb the_type k l ≡ kind_is k l
unfolding kind_is page_kind_number
same_kind Free Free = refl
same_kind Free Leaf = refl
same_kind Free Index = refl
same_kind Free Map = refl
same_kind Leaf Free = refl
same_kind Leaf Leaf = refl
same_kind Leaf Index = refl
same_kind Leaf Map = refl
same_kind Index Free = refl
same_kind Index Leaf = refl
same_kind Index Index = refl
same_kind Index Map = refl
same_kind Map Free = refl
same_kind Map Leaf = refl
same_kind Map Index = refl
same_kind Map Map = refl

pub number_node : (q : ℕ) → q < 3 → page_kind_number (page_kind q) ≡ q
unfolding page_kind page_kind_number
number_node zero h = refl
number_node (suc zero) h = refl
number_node (suc (suc zero)) h = refl
number_node (suc (suc (suc q))) h = absurd (omega arith)

pub kind_map : (q : ℕ) → 3 ≤ q → page_kind q ≡ Map
unfolding page_kind
kind_map zero h = absurd (omega arith)
kind_map (suc zero) h = absurd (omega arith)
kind_map (suc (suc zero)) h = absurd (omega arith)
kind_map (suc (suc (suc q))) h = refl

pub number_map : (q : ℕ) → 3 ≤ q → page_kind_number (page_kind q) ≡ 3
unfolding page_kind_number
number_map q h = ap page_kind_number (kind_map q h)

-- The program asks for a kind by its number.
pub kind_tested : (q k : ℕ) → k < 3 → eqb q k ≡ kind_is (page_kind q) (page_kind k)
unfolding kind_is
kind_tested q k h =
    elim (dec_lt q 3) [
      | yes l ↦ sym (rw (number_node q l, number_node k h))
      | no l ↦
          neq_false (λ (e : q ≡ k). omega arith)
          ∙ sym (rw (number_map q (omega arith), number_node k h) (neq_false (λ (e : 3 ≡ k). omega arith)))
    ]

module _ (b : List ℕ) where
  pub read_entries_node : (q : ℕ) → q < 3 → read_entries (page_kind q) b ≡ tab (be32 b 0 / 4194304 % 16) (read_entry b 16)
  unfolding page_kind read_entries
  read_entries_node zero h = refl
  read_entries_node (suc zero) h = refl
  read_entries_node (suc (suc zero)) h = refl
  read_entries_node (suc (suc (suc q))) h = absurd (omega arith)

  pub read_entries_map : (q : ℕ) → 3 ≤ q → read_entries (page_kind q) b ≡ []
  unfolding read_entries
  read_entries_map q h = ap (λ (k : PageKind). read_entries k b) (kind_map q h)

  pub read_marks_node : (q : ℕ) → q < 3 → read_marks (page_kind q) b ≡ []
  unfolding page_kind read_marks
  read_marks_node zero h = refl
  read_marks_node (suc zero) h = refl
  read_marks_node (suc (suc zero)) h = refl
  read_marks_node (suc (suc (suc q))) h = absurd (omega arith)

  pub read_marks_map : (q : ℕ) → 3 ≤ q → read_marks (page_kind q) b ≡ tab map_bits (read_mark b)
  unfolding read_marks
  read_marks_map q h = ap (λ (k : PageKind). read_marks k b) (kind_map q h)

pub page_body_node : (q : ℕ) (x : Page) → q < 3 → page_body (page_kind q) x ≡ entries_bytes x.entries
unfolding page_kind page_body
page_body_node zero x h = refl
page_body_node (suc zero) x h = refl
page_body_node (suc (suc zero)) x h = refl
page_body_node (suc (suc (suc q))) x h = absurd (omega arith)

pub page_body_map : (q : ℕ) (x : Page) → 3 ≤ q → page_body (page_kind q) x ≡ marks_bytes x.marks
unfolding page_body
page_body_map q x h = ap (λ (k : PageKind). page_body k x) (kind_map q h)
