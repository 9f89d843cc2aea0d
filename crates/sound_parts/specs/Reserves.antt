-- The reserves on plain numbers: slots in use, free pages, pending updates and open batches; and which numbers those are.
use Rattle.std.specs.Prelude.{◌≡◌, ◌≢◌, ℕ, suc, ◌+◌, ◌-◌, ◌*◌, ◌<◌, ◌≤◌, Bool, true, false, ◌&&◌, length, take, leb}
use Rattle.std.proofs.Math.Path.{refl, ap, sym}
use Rattle.std.proofs.Common.{◌∙◌, add-one, length-take}
use native.Mathlib.Omega.{arith}
use mathlib.Core.List.{List, [], ◌∷◌}
use Rattle.std.proofs.Math.Seq.{take-nil}
use Rattle.def_base.specs.Tests.{le_true, le_false}
use Rattle.def_layout.specs.Pages.{Page, at}
use Rattle.def_layout.specs.declared.page.PageKind.TheVariants.{Map}
use Rattle.def_layout.specs.PageBytes.{page_fields}
use Rattle.def_layout.specs.Sizes.{page_size}
use Rattle.def_layout.specs.Records.{Rec}
use Rattle.def_model.specs.Log.{slots_used}
use Rattle.def_model.specs.Batches.{Batch, pending_count}
use Rattle.def_model.specs.TreeRules.{ones, free_pages}
use Rattle.def_model.specs.Sound.{reserve, reserves_ok, update_slots, update_pages}
use Rattle.law_bytes.specs.Pieces.{read_all_length}
use Rattle.codec_page.specs.declared.Page as program
use Rattle.codec_page.specs.Typed.{typed, used_marks_node}
use Rattle.codec_page.specs.Shown.{typed_marks}
use Rattle.law_bytes.specs.PageAreas.{pages_of}
use Rattle.codec_map.specs.Turns.{marks}

-- ---- the formulas

abbrev pub reserves_by : ℕ → ℕ → ℕ → ℕ → ℕ → Bool
reserves_by slots free used pending batches = leb (used + reserve pending batches) slots && leb (7 * pending) free

abbrev pub update_slots_by : ℕ → ℕ → ℕ → ℕ → Bool
update_slots_by slots used pending batches = leb (used + update_slots + reserve (suc pending) batches) slots

abbrev pub update_pages_by : ℕ → ℕ → Bool
update_pages_by free pending = leb (update_pages + 7 * suc pending) free

abbrev pub begin_slots_by : ℕ → ℕ → ℕ → ℕ → Bool
begin_slots_by slots used pending batches = leb (used + 1 + reserve pending (suc batches)) slots

-- THE NUMBERS: those of a log and its open batches.
module _ (slots : ℕ) (pages : List Page) (log : List Rec) (batches : List Batch) where
  pub reserves_are : reserves_ok slots pages log batches ≡ reserves_by slots (free_pages pages) (slots_used log) (pending_count batches) (length batches)
  unfolding reserves_ok
  reserves_are = refl

-- The sums as they are coded.
pub update_slots_sum : (slots used pending batches : ℕ)
    → leb (used + 32 + (32 * (pending + 1) + 2 * batches)) slots ≡ update_slots_by slots used pending batches
unfolding reserve
update_slots_sum slots used pending batches = rw (add-one pending)

pub update_pages_sum : (free pending : ℕ) → leb (7 + 7 * (pending + 1)) free ≡ update_pages_by free pending
update_pages_sum free pending = rw (add-one pending)

pub begin_slots_sum : (slots used pending batches : ℕ)
    → leb (used + 1 + (32 * pending + 2 * (batches + 1))) slots ≡ begin_slots_by slots used pending batches
unfolding reserve
begin_slots_sum slots used pending batches = rw (add-one batches)

module _ (slots free used pending batches : ℕ) where
  pub slots_short : slots < used + (32 * pending + 2 * batches) → reserves_by slots free used pending batches ≡ false
  unfolding reserve
  slots_short h = rw (le_false (used + (32 * pending + 2 * batches)) slots h)

  pub pages_decide : used + (32 * pending + 2 * batches) ≤ slots → reserves_by slots free used pending batches ≡ leb (7 * pending) free
  unfolding reserve
  pages_decide h = rw (le_true (used + (32 * pending + 2 * batches)) slots h)

-- ---- free pages

module _ (n : ℕ) (b : List ℕ) (x : program.Page) (e : typed x ≡ at (pages_of n b) 0) where
  free_by : (m : List Bool) → (typed x).marks ≡ m → free_pages (pages_of n b) ≡ n - ones (take n m)
  free_by m q = rw (read_all_length page_size page_fields n b) (ap (λ (l : List Bool). n - ones (take n l)) (ap (λ (y : Page). y.marks) (sym e) ∙ q))

  -- A page 0 that is not the map marks nothing.
  pub free_all : x.kind ≢ Map → n ≡ free_pages (pages_of n b)
  unfolding typed ones
  free_all k = let z : n - 0 ≡ n = omega arith in sym (free_by [] (used_marks_node x.entries x.kind k) ∙ rw (take-nil {A = Bool} n) z)

  pub free_rest : (u : ℕ) → x.kind ≡ Map → u ≡ ones (take n (marks x.entries)) → n - u ≡ free_pages (pages_of n b)
  free_rest u k eu = ap (λ (i : ℕ). n - i) eu ∙ sym (free_by (marks x.entries) (typed_marks x k))

-- No more pages are used than there are.
ones_le : (m : List Bool) → ones m ≤ length m
unfolding ones
ones_le [] = omega arith
ones_le (true ∷ m) = omega (arith, ones_le m)
ones_le (false ∷ m) = omega (arith, ones_le m)

pub used_le : (n u : ℕ) (m : List Bool) → u ≡ ones (take n m) → u ≤ n
used_le n u m e = omega (arith, e, ones_le (take n m), length-take n m)
