-- A LOADING THAT IS NOT REFUSED makes an origin of the columns' records, for the pages that it was lent.
use Prim.Native.Nat.{ℕ, suc, ◌≤◌}
use Rattle.std.specs.Prelude.{◌≡◌, true, List, [], eqb}
use Rattle.std.proofs.Math.Path.{sym, subst}
use native.Mathlib.Omega.{arith}
use Rattle.std.proofs.Math.Option.{none}
use Rattle.std.proofs.Math.ListN.{length}
use Rattle.std.proofs.Math.Dec.{leb}
use Rattle.def_base.specs.Tests.{any, every, and_true, true_eq, true_le}
use Rattle.def_layout.specs.declared.Entry.{Entry}
use Rattle.def_layout.specs.declared.Desk.{Desk}
use Rattle.def_layout.specs.Entries.{top}
use Rattle.def_layout.specs.Pages.{map_bits}
use Rattle.def_model.specs.declared.Refusal.TheVariants.{ColumnsDiffer, ZeroKey, NotRising, PagesShort}
use Rattle.def_model.specs.Answers.{check, first_broken, passed}
use Rattle.def_model.specs.Areas.{Areas}
use Rattle.def_model.specs.Loading.{columns, keys_rise, loaded_count, loaded_pages}
use Rattle.def_model.specs.Calls.{load_checks}
use Rattle.def_model.specs.OnBytes.{start, load, checks, start_checks, outcome}
use Rattle.def_recovery.specs.Events.{of_32_bits, start_32}
use Rattle.theory_refusals.specs.Order.{passed_does}
use Rattle.theory_history.specs.Origin.{Origin, origin_pages}
use Rattle.theory_calls.specs.Checks.{none_broken, kept_check}
use Rattle.theory_load.specs.LoadedOrigin.{loaded_origin, loaded_slides, loaded_least, loaded_is}
use Rattle.theory_load.specs.Columns.{columns_length, columns_rise, columns_fine}

-- Pages of which an origin is the start.
pub record Starts (es : List Entry) (n : ℕ) : Type 0 where
  pub origin : Origin
  pub slides_are : origin.slides ≡ es
  pub enough : origin.least ≤ n
  pub pages_are : loaded_pages n es ≡ origin_pages origin n

-- What the columns keep where no check is broken.
pub record Kept (ks vs : List ℕ) (n : ℕ) : Type 0 where
  pub same : length ks ≡ length vs
  pub rise : keys_rise 0 ks ≡ true
  pub enough : suc (loaded_count (length ks)) ≤ n

pub load_kept : (ks vs : List ℕ) (a : Areas) → first_broken (load_checks ks vs a) ≡ none → Kept ks vs (length a.work.pages)
unfolding load_checks
load_kept ks vs a e =
    let n = length a.work.pages in
    let (e₁, q₁) = kept_check (eqb (length ks) (length vs)) ColumnsDiffer _ e in
    let (e₂, q₂) = none_broken (check (any (λ k. eqb k 0) ks) ZeroKey) _ q₁ in
    let (e₃, q₃) = kept_check (keys_rise 0 ks) NotRising _ q₂ in
    let (e₄, q₄) = kept_check (leb (suc (loaded_count (length ks))) n) PagesShort [] q₃ in
    record { same = true_eq (length ks) (length vs) e₁; rise = e₃; enough = true_le (suc (loaded_count (length ks))) n e₄ }

module _ (ks vs : List ℕ) (a : Areas) (d : Desk) (p : passed (outcome (start (load ks vs)) a d).answer ≡ true) where
  -- None of its checks is broken.
  pub load_passes : first_broken (load_checks ks vs a) ≡ none
  unfolding checks start_checks
  load_passes = (passed_does (start (load ks vs)) a d p).0

  pub load_starts : of_32_bits (start (load ks vs)) ≡ true → length a.work.pages ≤ map_bits → Starts (columns ks vs) (length a.work.pages)
  unfolding of_32_bits start_32
  load_starts fits most =
      let n = length a.work.pages in
      let es = columns ks vs in
      let k = load_kept ks vs a load_passes in
      let (f₁, f₂) = and_true (every (λ k. leb k top) ks) (every (λ v. leb v top) vs) fits in
      let len : length es ≡ length ks = columns_length ks vs k.same in
      let enough : suc (loaded_count (length es)) ≤ n = subst (λ q. suc (loaded_count q) ≤ n) (sym len) k.enough in
      let few : suc (loaded_count (length es)) ≤ map_bits = omega arith in
      let r = columns_rise 0 ks vs k.rise in
      let f = columns_fine ks vs f₁ f₂ in
      record { origin = loaded_origin es few r f; slides_are = loaded_slides es few r f; enough = subst (◌≤ n) (sym (loaded_least es few r f)) enough; pages_are = sym (loaded_is es few r f n enough most) }
