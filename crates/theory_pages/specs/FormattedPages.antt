-- The pages of a formatted register: free pages are clean, and every page keeps its layout.
use Rattle.std.specs.Prelude.{ℕ, zero, suc, ◌-◌, ◌≡◌, refl, true, false, length, get_or, drop, replicate}
use Rattle.std.proofs.Common.{sym, ap, subst, arith}
use Rattle.def_base.specs.Tests.{clash, any}
use Rattle.def_layout.specs.Pages.{zero_page, own_ok, layout_by, layout}
use Rattle.def_model.specs.Calls.{formatted_pages}
use Rattle.theory_fit.specs.Clean.{Clean}
use Rattle.theory_pages.specs.Layout.{Laid, never_used_layout}

rest_zero : (n p : ℕ) → get_or (replicate n zero_page) p zero_page ≡ zero_page
rest_zero zero p = refl
rest_zero (suc n) zero = refl
rest_zero (suc n) (suc p) = rest_zero n p

pub formatted_clean : (n : ℕ) → Clean (formatted_pages n)
unfolding formatted_pages
formatted_clean n zero h f = clash f
formatted_clean n (suc zero) h f = clash f
formatted_clean n (suc (suc p)) h f = ap (λ x. x.kind) (rest_zero (n - 2) p)

none_marked : (n k : ℕ) → any (λ b. b) (drop k (replicate n false)) ≡ false
unfolding any
none_marked zero zero = refl
none_marked zero (suc k) = refl
none_marked (suc n) zero = none_marked n zero
none_marked (suc n) (suc k) = none_marked n k

pub formatted_laid : (n : ℕ) → Laid (formatted_pages n)
unfolding formatted_pages layout layout_by own_ok
formatted_laid n zero h = rw (none_marked 894 (length (replicate (n - 2) zero_page)))
formatted_laid n (suc zero) h = refl
formatted_laid n (suc (suc p)) h =
    subst (λ x. layout (length (formatted_pages n)) (suc (suc p)) x ≡ true) (sym (rest_zero (n - 2) p)) (never_used_layout (length (formatted_pages n)) (suc (suc p)) (omega arith))
