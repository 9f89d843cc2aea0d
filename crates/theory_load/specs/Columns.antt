-- THE COLUMNS' RECORDS: as many as rows, rising where the keys do, and of 32 bits where the numbers are.
use Rattle.std.specs.Prelude.{ℕ, suc, ◌≡◌, refl, true, List, [], ◌∷◌, length, leb}
use Rattle.std.proofs.Common.{ap, arith}
use Rattle.def_base.specs.Tests.{every, and_true, true_le}
use Rattle.def_layout.specs.Entries.{top}
use Rattle.def_model.specs.Loading.{columns, keys_rise}
use Rattle.theory_tree.specs.Order.Keys.{Rising}
use Rattle.theory_load.specs.Fitting.{Fine}

pub columns_length : (ks vs : List ℕ) → length ks ≡ length vs → length (columns ks vs) ≡ length ks
unfolding columns
columns_length [] vs e = refl
columns_length (k ∷ ks) [] e = absurd (omega arith)
columns_length (k ∷ ks) (v ∷ vs) e = ap suc (columns_length ks vs (omega arith))

pub columns_rise : (from : ℕ) (ks vs : List ℕ) → keys_rise from ks ≡ true → Rising from (columns ks vs)
unfolding columns keys_rise Rising
columns_rise from [] vs e = tt
columns_rise from (k ∷ ks) [] e = tt
columns_rise from (k ∷ ks) (v ∷ vs) e = let (a, b) = and_true (leb from k) (keys_rise (suc k) ks) e in (true_le from k a, columns_rise (suc k) ks vs b)

pub columns_fine : (ks vs : List ℕ) → every (λ k. leb k top) ks ≡ true → every (λ v. leb v top) vs ≡ true → Fine top (columns ks vs)
unfolding columns every Fine
columns_fine [] vs e f = tt
columns_fine (k ∷ ks) [] e f = tt
columns_fine (k ∷ ks) (v ∷ vs) e f =
    let (a, b) = and_true (leb k top) (every (λ x. leb x top) ks) e in
    let (c, d) = and_true (leb v top) (every (λ x. leb x top) vs) f in
    (true_le k top a, true_le v top c, columns_fine ks vs b d)
