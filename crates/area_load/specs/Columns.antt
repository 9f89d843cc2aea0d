-- Two columns, as the program has them, and the page that they give by its number.
use Rattle.std.specs.Prelude.{ℕ, zero, suc, ◌+◌, ◌≤◌, ◌<◌, ◌≡◌, refl, List, [], ◌∷◌, ◌++◌, length, get_or, drop}
use Rattle.std.proofs.Common.{sym, ap, ◌∙◌, subst, arith}
use Rattle.std.proofs.Math.ListN.{get_or-append}
use Rattle.def_base.specs.Tests.{lt_true, lt_false}
use Rattle.def_layout.specs.declared.Entry.{Entry}
use Rattle.def_layout.specs.Entries.{entry, entry_at, no_entry, top}
use Rattle.def_layout.specs.Numbers.{tab}
use Rattle.def_layout.specs.Pages.{Page, at, map_bits}
use Rattle.def_model.specs.Loading.{columns, loaded_count, loaded_pages}
use Rattle.law_bytes.specs.Tables.{tab_length, tab_same, getD_tab}
use Rattle.theory_load.specs.Columns.{columns_length}
use Rattle.theory_load.specs.Rungs.{count_up, under, key_or_top, level_entry}

-- As long as each other, and not too long for the pages of a register.
pub record Columns (keys values : List ℕ) : Type 0 where
  pub same : length keys ≡ length values
  pub few : suc (loaded_count (length keys)) ≤ map_bits

-- Page p, of as many pages as are used or more.
abbrev pub loaded_page : List Entry → ℕ → Page
loaded_page es p = at (loaded_pages (suc (loaded_count (length es))) es) p

pub row_at : (ks vs : List ℕ) (i : ℕ) → length ks ≡ length vs → i < length ks → entry_at (columns ks vs) i ≡ entry (get_or ks i 0) (get_or vs i 0)
unfolding columns
row_at [] vs i e h = absurd (omega arith)
row_at (k ∷ ks) [] i e h = absurd (omega arith)
row_at (k ∷ ks) (v ∷ vs) zero e h = refl
row_at (k ∷ ks) (v ∷ vs) (suc i) e h = row_at ks vs i (omega arith) (omega arith)

pub key_of : (ks vs : List ℕ) (i : ℕ) → length ks ≡ length vs → i < length ks → get_or ks i 0 ≡ key_or_top (columns ks vs) i
key_of ks vs i e h = let n = columns_length ks vs e in rw (lt_true i (length (columns ks vs)) (omega arith)) (sym (ap (λ x. x.key) (row_at ks vs i e h)))

pub top_past : (ks vs : List ℕ) (i : ℕ) → length ks ≡ length vs → length ks ≤ i → top ≡ key_or_top (columns ks vs) i
top_past ks vs i e h = let n = columns_length ks vs e in rw (lt_false i (length (columns ks vs)) (omega arith)) refl

-- ---- entries

pub count_none : (h n i : ℕ) → h ≡ 0 → i < count_up h n → i < n
unfolding count_up
count_none h n i e l = subst (λ k. i < count_up k n) e l

-- At the leaves a row, above them the key of a record.
pub row_entry : (ks vs : List ℕ) (h below i : ℕ) → length ks ≡ length vs → h ≡ 0 → i < length ks → entry (get_or ks i 0) (get_or vs i 0) ≡ level_entry (columns ks vs) h below i
unfolding level_entry
row_entry ks vs h below i s e l = rw e (sym (row_at ks vs i s l))

pub link_entry : (ks vs : List ℕ) (h below i u k : ℕ) → length ks ≡ length vs → 0 < h → u ≡ under (length ks) h i → k ≡ key_or_top (columns ks vs) u → entry k (below + i) ≡ level_entry (columns ks vs) h below i
unfolding level_entry
link_entry ks vs zero below i u k s h a b = absurd (omega arith)
link_entry ks vs (suc h) below i u k s p a b = ap (λ x. entry x (below + i)) (b ∙ ap (key_or_top (columns ks vs)) (a ∙ ap (λ n. under n (suc h) i) (sym (columns_length ks vs s))))

-- The entries of a page are filled in from the front: what is behind them in the array does not count.
pub filled : (n : ℕ) (f : ℕ → Entry) (l k : List Entry) → n ≤ length l → k ≡ tab n f ++ drop n l → tab n (entry_at k) ≡ tab n f
filled n f l k h e =
    tab_same n (entry_at k) f
    (λ i m. ap (λ es. entry_at es i) e ∙ get_or-append (tab n f) (drop n l) no_entry i (let t = tab_length n f in omega arith) ∙ getD_tab n i f no_entry m)
