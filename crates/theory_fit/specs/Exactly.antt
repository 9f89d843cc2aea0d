-- Tests that hold exactly when something is so: how such facts are put together, and those of numbers, kinds and lists of entries.
use Rattle.std.specs.Prelude.{ℕ, zero, suc, ◌≤◌, ◌<◌, ◌≡◌, refl, ◌≢◌, ◌⊎◌, Bool, true, false, not, ◌&&◌, ◌||◌, List, [], ◌∷◌, length, leb, ltb, eqb}
use Rattle.std.proofs.Common.{sym, ap, ◌∙◌, subst, inl, inr, arith}
use Rattle.std.proofs.Math.Option.{some}
use Rattle.def_base.specs.Tests.{Case, yes!, no!, case, clash, none_some, some_inj, lt_true, true_lt, true_eq, eq_true, neq_false, le_true, true_le, and_true, and_both}
use Rattle.def_layout.specs.declared.Entry.{Entry}
use Rattle.def_layout.specs.Entries.{entry, entry_at, key_at, seek, look, same_entries, ten_bits}
use Rattle.def_layout.specs.Pages.{kind_is}
use Rattle.def_layout.specs.declared.page.PageKind.{PageKind}
use Rattle.def_model.specs.Fit.{found, found_value, nowhere}
use Rattle.theory_tree.specs.Test.Sound.{kind_sound}
use Rattle.theory_tree.specs.Test.Complete.{kind_complete}
use Rattle.theory_fit.specs.Judging.{entries_self}

pub record Exactly (b : Bool) (P : Type 0) : Type 0 where
  pub so : b ≡ true → P
  pub holds : P → b ≡ true

pub both : {a b : Bool} {P Q : Type 0} → Exactly a P → Exactly b Q → Exactly (a && b) (P × Q)
both {a} {b} p q =
    record {
      so = λ t. let (u, v) = and_true a b t in (p.so u, q.so v);
      holds = λ w. and_both (p.holds w.0) (q.holds w.1);
    }

pub either : {a b : Bool} {P Q : Type 0} → Exactly a P → Exactly b Q → Exactly (a || b) (P ⊎ Q)
either {a} {b} {P} {Q} p q = record { so = so a p.so; holds = holds a p.holds }
  where
    so : (a : Bool) → (a ≡ true → P) → a || b ≡ true → P ⊎ Q
    so true f t = inl (f refl)
    so false f t = inr (q.so t)

    holds : (a : Bool) → (P → a ≡ true) → P ⊎ Q → a || b ≡ true
    holds true f w = refl
    holds false f (inl w) = clash (sym (f w))
    holds false f (inr w) = q.holds w

pub said : {b : Bool} {P Q : Type 0} → (P → Q) → (Q → P) → Exactly b P → Exactly b Q
said f g p = record { so = λ t. f (p.so t); holds = λ w. p.holds (g w) }

-- ---- numbers and kinds

pub equal : (a b : ℕ) → Exactly (eqb a b) (a ≡ b)
equal a b = record { so = true_eq a b; holds = eq_true a b }

pub at_most : (a b : ℕ) → Exactly (leb a b) (a ≤ b)
at_most a b = record { so = true_le a b; holds = le_true a b }

pub below : (a b : ℕ) → Exactly (ltb a b) (a < b)
below a b = record { so = true_lt a b; holds = lt_true a b }

pub of_kind : (k q : PageKind) → Exactly (kind_is k q) (k ≡ q)
of_kind k q = record { so = kind_sound k q; holds = λ e. subst (λ z. kind_is k z ≡ true) e (kind_complete k) }

-- ---- lists of entries

pub same : (es fs : List Entry) → Exactly (same_entries es fs) (es ≡ fs)
unfolding same_entries
same es fs = record { so = so es fs; holds = λ e. subst (λ z. same_entries es z ≡ true) e (entries_self es) }
  where
    so : (es fs : List Entry) → same_entries es fs ≡ true → es ≡ fs
    so [] [] t = refl
    so [] (f ∷ fs) t = clash (sym t)
    so (e ∷ es) [] t = clash (sym t)
    so (e ∷ es) (f ∷ fs) t =
        let (k, t₁) = and_true (eqb e.key f.key) _ t in
        let (v, t₂) = and_true (eqb e.val f.val) (same_entries es fs) t₁ in
        let k' = true_eq e.key f.key k in
        let v' = true_eq e.val f.val v in
        let r = so es fs t₂ in
        λ i. entry (k' i) (v' i) ∷ r i

-- No entry has the key, in order or not.
pub stands_nowhere : (k : ℕ) (es : List Entry) → Exactly (nowhere k es) ((i : ℕ) → i < length es → key_at es i ≢ k)
unfolding nowhere
stands_nowhere k es = record { so = so es; holds = holds es }
  where
    so : (es : List Entry) → nowhere k es ≡ true → (i : ℕ) → i < length es → key_at es i ≢ k
    so [] t i h = absurd (omega arith)
    so (e ∷ es) t zero h = λ q. let w = (and_true (not (eqb e.key k)) (nowhere k es) t).0 in clash (sym w ∙ ap not (eq_true e.key k q))
    so (e ∷ es) t (suc i) h = so es (and_true (not (eqb e.key k)) (nowhere k es) t).1 i (omega arith)

    holds : (es : List Entry) → ((i : ℕ) → i < length es → key_at es i ≢ k) → nowhere k es ≡ true
    holds [] f = refl
    holds (e ∷ es) f = rw (neq_false (f 0 (omega arith))) (holds es (λ i h. f (suc i) (omega arith)))

-- The entry that the search finds for k.
pub finds_value : (v k : ℕ) (es : List Entry) → Exactly (found_value v (look k es)) (seek k es ≡ some (entry k v))
unfolding look seek found_value
finds_value v k [] = record { so = λ t. clash (sym t); holds = λ e. none_some e }
finds_value v k (e ∷ es) = go (case (ltb e.key k)) (case (eqb k e.key)) (finds_value v k es)
  where
    go : Case (ltb e.key k) → Case (eqb k e.key) → Exactly (found_value v (look k es)) (seek k es ≡ some (entry k v))
        → Exactly (found_value v (look k (e ∷ es))) (seek k (e ∷ es) ≡ some (entry k v))
    go (yes! t) q again = rw t again
    go (no! t) (yes! q) again = rw (t, q) (record { so = λ u. let a = true_eq k e.key q in let b = true_eq e.val v u in λ i. some (entry (sym a i) (b i)); holds = λ w. eq_true e.val v (ap (λ (x : Entry). x.val) (some_inj w)) })
    go (no! t) (no! q) again = rw (t, q) (record { so = λ u. clash (sym u); holds = λ w. clash (sym (eq_true k e.key (sym (ap (λ (x : Entry). x.key) (some_inj w)))) ∙ q) })

pub finds_key : (k : ℕ) (es : List Entry) → Exactly (found (look k es)) ((v : ℕ) × (seek k es ≡ some (entry k v)))
unfolding look seek found
finds_key k [] = record { so = λ t. clash (sym t); holds = λ w. none_some w.1 }
finds_key k (e ∷ es) = go (case (ltb e.key k)) (case (eqb k e.key)) (finds_key k es)
  where
    go : Case (ltb e.key k) → Case (eqb k e.key) → Exactly (found (look k es)) ((v : ℕ) × (seek k es ≡ some (entry k v)))
        → Exactly (found (look k (e ∷ es))) ((v : ℕ) × (seek k (e ∷ es) ≡ some (entry k v)))
    go (yes! t) q again = rw t again
    go (no! t) (yes! q) again = rw (t, q) (record { so = λ u. let a = true_eq k e.key q in (e.val, λ i. some (entry (sym a i) e.val)); holds = λ w. refl })
    go (no! t) (no! q) again = rw (t, q) (record { so = λ u. clash (sym u); holds = λ w. clash (sym (eq_true k e.key (sym (ap (λ (x : Entry). x.key) (some_inj w.1)))) ∙ q) })

-- Children of ten bits.
pub of_ten_bits : (es : List Entry) → Exactly (ten_bits es) ((i : ℕ) → i < length es → (entry_at es i).val < 1024)
unfolding ten_bits
of_ten_bits es = record { so = so es; holds = holds es }
  where
    so : (es : List Entry) → ten_bits es ≡ true → (i : ℕ) → i < length es → (entry_at es i).val < 1024
    so [] t i h = absurd (omega arith)
    so (e ∷ es) t zero h = true_lt e.val 1024 (and_true (ltb e.val 1024) (ten_bits es) t).0
    so (e ∷ es) t (suc i) h = so es (and_true (ltb e.val 1024) (ten_bits es) t).1 i (omega arith)

    holds : (es : List Entry) → ((i : ℕ) → i < length es → (entry_at es i).val < 1024) → ten_bits es ≡ true
    holds [] f = refl
    holds (e ∷ es) f = rw (lt_true e.val 1024 (f 0 (omega arith))) (holds es (λ i h. f (suc i) (omega arith)))
