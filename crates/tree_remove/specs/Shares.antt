-- What neighbours share, and which entries stand beside the one that leads to a key: by places, as the program finds them.
use Rattle.std.specs.Prelude.{◌≡◌, refl, ℕ, zero, suc, ◌+◌, ◌-◌, ◌/◌, ◌<◌, ◌≤◌, Bool, take}
use Rattle.std.specs.Prelude as program
use Rattle.std.specs.Option.{UnwrapsOrElse}
use Rattle.std.proofs.Math.Path.{ap, sym}
use Rattle.std.proofs.Common.{ap₂, ◌∙◌, add-one, arith}
use Rattle.std.proofs.Math.Bool.{true, false}
use mathlib.Core.List.{List, [], ◌∷◌, ◌++◌}
use Rattle.std.proofs.Math.Option.{none, some}
use Rattle.std.proofs.Math.ListN.{length, drop}
use Rattle.std.proofs.Math.Seq.{take-append-add, drop-append_seam}
use Rattle.std.proofs.Math.Dec.{ltb}
use Rattle.def_base.specs.Tests.{Case, yes!, no!, case, lt_true, lt_false}
use Rattle.def_layout.specs.declared.Entry.{Entry}
use Rattle.def_layout.specs.Entries.{entry_at, no_entry, key_at, place}
use Rattle.def_model.specs.Lookup.{first_of}
use Rattle.def_model.specs.Update.{share, moved_by, next_entry, entry_before}
use Rattle.law_bytes.specs.Tables.{tab_length}
use Rattle.law_bytes.specs.EntryBytes.{used, used_in}
use Rattle.codec_entries.specs.Arrays.{used_take, getD_joined}
use Rattle.tree_lookup.specs.Answers.{option_of}
use Rattle.tree_lookup.specs.Backwards.{preceding}

-- The entries that a redistribution moves, and the left page's last key after it.
abbrev pub moved_of : List Entry → List Entry → List Entry
moved_of a b = moved_by (ltb (length a) (share a b)) a b

abbrev pub shared_key : List Entry → List Entry → ℕ
shared_key a b = key_at (a ++ b) (share a b - 1)

module _ (a b : ℕ) (es fs : List Entry) where
  long : length (used a es) ≡ a
  long = tab_length a (entry_at es)

  share_is : share (used a es) (used b fs) ≡ (a + b + 1) / 2
  share_is = ap₂ (λ (i j : ℕ). (i + j + 1) / 2) long (tab_length b (entry_at fs))

  module _ (c : ℕ) (e : c ≡ (a + b + 1) / 2) where
    share_at : share (used a es) (used b fs) ≡ c
    share_at = share_is ∙ sym e

    -- The left page gets the right one's first entries.
    pub moved_in : a < c → used (c - a) fs ≡ moved_of (used a es) (used b fs)
    unfolding moved_by
    moved_in l =
        let t : ltb (length (used a es)) (share (used a es) (used b fs)) ≡ true = lt_true (length (used a es)) (share (used a es) (used b fs)) (omega (arith, long, share_at)) in
        let z : length (used a es) + (c - a) ≡ share (used a es) (used b fs) = omega (arith, long, share_at) in
        used_take fs (c - a) b (omega arith)
        ∙ sym (drop-append_seam (used a es) (take (c - a) (used b fs)))
        ∙ ap (λ (r : List Entry). drop (length (used a es)) r) (sym (take-append-add (used a es) (used b fs) (c - a)))
        ∙ ap (λ (i : ℕ). drop (length (used a es)) (take i (used a es ++ used b fs))) z
        ∙ ap (λ (q : Bool). moved_by q (used a es) (used b fs)) (sym t)

    -- It gives its own last ones.
    pub moved_out : (l : List Entry) → c ≤ a → l ≡ drop c (used a es) → l ≡ moved_of (used a es) (used b fs)
    unfolding moved_by
    moved_out l h g =
        let t : ltb (length (used a es)) (share (used a es) (used b fs)) ≡ false = lt_false (length (used a es)) (share (used a es) (used b fs)) (omega (arith, long, share_at)) in
        g ∙ ap (λ (i : ℕ). drop i (used a es)) (sym share_at) ∙ ap (λ (q : Bool). moved_by q (used a es) (used b fs)) (sym t)

    -- The key is one of its own, or of those that it gets.
    pub key_own : (k : ℕ) → c - 1 < a → k ≡ key_at (used a es) (c - 1) → k ≡ shared_key (used a es) (used b fs)
    key_own k l g =
        let t : ltb (c - 1) (length (used a es)) ≡ true = lt_true (c - 1) (length (used a es)) (omega (arith, long)) in
        let z : entry_at (used a es ++ used b fs) (c - 1) ≡ entry_at (used a es) (c - 1) = getD_joined (used a es) (used b fs) (c - 1) ∙ rw t in
        g ∙ sym (rw share_at (ap (λ (x : Entry). x.key) z))

    pub key_got : (k : ℕ) → a ≤ c - 1 → k ≡ key_at (used b fs) (c - 1 - a) → k ≡ shared_key (used a es) (used b fs)
    key_got k l g =
        let t : ltb (c - 1) (length (used a es)) ≡ false = lt_false (c - 1) (length (used a es)) (omega (arith, long)) in
        let z : entry_at (used a es ++ used b fs) (c - 1) ≡ entry_at (used b fs) (c - 1 - a) = getD_joined (used a es) (used b fs) (c - 1) ∙ rw (t, long) in
        g ∙ sym (rw share_at (ap (λ (x : Entry). x.key) z))

-- ---- beside the entry that leads to k

pub next_here : (k : ℕ) (es : List Entry) → place k es + 1 < length es → next_entry k es ≡ some (entry_at es (place k es + 1))
unfolding place next_entry first_of
next_here k [] h = absurd (omega arith)
next_here k (e ∷ []) h = absurd (omega arith)
next_here k (e ∷ f ∷ es) h = go (case (ltb e.key k)) h (next_here k (f ∷ es))
  where
    go : Case (ltb e.key k) → place k (e ∷ f ∷ es) + 1 < suc (suc (length es))
        → (place k (f ∷ es) + 1 < suc (length es) → next_entry k (f ∷ es) ≡ some (entry_at (f ∷ es) (place k (f ∷ es) + 1)))
        → next_entry k (e ∷ f ∷ es) ≡ some (entry_at (e ∷ f ∷ es) (place k (e ∷ f ∷ es) + 1))
    go (yes! t) h again =
        let h' : suc (place k (f ∷ es)) + 1 < suc (suc (length es)) = rw t at h in
        rw (t, add-one (suc (place k (f ∷ es)))) (again (omega arith) ∙ rw (add-one (place k (f ∷ es))))
    go (no! t) h again = rw t

pub next_none : (k : ℕ) (es : List Entry) → length es ≤ place k es + 1 → next_entry k es ≡ none
unfolding place next_entry first_of
next_none k [] h = refl
next_none k (e ∷ []) h = go (case (ltb e.key k))
  where
    go : Case (ltb e.key k) → next_entry k (e ∷ []) ≡ none
    go (yes! t) = rw t
    go (no! t) = rw t
next_none k (e ∷ f ∷ es) h = go (case (ltb e.key k)) h (next_none k (f ∷ es))
  where
    go : Case (ltb e.key k) → suc (suc (length es)) ≤ place k (e ∷ f ∷ es) + 1
        → (suc (length es) ≤ place k (f ∷ es) + 1 → next_entry k (f ∷ es) ≡ none) → next_entry k (e ∷ f ∷ es) ≡ none
    go (yes! t) h again = let h' : suc (suc (length es)) ≤ suc (place k (f ∷ es)) + 1 = rw t at h in rw t (again (omega arith))
    go (no! t) h again = let h' : suc (suc (length es)) ≤ 1 = rw t at h in absurd (omega arith)

pub before_place : (k : ℕ) (d : Entry) (es : List Entry) → entry_before k d es ≡ entry_at (d ∷ es) (place k es)
unfolding place entry_before
before_place k d [] = refl
before_place k d (e ∷ es) = go (case (ltb e.key k)) (before_place k e es)
  where
    go : Case (ltb e.key k) → entry_before k e es ≡ entry_at (e ∷ es) (place k es) → entry_before k d (e ∷ es) ≡ entry_at (d ∷ e ∷ es) (place k (e ∷ es))
    go (yes! t) again = rw t again
    go (no! t) again = rw t

-- The entry before the i-th, of an array's first n, as an option or as the default entry.
pub before_is : (n i : ℕ) (es : List Entry) (o : program.Option Entry) (d : Entry) (P : Entry → Type 0) → ((x : Entry) → P x → x ≡ no_entry) → option_of o ≡ preceding i es
    → UnwrapsOrElse o P d → i ≤ n → d ≡ entry_at (no_entry ∷ used n es) i
unfolding preceding
before_is n zero es program.None d P is e u l = is d u
before_is n zero es (program.Some x) d P is e u l = cc
before_is n (suc j) es program.None d P is e u l = cc
before_is n (suc j) es (program.Some x) d P is e u l = let same : x ≡ entry_at es j = cc in u ∙ same ∙ sym (used_in n j es (omega arith))
