-- The bytes of a leaf: an entry put in, or taken out, is a patch of the rest.
use Rattle.std.specs.Prelude.{◌≡◌, take}
use Rattle.std.proofs.Math.Path.{ap, ap₂}
use Rattle.std.proofs.Common.{sym, ◌∙◌, add_assoc, suc-add, length-append, take_at, take-take, drop-drop}
use Prim.Native.Nat.{ℕ, zero, suc, ◌+◌, ◌-◌, ◌*◌, ◌<◌, ◌≤◌}
use native.Mathlib.Omega.{arith}
use mathlib.Core.List.{List, [], ◌∷◌, ◌++◌, append_assoc, append-nil}
use Rattle.std.proofs.Math.ListN.{length, drop}
use Rattle.std.proofs.Math.Seq.{take-nil, drop-append-add}
use Rattle.def_layout.specs.declared.Entry.{Entry}
use Rattle.def_layout.specs.Entries.{entry_at}
use Rattle.def_layout.specs.Numbers.{chunks, entry_bytes, entries_bytes}
use Rattle.law_bytes.specs.Words.{part}
use Rattle.law_bytes.specs.Patch.{patch}
use Rattle.law_bytes.specs.Chunks.{chunks_length, chunks_same}
use Rattle.law_bytes.specs.EntryBytes.{entry_bytes_length}

drop_take : (n m : ℕ) (s : List ℕ) → drop n (take (n + m) s) ≡ take m (drop n s)
drop_take zero m s = let e : 0 + m ≡ m = omega arith in ap (λ (k : ℕ). take k s) e
drop_take (suc n) m [] = rw suc-add (sym (take-nil m))
drop_take (suc n) m (x ∷ s) = rw suc-add (drop_take n m s)

-- A part of a part.
pub part_within : (s : List ℕ) (a n i m : ℕ) → i + m ≤ n → part (part s a n) i m ≡ part s (a + i) m
part_within s a n i m h =
    let e : n ≡ i + (n - i) = omega arith in
    ap (λ (k : ℕ). part (take k (drop a s)) i m) e
    ∙ ap (take m) (drop_take i (n - i) (drop a s)) ∙ take-take m (n - i) (drop i (drop a s)) (omega arith) ∙ ap (take m) (drop-drop i a s)

-- Chunks, and further ones.
pub chunks_add : (a b : ℕ) (f : ℕ → List ℕ) → chunks (a + b) f ≡ chunks a f ++ chunks b (λ u. f (a + u))
unfolding chunks
chunks_add a zero f = let e : a + 0 ≡ a = omega arith in rw e (sym (append-nil (chunks a f)))
chunks_add a (suc b) f =
    let e : a + suc b ≡ suc (a + b) = omega arith in
    rw e (ap (λ (r : List ℕ). r ++ f (a + b)) (chunks_add a b f) ∙ append_assoc (chunks a f) (chunks b (λ u. f (a + u))) (f (a + b)))

-- The bytes of entry u, and of entry i + u.
abbrev pub each : List Entry → ℕ → List ℕ
each es u = entry_bytes (entry_at es u)

abbrev pub from : List Entry → ℕ → ℕ → List ℕ
from es i u = each es (i + u)

each_length : (es : List Entry) (c : ℕ) → length (chunks c (each es)) ≡ 8 * c
each_length es c = chunks_length 8 c (each es) (λ u. entry_bytes_length (entry_at es u))

from_length : (es : List Entry) (i c : ℕ) → length (chunks c (from es i)) ≡ 8 * c
from_length es i c = chunks_length 8 c (from es i) (λ u. entry_bytes_length (entry_at es (i + u)))

-- All fourteen, cut at i and at i + c.
three : (es : List Entry) (i c d : ℕ) → i + (c + d) ≡ 14 → entries_bytes es ≡ chunks i (each es) ++ (chunks c (from es i) ++ chunks d (from es (i + c)))
unfolding entries_bytes
three es i c d e =
    ap (λ (n : ℕ). chunks n (each es)) (sym e) ∙ chunks_add i (c + d) (each es)
    ∙ ap (λ (r : List ℕ). chunks i (each es) ++ r)
    (chunks_add c d (from es i) ∙ ap (λ (r : List ℕ). chunks c (from es i) ++ r) (chunks_same d (λ u. from es i (c + u)) (from es (i + c)) (λ u h. ap (each es) (sym (add_assoc i c u)))))

module _ (front : List ℕ) (size : length front ≡ 16) (es : List Entry) (i c : ℕ) (within : i + c ≤ 14) where
  abbrev d : ℕ
  d = 14 - (i + c)

  -- What stands before entry i, and the rest.
  abbrev before : List ℕ
  before = front ++ chunks i (each es)

  before_length : length before ≡ 16 + 8 * i
  before_length = length-append front (chunks i (each es)) ∙ omega (arith, each_length es i)

  cut : front ++ entries_bytes es ≡ before ++ (chunks c (from es i) ++ chunks d (from es (i + c)))
  cut =
      let e : i + (c + d) ≡ 14 = omega arith in
      ap (λ (r : List ℕ). front ++ r) (three es i c d e) ∙ sym (append_assoc front (chunks i (each es)) (chunks c (from es i) ++ chunks d (from es (i + c))))

  -- THE PART of c entries from the i-th on.
  pub entries_part : part (front ++ entries_bytes es) (16 + 8 * i) (8 * c) ≡ chunks c (from es i)
  entries_part =
      let z : 16 + 8 * i ≡ length before + 0 = omega (arith, before_length) in
      ap (λ (b : List ℕ). part b (16 + 8 * i) (8 * c)) cut
      ∙ ap (λ (n : ℕ). take (8 * c) (drop n (before ++ (chunks c (from es i) ++ chunks d (from es (i + c)))))) z
      ∙ ap (take (8 * c)) (drop-append-add before (chunks c (from es i) ++ chunks d (from es (i + c))) 0)
      ∙ take_at (chunks c (from es i)) (chunks d (from es (i + c))) (8 * c) (from_length es i c)

  -- A PATCH of c entries from the i-th on, where the others are the same.
  pub entries_patched : (fs : List Entry) → ((u : ℕ) → u < i → entry_at fs u ≡ entry_at es u) → ((u : ℕ) → i + c ≤ u → entry_at fs u ≡ entry_at es u)
      → patch (front ++ entries_bytes es) (16 + 8 * i) (chunks c (from fs i)) ≡ front ++ entries_bytes fs
  unfolding patch
  entries_patched fs low high =
      let e : i + (c + d) ≡ 14 = omega arith in
      let rest : List ℕ = chunks c (from es i) ++ chunks d (from es (i + c)) in
      let k : 16 + 8 * i + length (chunks c (from fs i)) ≡ length before + 8 * c = omega (arith, before_length, from_length fs i c) in
      let same_low : chunks i (each es) ≡ chunks i (each fs) = chunks_same i (each es) (each fs) (λ u h. ap entry_bytes (sym (low u h))) in
      let same_high : chunks d (from es (i + c)) ≡ chunks d (from fs (i + c)) = chunks_same d (from es (i + c)) (from fs (i + c)) (λ u h. ap entry_bytes (sym (high (i + c + u) (omega arith)))) in
      ap (λ (b : List ℕ). patch b (16 + 8 * i) (chunks c (from fs i))) cut
      ∙ ap₂ (λ (x y : List ℕ). x ++ chunks c (from fs i) ++ y)
      (take_at before rest (16 + 8 * i) before_length)
      (ap (λ (n : ℕ). drop n (before ++ rest)) k ∙ drop-append-add before rest (8 * c) ∙ after)
      ∙ append_assoc before (chunks c (from fs i)) (chunks d (from es (i + c)))
      ∙ ap₂ (λ (x y : List ℕ). (front ++ x) ++ (chunks c (from fs i) ++ y)) same_low same_high
      ∙ append_assoc front (chunks i (each fs)) (chunks c (from fs i) ++ chunks d (from fs (i + c)))
      ∙ ap (λ (r : List ℕ). front ++ r) (sym (three fs i c d e))
    where
      after : drop (8 * c) (chunks c (from es i) ++ chunks d (from es (i + c))) ≡ chunks d (from es (i + c))
      after =
          let z : 8 * c ≡ length (chunks c (from es i)) + 0 = omega (arith, from_length es i c) in
          ap (λ (n : ℕ). drop n (chunks c (from es i) ++ chunks d (from es (i + c)))) z ∙ drop-append-add (chunks c (from es i)) (chunks d (from es (i + c))) 0
