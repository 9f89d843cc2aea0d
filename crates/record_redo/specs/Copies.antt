-- An area that becomes another one from the front on: what a copy part by part has done so far.
use Rattle.std.specs.Prelude.{◌≡◌, drop}
use Rattle.std.proofs.Math.Path.{ap, sym}
use Rattle.std.proofs.Common.{◌∙◌, arith, take-add, take_all}
use Prim.Native.Nat.{ℕ, ◌+◌, ◌≤◌}
use mathlib.Core.List.{List, ◌++◌}
use Rattle.std.proofs.Math.ListN.{length, take, length-append}
use Rattle.std.proofs.Math.Seq.{take_at, take-length, length-take-le}
use Rattle.law_bytes.specs.Words.{part}
use Rattle.law_bytes.specs.Patch.{patch, part_length, patch_length}

-- The first a bytes of `to` are those of `s`.
abbrev pub Copied : ℕ → List ℕ → List ℕ → Type 0
Copied a s to = take a to ≡ take a s

module _ (s to after : List ℕ) (a k : ℕ) (same : length to ≡ length s) (within : a + k ≤ length s) (one : after ≡ patch to a (part s a k)) (before : Copied a s to) where
  -- The next k bytes too.
  pub copied_on : (e : ℕ) → e ≡ a + k → Copied e s after
  unfolding patch
  copied_on e z =
      let w : List ℕ = part s a k in
      let l : length (take a to ++ w) ≡ e = length-append (take a to) w ∙ omega (arith, length-take-le a to (omega arith), part_length s a k within) in
      ap (take e) one ∙ take_at (take a to ++ w) (drop (a + length w) to) e l ∙ ap (λ (x : List ℕ). x ++ w) before ∙ sym (take-add a k s) ∙ ap (λ (j : ℕ). take j s) (sym z)

  -- All the rest.
  pub copied_whole : a + k ≡ length s → after ≡ s
  copied_whole z =
      let l : length after ≡ length s = ap length one ∙ patch_length to a (part s a k) (omega (arith, part_length s a k within)) ∙ same in
      sym (take_all (length s) after (omega arith)) ∙ copied_on (length s) (sym z) ∙ take-length s
