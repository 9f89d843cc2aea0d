-- A key among all entries, and the order of two lists, as the program tests them.
use Rattle.std.specs.Prelude.{◌≡◌, ℕ, ◌+◌, ◌<◌, ◌≤◌, true, false, List, drop, leb}
use Rattle.std.proofs.Math.Path.{sym}
use Rattle.std.proofs.Common.{ap, arith}
use Rattle.def_base.specs.Tests.{eq_true, neq_false}
use Rattle.def_layout.specs.declared.Entry.{Entry}
use Rattle.def_layout.specs.Entries.{key_at}
use Rattle.law_bytes.specs.EntryBytes.{used}
use Rattle.codec_entries.specs.Turns.{used_cons, used_rest_none}
use Rattle.def_model.specs.Fit.{after, nowhere, in_order}

module _ (es : List Entry) (n k : ℕ) where
  pub nowhere_more : (i : ℕ) → i < n → (key_at es i ≡ k → ⊥) → nowhere k (drop i (used n es)) ≡ nowhere k (drop (i + 1) (used n es))
  unfolding nowhere
  nowhere_more i h o = rw (used_cons es n i h, nowhere, neq_false o)

  pub nowhere_here : (i : ℕ) → i < n → key_at es i ≡ k → nowhere k (drop i (used n es)) ≡ false
  unfolding nowhere
  nowhere_here i h q = rw (used_cons es n i h, nowhere, eq_true (key_at es i) k q)

  pub nowhere_none : (i : ℕ) → n ≤ i → nowhere k (drop i (used n es)) ≡ true
  unfolding nowhere
  nowhere_none i h = rw (used_rest_none es n i h)

module _ (xs : List Entry) (m : ℕ) (fs : List Entry) where
  pub in_order_none : m ≡ 0 → true ≡ in_order xs (used m fs)
  unfolding in_order
  in_order_none e = sym (ap (in_order xs) (used_rest_none fs m 0 (omega arith)))

  pub in_order_is : (m ≡ 0 → ⊥) → leb (after 0 xs) (key_at fs 0) ≡ in_order xs (used m fs)
  unfolding in_order
  in_order_is o = sym (ap (in_order xs) (used_cons fs m 0 (omega arith)))
