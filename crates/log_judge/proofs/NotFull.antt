-- A slot that is not full holds no record: what the `let .. else` that takes a full one apart leaves to show in its `else`.
use Rattle.std.specs.Prelude.{ℕ, ◌≡◌, refl, List}
use Rattle.std.proofs.Common.{arith}
use Rattle.def_layout.specs.declared.Entry.{Entry}
use Rattle.def_layout.specs.Records.{Rec}
use Rattle.def_layout.specs.RecordBytes.{Slot, full}
use Rattle.codec_slot.specs.declared.Header.{Header}
use Rattle.codec_slot.specs.declared.Header.TheVariants.{Full, Empty, Broken}
use Rattle.codec_slot.specs.Typed.{typed_by}

pub no_record : (h : Header) (b : List ℕ) (es : List Entry) (s : Slot) → ((kind count level own batch previous a b c key second right : ℕ) → h ≡ Full kind count level own batch previous a b c key second right → ⊥) → typed_by b h es ≡ s
    → (own : ℕ) (x : Rec) → s ≡ full own x → ⊥
unfolding typed_by
no_record (Full kind count level own batch previous a b c key second right) bytes es s h e n x q = h kind count level own batch previous a b c key second right refl
no_record Empty bytes es s h e n x q = let z : ◌≡◌ {A = ℕ} 0 1 = cc in omega arith
no_record Broken bytes es s h e n x q = let z : ◌≡◌ {A = ℕ} 0 1 = cc in omega arith
