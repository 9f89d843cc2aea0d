-- A slot that is not full: what a `let .. else` that takes a full one apart leaves to show in its `else`.
use Rattle.std.specs.Prelude.{ℕ, ◌≡◌, refl}
use Rattle.codec_slot.specs.declared.Header.{Header}
use Rattle.codec_slot.specs.declared.Header.TheVariants.{Full, Empty, Broken}

pub not_full : (P : Header → Type 0) (h : Header) → P Empty → P Broken → ((kind count level own batch previous a b c key second right : ℕ) → h ≡ Full kind count level own batch previous a b c key second right → ⊥) → P h
not_full P (Full kind count level own batch previous a b c key second right) e o n = absurd (n kind count level own batch previous a b c key second right refl)
not_full P Empty e o n = e
not_full P Broken e o n = o
