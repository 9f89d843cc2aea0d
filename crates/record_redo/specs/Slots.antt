-- A slot of a log area, and the record that the program reads from it.
use Rattle.std.specs.Prelude.{◌≡◌, ℕ, ◌≤◌, Bool, true, false, List, length, get_or}
use Rattle.std.proofs.Common.{ap, sym, ◌∙◌}
use Rattle.def_base.specs.Tests.{clash}
use Rattle.def_layout.specs.Records.{Rec}
use Rattle.def_layout.specs.RecordBytes.{Slot, empty, full, other, read_slot}
use Rattle.def_layout.specs.Sizes.{slot_size}
use Rattle.law_bytes.specs.Pieces.{read_all_past}
use Rattle.law_bytes.specs.LogAreas.{slots_of}
use Rattle.record_apply.specs.declared.Record.{Record}
use Rattle.record_apply.specs.Pages.{rec}

-- The program's record is the one that slot i of the area holds, if it holds one of at most 14 entries.
abbrev pub Tells : ℕ → List ℕ → ℕ → Record → Type 0
Tells m area i r = (own : ℕ) (q : Rec) → get_or (slots_of m area) i empty ≡ full own q → length q.entries ≤ 14 → rec r ≡ q

unfoldable pub is_full : Slot → Bool
is_full empty = false
is_full (full n r) = true
is_full (other b) = false

pub full_record : {m n : ℕ} {q r : Rec} → full m q ≡ full n r → q ≡ r
full_record {q = q} e = ap (λ (s : Slot). elim s [ empty ↦ q | full n r ↦ r | other b ↦ q ]) e

pub past_tells : (m i : ℕ) (area : List ℕ) (r : Record) → m ≤ i → Tells m area i r
unfolding is_full
past_tells m i area r h own q e z = clash (sym (ap is_full (sym (read_all_past slot_size read_slot m i area empty h) ∙ e)))
