-- A log: its slots, and their bytes.
use Rattle.std.specs.Prelude.{◌≡◌, ℕ, ◌*◌, List, length}
use Rattle.def_layout.specs.RecordBytes.{Slot, read_slot, slot_bytes}
use Rattle.def_layout.specs.Sizes.{slot_size}
use Rattle.law_bytes.specs.Pieces.{read_all, write_all, write_read_all}
use Rattle.law_bytes.specs.RecordBytes.{slot_bytes_back}

abbrev pub slots_of : ℕ → List ℕ → List Slot
slots_of n s = read_all slot_size read_slot n s

abbrev pub slots_bytes : List Slot → List ℕ
slots_bytes xs = write_all slot_bytes xs

-- Whatever a log holds, its slots write it again.
pub slots_back : (n : ℕ) (s : List ℕ) → length s ≡ slot_size * n → slots_bytes (slots_of n s) ≡ s
slots_back n s h = write_read_all slot_size read_slot slot_bytes slot_bytes_back n s h
