-- 01's sizes, each once.
use Rattle.std.specs.Prelude.{ℕ}

-- "Pages are 128 bytes, 16 to 896 of them."
abbrev pub page_size : ℕ
page_size = 128

abbrev pub least_pages : ℕ
least_pages = 16

abbrev pub most_pages : ℕ
most_pages = 896

-- "Log slots are 144 bytes, 64 to 16,384."
abbrev pub slot_size : ℕ
slot_size = 144

abbrev pub least_slots : ℕ
least_slots = 64

abbrev pub most_slots : ℕ
most_slots = 16384

-- "14 entries of 64 bits".
abbrev pub room : ℕ
room = 14

-- "there the desk is 136 bytes".
abbrev pub desk_size : ℕ
desk_size = 136
