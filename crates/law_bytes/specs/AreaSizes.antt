-- What contracts ask of the lengths of lent areas.
use Rattle.std.specs.Prelude.{◌≡◌, ℕ, ◌*◌, ◌≤◌, List, length}
use Rattle.def_layout.specs.Sizes.{page_size, most_pages, slot_size, most_slots}

-- The bytes are n whole pages, and no more than there may be.
abbrev pub HasPages : ℕ → List ℕ → Type 0
HasPages n b = (length b ≡ page_size * n) × (n ≤ most_pages)

-- The bytes are m whole slots, and no more than there may be.
abbrev pub HasSlots : ℕ → List ℕ → Type 0
HasSlots m b = (length b ≡ slot_size * m) × (m ≤ most_slots)

-- Both, of pages p and a log l: the four facts in one row, as proofs take them.
abbrev pub HasAreas : ℕ → ℕ → List ℕ → List ℕ → Type 0
HasAreas n m p l = (length p ≡ page_size * n) × (n ≤ most_pages) × (length l ≡ slot_size * m) × (m ≤ most_slots)
