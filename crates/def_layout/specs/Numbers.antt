-- 01: "All fields are bit-packed, most significant first": 32-bit numbers in bytes, and lists by the rule of their elements.
use Rattle.std.specs.Prelude.{ℕ, zero, suc, ◌+◌, ◌*◌, ◌/◌, ◌%◌, Bool, true, false, ◌&&◌, List, [], ◌∷◌, ◌++◌, get_or, replicate, eqb}
use Rattle.def_layout.specs.declared.Entry.{Entry}
use Rattle.def_layout.specs.Entries.{entry, entry_at}

-- The number in the four bytes from i on.
unfoldable pub be32 : List ℕ → ℕ → ℕ
be32 s i = get_or s i 0 * 16777216 + get_or s (i + 1) 0 * 65536 + get_or s (i + 2) 0 * 256 + get_or s (i + 3) 0

-- A number as four bytes.
unfoldable pub put32 : ℕ → List ℕ
put32 x = x / 16777216 % 256 ∷ x / 65536 % 256 ∷ x / 256 % 256 ∷ x % 256 ∷ []

-- f 0, f 1 up to f (n - 1).
unfoldable pub tab : {A : Type 0} → ℕ → (ℕ → A) → List A
tab zero f = []
tab (suc n) f = tab n f ++ f n ∷ []

-- Lists in a row: f 0, f 1 up to f (n - 1).
unfoldable pub chunks : ℕ → (ℕ → List ℕ) → List ℕ
chunks zero f = []
chunks (suc n) f = chunks n f ++ f n

-- 01: "key 32, then a leaf's value 32, or an index's ..": entry i of the 14 that stand from byte `from` on.
unfoldable pub read_entry : List ℕ → ℕ → ℕ → Entry
read_entry b from i = entry (be32 b (from + 8 * i)) (be32 b (from + 8 * i + 4))

unfoldable pub entry_bytes : Entry → List ℕ
entry_bytes e = put32 e.key ++ put32 e.val

-- All 14, the unused ones zero.
unfoldable pub entries_bytes : List Entry → List ℕ
entries_bytes es = chunks 14 (λ i. entry_bytes (entry_at es i))

-- Two lists of bytes are the same.
unfoldable pub same_bytes : List ℕ → List ℕ → Bool
same_bytes [] [] = true
same_bytes [] (y ∷ ys) = false
same_bytes (x ∷ xs) [] = false
same_bytes (x ∷ xs) (y ∷ ys) = eqb x y && same_bytes xs ys

abbrev pub zeros : ℕ → List ℕ
zeros n = replicate n 0
