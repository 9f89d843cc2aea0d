-- Entries in a list, as a page and a log record have them; the slides as a sorted list are such a list too.
use Rattle.std.specs.Prelude.{ℕ, suc, Bool, true, false, ◌&&◌, List, [], ◌∷◌, get_or, ltb, eqb}
use Rattle.std.proofs.Math.Option.{Option, none, some}
use Rattle.def_base.specs.Tests.{pick}
use Rattle.def_layout.specs.declared.Entry.{Entry}

-- 01: "'top' is 4,294,967,295".
abbrev pub top : ℕ
top = 4294967295

abbrev pub entry : ℕ → ℕ → Entry
entry k v = record { key = k; val = v }

abbrev pub no_entry : Entry
no_entry = entry 0 0

abbrev pub entry_at : List Entry → ℕ → Entry
entry_at es i = get_or es i no_entry

abbrev pub key_at : List Entry → ℕ → ℕ
key_at es i = (entry_at es i).key

-- SEARCH IN A PAGE: the place of the first entry whose key is not below k, or the count if there is none. Linear, so that it has an
-- answer on forged pages too, whose keys may not rise. Every other search below goes by the same test, entry by entry.
unfoldable pub place : ℕ → List Entry → ℕ
place k [] = 0
place k (e ∷ es) = pick (ltb e.key k) (suc (place k es)) 0

-- The first entry whose key is not below k.
unfoldable pub seek : ℕ → List Entry → Option Entry
seek k [] = none
seek k (e ∷ es) = pick (ltb e.key k) (seek k es) (some e)

-- The value filed under k.
unfoldable pub look : ℕ → List Entry → Option ℕ
look k [] = none
look k (e ∷ es) = pick (ltb e.key k) (look k es) (pick (eqb k e.key) (some e.val) none)

-- The list with one entry more, or one less.
unfoldable pub insert_sorted : ℕ → ℕ → List Entry → List Entry
insert_sorted k v [] = entry k v ∷ []
insert_sorted k v (e ∷ es) = pick (ltb e.key k) (e ∷ insert_sorted k v es) (entry k v ∷ e ∷ es)

unfoldable pub remove_key : ℕ → List Entry → List Entry
remove_key k [] = []
remove_key k (e ∷ es) = pick (ltb e.key k) (e ∷ remove_key k es) (pick (eqb k e.key) es (e ∷ es))

-- Two lists of entries are the same.
unfoldable pub same_entries : List Entry → List Entry → Bool
same_entries [] [] = true
same_entries [] (f ∷ fs) = false
same_entries (e ∷ es) [] = false
same_entries (e ∷ es) (f ∷ fs) = eqb e.key f.key && (eqb e.val f.val && same_entries es fs)

-- 01: "an index's spare 22 and child 10": nothing stands above the child's ten bits.
unfoldable pub ten_bits : List Entry → Bool
ten_bits [] = true
ten_bits (e ∷ es) = ltb e.val 1024 && ten_bits es
