-- Fourteen entries in 112 bytes: what was written is read, and what was read writes the same bytes.
use Rattle.std.specs.Prelude.{◌≡◌, ℕ, ◌+◌, ◌*◌, ◌^◌, ◌<◌, ◌≤◌, List, ◌++◌, take, drop, length}
use Rattle.std.proofs.Math.Path.{ap, sym}
use Rattle.std.proofs.Common.{ap₂, ◌∙◌, add_assoc, arith, append_assoc, lit<, length-append, take-add, drop-drop}
use Rattle.std.proofs.Math.Decide.{dec_lt}
use Rattle.std.proofs.Math.Seq.{take_all}
use Rattle.def_layout.specs.declared.Entry.{Entry}
use Rattle.def_layout.specs.Entries.{entry, entry_at, no_entry}
use Rattle.def_layout.specs.Numbers.{be32, put32, tab, chunks, read_entry, entry_bytes, entries_bytes}
use Rattle.law_bytes.specs.Words.{Bytes, part, put32_length, be32_skip, be32_put, be32_past, be32_lt, put_be32_at}
use Rattle.law_bytes.specs.Tables.{getD_tab, getD_tab_past}
use Rattle.law_bytes.specs.Chunks.{chunks_length, chunks_at, chunks_is}

-- The first n of 14 entries: those in use.
abbrev pub used : ℕ → List Entry → List Entry
used n es = tab n (entry_at es)

-- Both numbers of an entry are 32-bit.
abbrev pub EntryFits : Entry → Type 0
EntryFits e = (e.key < 2 ^ 32) × (e.val < 2 ^ 32)

pub entry_bytes_length : (e : Entry) → length (entry_bytes e) ≡ 8
unfolding entry_bytes
entry_bytes_length e = length-append (put32 e.key) (put32 e.val) ∙ omega (arith, put32_length e.key, put32_length e.val)

pub entries_bytes_length : (es : List Entry) → length (entries_bytes es) ≡ 112
unfolding entries_bytes
entries_bytes_length es = chunks_length 8 14 (λ i. entry_bytes (entry_at es i)) (λ i. entry_bytes_length (entry_at es i))

-- Entries that stand behind a front of m bytes.
pub read_entry_skip : (p s : List ℕ) (m i : ℕ) → length p ≡ m → read_entry (p ++ s) m i ≡ read_entry s 0 i
unfolding read_entry
read_entry_skip p s m i e =
    let z : 8 * i ≡ 0 + 8 * i = omega arith in
    let k : 8 * i + 4 ≡ 0 + 8 * i + 4 = omega arith in
    ap₂ (λ (x y : ℕ). entry x y)
    (be32_skip p s m (8 * i) e ∙ ap (λ (j : ℕ). be32 s j) z)
    (ap (λ (j : ℕ). be32 (p ++ s) j) (add_assoc m (8 * i) 4) ∙ be32_skip p s m (8 * i + 4) e ∙ ap (λ (j : ℕ). be32 s j) k)

-- An entry that was written is read.
pub read_entry_written : (es : List Entry) (i : ℕ) → i < 14 → EntryFits (entry_at es i) → read_entry (entries_bytes es) 0 i ≡ entry_at es i
unfolding read_entry entries_bytes entry_bytes
read_entry_written es i h w =
    let f : ℕ → List ℕ = λ i. entry_bytes (entry_at es i) in
    let e : Entry = entry_at es i in
    let k = chunks_at 8 14 i 0 f (λ i. entry_bytes_length (entry_at es i)) h in
    let v = chunks_at 8 14 i 4 f (λ i. entry_bytes_length (entry_at es i)) h in
    let kz : 0 + 8 * i ≡ 8 * i + 0 = omega arith in
    let vz : 0 + 8 * i + 4 ≡ 8 * i + 4 = omega arith in
    let key : be32 (chunks 14 f) (0 + 8 * i) ≡ e.key =
    ap (λ (j : ℕ). be32 (chunks 14 f) j) kz ∙ k.1 ∙ ap (λ (r : List ℕ). be32 r 0) (append_assoc (put32 e.key) (put32 e.val) k.0) ∙ be32_put e.key (put32 e.val ++ k.0) w.0 in
    let val : be32 (chunks 14 f) (0 + 8 * i + 4) ≡ e.val =
    ap (λ (j : ℕ). be32 (chunks 14 f) j) vz ∙ v.1 ∙ ap (λ (r : List ℕ). be32 r 4) (append_assoc (put32 e.key) (put32 e.val) v.0)
    ∙ be32_skip (put32 e.key) (put32 e.val ++ v.0) 4 0 (put32_length e.key) ∙ be32_put e.val v.0 w.1 in
    ap₂ (λ (x y : ℕ). entry x y) key val

-- Past the end of the bytes an entry reads as none.
pub read_entry_past : (b : List ℕ) (m i : ℕ) → length b ≤ m + 8 * i → read_entry b m i ≡ no_entry
unfolding read_entry
read_entry_past b m i h = ap₂ (λ (x y : ℕ). entry x y) (be32_past b (m + 8 * i) h) (be32_past b (m + 8 * i + 4) (omega arith))

pub read_entry_fits : (b : List ℕ) (m i : ℕ) → Bytes b → EntryFits (read_entry b m i)
unfolding read_entry
read_entry_fits b m i w = (be32_lt b (m + 8 * i) w, be32_lt b (m + 8 * i + 4) w)

-- What was read writes the same bytes.
entry_bytes_read : (b : List ℕ) (m i : ℕ) → Bytes b → m + 8 * i + 8 ≤ length b → entry_bytes (read_entry b m i) ≡ part b (m + 8 * i) 8
unfolding entry_bytes read_entry
entry_bytes_read b m i w h =
    ap₂ (λ (x y : List ℕ). x ++ y) (put_be32_at b (m + 8 * i) w (omega arith)) (put_be32_at b (m + 8 * i + 4) w (omega arith))
    ∙ sym (take-add 4 4 (drop (m + 8 * i) b) ∙ ap (λ (r : List ℕ). take 4 (drop (m + 8 * i) b) ++ take 4 r) (drop-drop 4 (m + 8 * i) b))

module _ (b : List ℕ) (m n : ℕ) where
  -- Entries that are not in use are zero.
  abbrev pub Unused : Type 0
  Unused = (i : ℕ) → n ≤ i → i < 14 → read_entry b m i ≡ no_entry

  pub entries_read : Bytes b → length b ≡ m + 112 → Unused → take m b ++ entries_bytes (tab n (read_entry b m)) ≡ b
  unfolding entries_bytes
  entries_read w h u =
      chunks_is b m 8 14 (λ i. entry_bytes (entry_at (tab n (read_entry b m)) i)) (λ i l. ap entry_bytes (same i l) ∙ entry_bytes_read b m i w (omega arith)) (omega arith)
      ∙ take_all (m + 8 * 14) b (omega arith)
    where
      same : (i : ℕ) → i < 14 → entry_at (tab n (read_entry b m)) i ≡ read_entry b m i
      same i l =
          elim (dec_lt i n) [
            | yes q ↦ getD_tab n i (read_entry b m) no_entry q
            | no q ↦ getD_tab_past n i (read_entry b m) no_entry (omega arith) ∙ sym (u i (omega arith) l)
          ]

  -- And only then: bytes that the entries in use write have nothing in the others.
  pub entries_unused : (p : List ℕ) → length p ≡ m → p ++ entries_bytes (tab n (read_entry b m)) ≡ b → Unused
  entries_unused p h e i l q =
      let z : entry_at (tab n (read_entry b m)) i ≡ no_entry = getD_tab_past n i (read_entry b m) no_entry l in
      ap (λ (r : List ℕ). read_entry r m i) (sym e)
      ∙ read_entry_skip p (entries_bytes (tab n (read_entry b m))) m i h
      ∙ read_entry_written (tab n (read_entry b m)) i q (rw z (lit< tt, lit< tt))
      ∙ z

-- Entry i of those in use, as the program picks it.
pub used_in : (n i : ℕ) (es : List Entry) → i < n → entry_at (used n es) i ≡ entry_at es i
used_in n i es h = getD_tab n i (entry_at es) no_entry h

pub used_past : (n i : ℕ) (es : List Entry) → n ≤ i → entry_at (used n es) i ≡ no_entry
used_past n i es h = getD_tab_past n i (entry_at es) no_entry h
