-- The desk's 136 bytes: what was written is read, and what was read writes the same bytes.
use Rattle.std.specs.Prelude.{◌≡◌, refl, ℕ, ◌+◌, ◌*◌, ◌^◌, ◌<◌, ◌≤◌, take, drop, length}
use Rattle.std.proofs.Math.Path.{ap}
use Rattle.std.proofs.Common.{ap₂, sym, ◌∙◌, length-append, take-add, take_all, drop-drop}
use native.Mathlib.Omega.{arith}
use mathlib.Core.List.{List, [], ◌++◌, append_assoc, append-nil}
use Rattle.def_layout.specs.declared.Row.{Row}
use Rattle.def_layout.specs.declared.Desk.{Desk}
use Rattle.def_layout.specs.Numbers.{be32, put32, tab, chunks}
use Rattle.def_layout.specs.Desks.{no_row, row_at, row_bytes, desk_bytes, read_row, read_desk}
use Rattle.def_layout.specs.Sizes.{desk_size}
use Rattle.law_bytes.specs.Words.{Bytes, put32_length, be32_skip, be32_put, put_be32_at}
use Rattle.law_bytes.specs.Patch.{patch, then_patch, patch_whole}
use Rattle.law_bytes.specs.Tables.{tab_is, getD_tab}
use Rattle.law_bytes.specs.Chunks.{chunks_length, chunks_split, chunks_is}

pub row_bytes_length : (r : Row) → length (row_bytes r) ≡ 16
unfolding row_bytes put32
row_bytes_length r = refl

abbrev rows_bytes : List Row → List ℕ
rows_bytes rs = chunks 8 (λ i. row_bytes (row_at rs i))

rows_length : (rs : List Row) → length (rows_bytes rs) ≡ 128
rows_length rs = chunks_length 16 8 (λ i. row_bytes (row_at rs i)) (λ i. row_bytes_length (row_at rs i))

pub desk_bytes_length : (d : Desk) → length (desk_bytes d) ≡ desk_size
unfolding desk_bytes
desk_bytes_length d =
    length-append (rows_bytes d.rows ++ put32 d.logged) (put32 d.stored)
    ∙ omega (arith, length-append (rows_bytes d.rows) (put32 d.logged), rows_length d.rows, put32_length d.logged, put32_length d.stored)

-- Every number is a 32-bit one, and there are eight rows.
pub record RowFits (r : Row) : Type 0 where
  pub batch : r.batch < 2 ^ 32
  pub last : r.last < 2 ^ 32
  pub undo : r.undo < 2 ^ 32
  pub pending : r.pending < 2 ^ 32

pub record Fits (d : Desk) : Type 0 where
  pub rows : length d.rows ≡ 8
  pub row : (i : ℕ) → RowFits (row_at d.rows i)
  pub logged : d.logged < 2 ^ 32
  pub stored : d.stored < 2 ^ 32

row_back : (r : Row) (t : List ℕ) → RowFits r
    → (be32 (row_bytes r ++ t) 0 ≡ r.batch) × (be32 (row_bytes r ++ t) 4 ≡ r.last) × (be32 (row_bytes r ++ t) 8 ≡ r.undo) × (be32 (row_bytes r ++ t) 12 ≡ r.pending)
unfolding row_bytes be32 put32
row_back r t w =
    (be32_put r.batch [] w.batch, be32_put r.last [] w.last, be32_put r.undo [] w.undo, be32_put r.pending [] w.pending)

-- The bytes from row i on, and those after the rows.
desk_from : (d : Desk) (i : ℕ) → i < 8 → (t : List ℕ) × (desk_bytes d ≡ chunks i (λ i. row_bytes (row_at d.rows i)) ++ (row_bytes (row_at d.rows i) ++ t))
unfolding desk_bytes
desk_from d i h =
    let f : ℕ → List ℕ = λ i. row_bytes (row_at d.rows i) in
    let s = chunks_split 8 i f h in (
      s.0 ++ (put32 d.logged ++ put32 d.stored),
      append_assoc (chunks 8 f) (put32 d.logged) (put32 d.stored)
          ∙ ap (λ (r : List ℕ). r ++ (put32 d.logged ++ put32 d.stored)) s.1
          ∙ simp append_assoc,
    )

desk_after : (d : Desk) → desk_bytes d ≡ rows_bytes d.rows ++ (put32 d.logged ++ put32 d.stored)
unfolding desk_bytes
desk_after d = append_assoc (rows_bytes d.rows) (put32 d.logged) (put32 d.stored)

module _ (d : Desk) (w : Fits d) where
  word_at : (i k : ℕ) → (h : i < 8) → be32 (desk_bytes d) (16 * i + k) ≡ be32 (row_bytes (row_at d.rows i) ++ (desk_from d i h).0) k
  word_at i k h =
      let f : ℕ → List ℕ = λ i. row_bytes (row_at d.rows i) in
      ap (λ (b : List ℕ). be32 b (16 * i + k)) (desk_from d i h).1
      ∙ be32_skip (chunks i f) (f i ++ (desk_from d i h).0) (16 * i) k (chunks_length 16 i f (λ i. row_bytes_length (row_at d.rows i)))

  row_read : (i : ℕ) → i < 8 → read_row (desk_bytes d) i ≡ row_at d.rows i
  unfolding read_row
  row_read i h =
      let r : Row = row_at d.rows i in
      let b = row_back r (desk_from d i h).0 (w.row i) in
      let z : 16 * i ≡ 16 * i + 0 = omega arith in
      let batch : be32 (desk_bytes d) (16 * i) ≡ r.batch = ap (λ (k : ℕ). be32 (desk_bytes d) k) z ∙ word_at i 0 h ∙ b.0 in
      let last : be32 (desk_bytes d) (16 * i + 4) ≡ r.last = word_at i 4 h ∙ b.1 in
      let undo : be32 (desk_bytes d) (16 * i + 8) ≡ r.undo = word_at i 8 h ∙ b.2 in
      let pending : be32 (desk_bytes d) (16 * i + 12) ≡ r.pending = word_at i 12 h ∙ b.3 in
      let e : read_row (desk_bytes d) i ≡ record { batch = r.batch; last = r.last; undo = r.undo; pending = r.pending } = cc in
      e

  -- READ BACK.
  pub read_desk_back : read_desk (desk_bytes d) ≡ d
  unfolding read_desk
  read_desk_back =
      let rows : tab 8 (read_row (desk_bytes d)) ≡ d.rows = tab_is 8 (read_row (desk_bytes d)) d.rows no_row w.rows row_read in
      let logged : be32 (desk_bytes d) 128 ≡ d.logged = after 0 ∙ be32_put d.logged (put32 d.stored) w.logged in
      let stored : be32 (desk_bytes d) 132 ≡ d.stored =
      after 4 ∙ be32_skip (put32 d.logged) (put32 d.stored) 4 0 (put32_length d.logged) ∙ stored_back d.stored w.stored in
      let e : read_desk (desk_bytes d) ≡ record { rows = d.rows; logged = d.logged; stored = d.stored } = cc in
      e
    where
      after : (k : ℕ) → be32 (desk_bytes d) (128 + k) ≡ be32 (put32 d.logged ++ put32 d.stored) k
      after k =
          ap (λ (b : List ℕ). be32 b (128 + k)) (desk_after d) ∙ be32_skip (rows_bytes d.rows) (put32 d.logged ++ put32 d.stored) 128 k (rows_length d.rows)

      stored_back : (x : ℕ) → x < 2 ^ 32 → be32 (put32 x) 0 ≡ x
      stored_back x h = ap (λ (b : List ℕ). be32 b 0) (sym (append-nil (put32 x))) ∙ be32_put x [] h

-- And written back.
row_written : (b : List ℕ) (i : ℕ) → Bytes b → 16 * i + 16 ≤ length b → row_bytes (read_row b i) ≡ take 16 (drop (16 * i) b)
unfolding row_bytes read_row
row_written b i w h =
    rw (put_be32_at b (16 * i) w (omega arith), put_be32_at b (16 * i + 4) w (omega arith), put_be32_at b (16 * i + 8) w (omega arith), put_be32_at b (16 * i + 12) w (omega arith))
    (sym (take-add 12 4 (drop (16 * i) b)
    ∙ ap₂ (λ (x y : List ℕ). x ++ take 4 y) (take-add 8 4 (drop (16 * i) b)
    ∙ ap₂ (λ (x y : List ℕ). x ++ take 4 y) (take-add 4 4 (drop (16 * i) b)
    ∙ ap (λ (y : List ℕ). take 4 (drop (16 * i) b) ++ take 4 y) (drop-drop 4 (16 * i) b))
    (drop-drop 8 (16 * i) b)) (drop-drop 12 (16 * i) b)))

pub desk_bytes_back : (b : List ℕ) → Bytes b → length b ≡ desk_size → desk_bytes (read_desk b) ≡ b
unfolding desk_bytes read_desk
desk_bytes_back b w h =
    ap₂ (λ (x y : List ℕ). x ++ y)
    (ap₂ (λ (x y : List ℕ). x ++ y)
    (chunks_is b 0 16 8 (λ i. row_bytes (row_at (tab 8 (read_row b)) i)) (λ i l. part i l) (omega arith))
    (put_be32_at b 128 w (omega arith)))
    (put_be32_at b 132 w (omega arith))
    ∙ sym (rw (take-add 132 4 b, take-add 128 4 b)) ∙ take_all 136 b (omega arith)
  where
    part : (i : ℕ) → i < 8 → row_bytes (row_at (tab 8 (read_row b)) i) ≡ take 16 (drop (0 + 16 * i) b)
    part i l =
        let z : 16 * i ≡ 0 + 16 * i = omega arith in
        ap row_bytes (getD_tab 8 i (read_row b) no_row l) ∙ row_written b i w (omega arith) ∙ ap (λ (k : ℕ). take 16 (drop k b)) z

-- What the program puts together, and writes one after the other.
pub row_parts : (b : List ℕ) (i x y z u : ℕ) → x ≡ be32 b (16 * i) → y ≡ be32 b (16 * i + 4) → z ≡ be32 b (16 * i + 8) → u ≡ be32 b (16 * i + 12)
    → record { batch = x; last = y; undo = z; pending = u } ≡ read_row b i
unfolding read_row
row_parts b i x y z u ex ey ez eu = rw (ex, ey, ez, eu)

pub desk_parts : (b : List ℕ) (rs : List Row) (x y : ℕ) → rs ≡ tab 8 (read_row b) → x ≡ be32 b 128 → y ≡ be32 b 132
    → record { rows = rs; logged = x; stored = y } ≡ read_desk b
unfolding read_desk
desk_parts b rs x y er ex ey = rw (er, ex, ey)

desk_whole : (b : List ℕ) (d : Desk) → length b ≡ desk_size → patch b 0 (rows_bytes d.rows ++ put32 d.logged ++ put32 d.stored) ≡ desk_bytes d
unfolding desk_bytes
desk_whole b d h = patch_whole b (desk_bytes d) (desk_bytes_length d ∙ sym h)

pub desk_written : (b s t u : List ℕ) (d : Desk) → length b ≡ desk_size → s ≡ patch b 0 (chunks 8 (λ i. row_bytes (row_at d.rows i)))
    → t ≡ patch s 128 (put32 d.logged) → u ≡ patch t 132 (put32 d.stored) → u ≡ desk_bytes d
desk_written b s t u d h e f g =
    let l = rows_length d.rows in
    let k : length (rows_bytes d.rows ++ put32 d.logged) ≡ 132 = length-append (rows_bytes d.rows) (put32 d.logged) ∙ omega (arith, put32_length d.logged) in
    let e₁ = then_patch b s t 0 128 (rows_bytes d.rows) (put32 d.logged) e f (omega arith) (omega arith) in
    then_patch b t u 0 132 (rows_bytes d.rows ++ put32 d.logged) (put32 d.stored) e₁ g (omega arith) (omega arith)
    ∙ desk_whole b d h

pub row_stores : (b s t u v : List ℕ) (at : ℕ) (r : Row) → at + 16 ≤ length b → s ≡ patch b at (put32 r.batch) → t ≡ patch s (at + 4) (put32 r.last)
    → u ≡ patch t (at + 8) (put32 r.undo) → v ≡ patch u (at + 12) (put32 r.pending) → v ≡ patch b at (row_bytes r)
unfolding row_bytes put32
row_stores b s t u v at r h e f g k =
    let x : List ℕ = put32 r.batch in
    let y : List ℕ = put32 r.last in
    let z : List ℕ = put32 r.undo in
    let e₁ = then_patch b s t at (at + 4) x y e f refl (omega arith) in
    let e₂ = then_patch b t u at (at + 8) (x ++ y) z e₁ g refl (omega arith) in
    then_patch b u v at (at + 12) (x ++ y ++ z) (put32 r.pending) e₂ k refl (omega arith)
