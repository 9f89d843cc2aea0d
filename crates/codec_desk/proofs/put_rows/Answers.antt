-- `put_rows`: after i turns the first i rows are written.
use borrow.Author.Rules.{rules}
use native.Mathlib.Omega.{arith}
use Prim.Native.Nat.{ℕ, ◌+◌, ◌*◌}
use mathlib.Core.Path.{◌≡◌, refl, ◌∙◌, ap}
use Rattle.def_layout.specs.Numbers.{chunks}
use Rattle.def_layout.specs.Desks.{row_at, row_bytes}
use Rattle.law_bytes.specs.Patch.{patch}
use Rattle.law_bytes.specs.Chunks.{chunks_none, chunks_more}
use Rattle.law_bytes.specs.DeskBytes.{row_bytes_length}
use Rattle.codec_desk.proofs.put_rows.Goals as goal

pub loop-i-init : goal.loop-i-init
loop-i-init c = (search rules, refl, chunks_none _ _ _)

pub loop-i-preserved : goal.loop-i-preserved
loop-i-preserved c =
    let l = c.loop-i in
    let a = c.args in
    let z : 16 * l.i ≡ 0 + 16 * l.i = omega arith in (
      search rules,
      search rules,
      c.put_row.ensures
          ∙ ap (λ (k : ℕ). patch l.b k (row_bytes (row_at a.rows l.i))) z
          ∙ chunks_more a.b.now l.b 0 l.i 16 (λ i. row_bytes (row_at a.rows i)) (λ i. row_bytes_length (row_at a.rows i)) (omega arith) l.invariant.2,
    )

pub returns : goal.returns
returns c =
    let l = c.loop-i in
    let a = c.args in
    let e : l.i ≡ 8 = omega arith in
    l.invariant.2 ∙ ap (λ (k : ℕ). patch a.b.now 0 (chunks k (λ i. row_bytes (row_at a.rows i)))) e
