-- `write_words`: after i turns the first i words are written.
use borrow.Author.Rules.{rules}
use native.Mathlib.Omega.{arith}
use Prim.Native.Nat.{ℕ, ◌-◌, ◌+◌, ◌*◌}
use mathlib.Core.Path.{◌≡◌, refl, ◌∙◌, ap}
use lib.ListN.{get_or}
use Rattle.def_layout.specs.Numbers.{chunks, put32}
use Rattle.law_bytes.specs.Words.{put32_length}
use Rattle.law_bytes.specs.Patch.{patch}
use Rattle.law_bytes.specs.Chunks.{chunks_none, chunks_more}
use Rattle.codec_slot.specs.Typed.{word_bytes}
use Rattle.codec_slot.proofs.write_words.Goals as goal

pub loop-i-init : goal.loop-i-init
loop-i-init c = (search rules, refl, chunks_none _ _ _)

pub loop-i-preserved : goal.loop-i-preserved
loop-i-preserved c =
    let l = c.loop-i in
    let a = c.args in
    let z : 4 * l.i ≡ 0 + 4 * l.i = omega arith in (
      search rules,
      search rules,
      c.set32.ensures
          ∙ ap (λ (k : ℕ). patch l.area k (put32 (get_or a.words l.i 0))) z
          ∙ chunks_more a.area.now l.area 0 l.i 4 (word_bytes a.words) (λ i. put32_length (get_or a.words i 0)) (omega arith) l.invariant.2,
    )

pub returns : goal.returns
returns c =
    let l = c.loop-i in
    let a = c.args in
    let e : l.i ≡ 8 = omega arith in
    l.invariant.2 ∙ ap (λ (k : ℕ). patch a.area.now 0 (chunks k (word_bytes a.words))) e
