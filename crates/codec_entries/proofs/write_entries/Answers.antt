-- `write_entries`: after i turns the first i of the 14 are written, those past the last as zeros. The index is taken by its value, not by the text that gives it.
use borrow.Author.Rules.{rules}
use native.Mathlib.Omega.{arith}
use Prim.Native.Nat.{◌+◌, ◌*◌}
use mathlib.Core.Path.{◌≡◌, refl, ◌∙◌, ap}
use Rattle.def_layout.specs.Entries.{entry_at}
use Rattle.def_layout.specs.Numbers.{chunks, entry_bytes, entries_bytes}
use Rattle.law_bytes.specs.Patch.{patch}
use Rattle.law_bytes.specs.Chunks.{chunks_none, chunks_more}
use Rattle.law_bytes.specs.EntryBytes.{used, entry_bytes_length}
use Rattle.codec_entries.proofs.write_entries.Goals as goal

pub loop-i-init : goal.loop-i-init
loop-i-init c = (search rules, refl, chunks_none _ _ _)

pub loop-i-preserved : goal.loop-i-preserved
loop-i-preserved c =
    let l = c.loop-i in
    let a = c.args in (
      search rules,
      search rules,
      c.write_entry.ensures
          ∙ ap (λ e. patch l.b (a.from + 8 * l.i) (entry_bytes e)) (c.entry_in.ensures ∙ ap (entry_at (used a.n a.es)) (search rules))
          ∙ chunks_more a.b.now l.b a.from l.i 8 _ (λ i. entry_bytes_length (entry_at (used a.n a.es) i)) (omega arith) l.invariant.2,
    )

pub returns : goal.returns
unfolding entries_bytes
returns c =
    let l = c.loop-i in
    let a = c.args in
    let e : l.i ≡ 14 = omega arith in
    l.invariant.2 ∙ ap (λ k. patch a.b.now a.from (chunks k (λ i. entry_bytes (entry_at (used a.n a.es) i)))) e
