-- What the program writes of a slot: eight words and the entries, one after the other, are the record's bytes.
use Rattle.std.specs.Prelude.{◌≡◌, refl}
use Rattle.std.proofs.Math.Path.{ap, sym}
use Rattle.std.proofs.Common.{◌∙◌, arith, length-append}
use Prim.Native.Nat.{ℕ, ◌+◌, ◌*◌, ◌%◌}
use mathlib.Core.List.{List, [], ◌∷◌, ◌++◌}
use Rattle.std.proofs.Math.ListN.{length}
use Rattle.std.proofs.lemmas.List.{length-replicate}
use Rattle.def_layout.specs.declared.Entry.{Entry}
use Rattle.def_layout.specs.Entries.{entry_at}
use Rattle.def_layout.specs.Numbers.{chunks, entries_bytes, zeros}
use Rattle.def_layout.specs.Records.{Rec, kind_of, kind_number}
use Rattle.def_layout.specs.RecordBytes.{slot_bytes}
use Rattle.def_layout.specs.Sizes.{slot_size}
use Rattle.law_bytes.specs.Patch.{patch, then_patch, patch_whole}
use Rattle.law_bytes.specs.Tables.{tab_length}
use Rattle.law_bytes.specs.EntryBytes.{used, entries_bytes_length}
use Rattle.codec_slot.specs.declared.Header.{Header}
use Rattle.codec_slot.specs.declared.Header.TheVariants.{Full, Empty, Broken}
use Rattle.codec_slot.specs.Typed.{rec_of, typed_by, word_bytes}
use Rattle.law_bytes.specs.RecordBytes.{record_bytes_parts, record_front_length, record_bytes_length, record_front}

-- Every slot that is written has a slot's length, where broken bytes have it.
pub slot_bytes_length : (b : List ℕ) (h : Header) (es : List Entry) → length b ≡ slot_size → length (slot_bytes (typed_by b h es)) ≡ slot_size
unfolding typed_by slot_bytes
slot_bytes_length b (Full kind count level own batch previous a bb c key second right) es e = record_bytes_length own (rec_of kind count level batch previous a bb c key second right es)
slot_bytes_length b Empty es e = length-replicate {A = ℕ} slot_size 0
slot_bytes_length b Broken es e = e

module _ (kind number count level own batch previous a b c key second right : ℕ) (es : List Entry) (k : number ≡ kind_number (kind_of kind)) where
  abbrev words : List ℕ
  words =
      (number * 268435456 + count % 16 * 16777216 + level % 16 * 1048576) ∷ own ∷ batch ∷ previous ∷ (a % 1024 * 4194304 + b % 1024 * 4096 + c % 1024 * 4)
      ∷ key ∷ second ∷ (right % 1024 * 4194304) ∷ []

  front_written : chunks 8 (word_bytes words) ≡ record_front own (rec_of kind count level batch previous a b c key second right es)
  unfolding chunks record_front
  front_written = rw (k, tab_length count (entry_at es))

  pub record_written : (s t u : List ℕ) → length s ≡ slot_size → t ≡ patch s 0 (chunks 8 (word_bytes words)) → u ≡ patch t 32 (entries_bytes (used count es))
      → u ≡ slot_bytes (typed_by s (Full kind count level own batch previous a b c key second right) es)
  unfolding slot_bytes typed_by
  record_written s t u size e f =
      let r : Rec = rec_of kind count level batch previous a b c key second right es in
      let w : List ℕ = entries_bytes (used count es) in
      let l : length (record_front own r) ≡ 32 = record_front_length own r in
      then_patch s t u 0 32 (record_front own r) w (e ∙ ap (λ (x : List ℕ). patch s 0 x) front_written) f (omega arith) (omega arith)
      ∙ patch_whole s (record_front own r ++ w) (length-append (record_front own r) w ∙ omega (arith, entries_bytes_length (used count es)))
      ∙ sym (record_bytes_parts own r)

pub empty_written : (b u : List ℕ) (es : List Entry) → length b ≡ slot_size → u ≡ zeros (length b) → u ≡ slot_bytes (typed_by b Empty es)
unfolding slot_bytes typed_by
empty_written b u es size e = e ∙ ap zeros size

pub broken_left : (b : List ℕ) (es : List Entry) → b ≡ slot_bytes (typed_by b Broken es)
unfolding slot_bytes typed_by
broken_left b es = refl
