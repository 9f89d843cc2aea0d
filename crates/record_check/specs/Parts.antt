-- A record's row from the parts that the program tests one after the other.
use Rattle.std.specs.Prelude.{◌≡◌, refl, ℕ, ◌/◌, ◌%◌, ◌<◌, ◌≤◌, Bool, true, false, ◌&&◌, List, leb, ltb}
use Rattle.std.proofs.Common.{ap, sym, ◌∙◌}
use native.Mathlib.Omega.{arith}
use Rattle.std.proofs.Math.Decide.{dec_lt}
use Rattle.std.proofs.Math.Dec.{eqb}
use Rattle.def_base.specs.Tests.{lt_true, lt_false}
use Rattle.def_layout.specs.declared.Entry.{Entry}
use Rattle.def_layout.specs.Entries.{entry_at}
use Rattle.def_layout.specs.Records.{Rec, Kind, kind_of, kind_number, begin, insert, delete, undo_insert, undo_delete, commit, abort_mark, end, split, link, unlink, merge, redistribute, raise, lower}
use Rattle.def_layout.specs.Rows.{Named, carries, zero_unless, named_only, row_says, row, level_bits, one_side}
use Rattle.law_bytes.specs.Ranges.{Run, in_run, past}
use Rattle.law_bytes.specs.Tables.{tab_length}
use Rattle.law_bytes.specs.EntryBytes.{used}
use Rattle.codec_slot.specs.declared.Header.TheVariants.{Full}
use Rattle.codec_slot.specs.Typed.{rec_of}
use Rattle.law_bytes.specs.RecordBytes.{kind_back}
use Rattle.record_check.specs.Kept.{mask, three_but, says, asked, row_kept, pages_kept}

-- The bits of a kind's row are the fields that it names.
module _ (k : ℕ) (h : 0 < k) (l : k < 16) where
  bits_batch : (x y z : ℕ) → three_but (mask (carries (kind_of k))) 128 x y z
      ≡ zero_unless (carries (kind_of k)).level x && (zero_unless (carries (kind_of k)).batch y && zero_unless (carries (kind_of k)).previous z)
  unfolding Run three_but mask carries kind_of
  bits_batch x y z =
      in_run (λ (k : ℕ). three_but (mask (carries (kind_of k))) 128 x y z
      ≡ zero_unless (carries (kind_of k)).level x && (zero_unless (carries (kind_of k)).batch y && zero_unless (carries (kind_of k)).previous z)) 15 1 k
      (refl, (refl, (refl, (refl, (refl, (refl, (refl, (refl, (refl, (refl, (refl, (refl, (refl, (refl, (refl, tt))))))))))))))) h l

  bits_pages : (x y z : ℕ) → three_but (mask (carries (kind_of k))) 16 x y z
      ≡ zero_unless (carries (kind_of k)).a x && (zero_unless (carries (kind_of k)).b y && zero_unless (carries (kind_of k)).c z)
  unfolding Run three_but mask carries kind_of
  bits_pages x y z =
      in_run (λ (k : ℕ). three_but (mask (carries (kind_of k))) 16 x y z
      ≡ zero_unless (carries (kind_of k)).a x && (zero_unless (carries (kind_of k)).b y && zero_unless (carries (kind_of k)).c z)) 15 1 k
      (refl, (refl, (refl, (refl, (refl, (refl, (refl, (refl, (refl, (refl, (refl, (refl, (refl, (refl, (refl, tt))))))))))))))) h l

  bits_keys : (x y z : ℕ) → three_but (mask (carries (kind_of k))) 2 x y z
      ≡ zero_unless (carries (kind_of k)).key x && (zero_unless (carries (kind_of k)).second y && zero_unless (carries (kind_of k)).right z)
  unfolding Run three_but mask carries kind_of
  bits_keys x y z =
      in_run (λ (k : ℕ). three_but (mask (carries (kind_of k))) 2 x y z
      ≡ zero_unless (carries (kind_of k)).key x && (zero_unless (carries (kind_of k)).second y && zero_unless (carries (kind_of k)).right z)) 15 1 k
      (refl, (refl, (refl, (refl, (refl, (refl, (refl, (refl, (refl, (refl, (refl, (refl, (refl, (refl, (refl, tt))))))))))))))) h l

  bits_entries : (x : ℕ) → zero_unless (eqb (mask (carries (kind_of k)) / 1 % 2) 1) x ≡ zero_unless (carries (kind_of k)).entries x
  unfolding Run mask carries kind_of
  bits_entries x =
      in_run (λ (k : ℕ). zero_unless (eqb (mask (carries (kind_of k)) / 1 % 2) 1) x ≡ zero_unless (carries (kind_of k)).entries x) 15 1 k
      (refl, (refl, (refl, (refl, (refl, (refl, (refl, (refl, (refl, (refl, (refl, (refl, (refl, (refl, (refl, tt))))))))))))))) h l

-- A row asks of a record its batch, A, key, level and entries alone.
says_asked : (k : Kind) (n : ℕ) (r : Rec) → row_says k n r ≡ row_says k n (asked r.batch r.pageA r.key r.level r.entries)
unfolding row_says
says_asked begin n r = refl
says_asked insert n r = refl
says_asked delete n r = refl
says_asked undo_insert n r = refl
says_asked undo_delete n r = refl
says_asked commit n r = refl
says_asked abort_mark n r = refl
says_asked end n r = refl
says_asked split n r = refl
says_asked link n r = refl
says_asked unlink n r = refl
says_asked merge n r = refl
says_asked redistribute n r = refl
says_asked raise n r = refl
says_asked lower n r = refl

and_assoc : (a b c : Bool) → (a && b) && c ≡ a && (b && c)
and_assoc true b c = refl
and_assoc false b c = refl

-- Ten tests and one more, three at a time.
by_three : (a b c d e f g h i j k : Bool)
    → (a && (b && (c && (d && (e && (f && (g && (h && (i && j))))))))) && k ≡ (a && (b && c)) && ((d && (e && f)) && ((g && (h && i)) && (j && k)))
by_three a b c d e f g h i j k = simp and_assoc

module _ (kind count level own batch previous a b c key second right : ℕ) (es : List Entry) (k row_bits : ℕ)
    (ek : k ≡ kind_number (kind_of kind)) (h : 0 < k) (l : k < 16) (er : row_bits ≡ mask (carries (kind_of k))) where
  same_kind : kind_of k ≡ kind_of kind
  same_kind = ap kind_of ek ∙ kind_back (kind_of kind)

  -- The row, test by test.
  row_parts : row_kept (Full kind count level own batch previous a b c key second right) es
      ≡ three_but row_bits 128 level batch previous && (three_but row_bits 16 a b c && (three_but row_bits 2 key second right
      && (zero_unless (eqb (row_bits / 1 % 2) 1) count && (leb count 14 && says k own batch a key level (used count es)))))
  unfolding row_kept row named_only says
  row_parts =
      let f : Named = carries (kind_of k) in
      rw (
        ← same_kind,
        says_asked (kind_of k) own (rec_of k count level batch previous a b c key second right es),
        tab_length count (entry_at es),
        er,
        bits_batch k h l level batch previous,
        bits_pages k h l a b c,
        bits_keys k h l key second right,
        bits_entries k h l count,
      )
      (by_three (zero_unless f.level level) (zero_unless f.batch batch) (zero_unless f.previous previous) (zero_unless f.a a) (zero_unless f.b b)
      (zero_unless f.c c) (zero_unless f.key key) (zero_unless f.second second) (zero_unless f.right right) (zero_unless f.entries count) _)

  pub batch_off : three_but row_bits 128 level batch previous ≡ false → row_kept (Full kind count level own batch previous a b c key second right) es ≡ false
  batch_off p = row_parts ∙ rw p

  module _ (p : three_but row_bits 128 level batch previous ≡ true) where
    pub pages_off : three_but row_bits 16 a b c ≡ false → row_kept (Full kind count level own batch previous a b c key second right) es ≡ false
    pages_off q = row_parts ∙ rw (p, q)

    module _ (q : three_but row_bits 16 a b c ≡ true) where
      pub keys_off : three_but row_bits 2 key second right ≡ false → row_kept (Full kind count level own batch previous a b c key second right) es ≡ false
      keys_off r = row_parts ∙ rw (p, q, r)

      module _ (r : three_but row_bits 2 key second right ≡ true) where
        pub count_off : zero_unless (eqb (row_bits / 1 % 2) 1) count && leb count 14 ≡ false → row_kept (Full kind count level own batch previous a b c key second right) es ≡ false
        count_off s =
            row_parts ∙ rw (p, q, r) (sym (and_assoc (zero_unless (eqb (row_bits / 1 % 2) 1) count) (leb count 14) (says k own batch a key level (used count es))) ∙ rw s)

        pub row_rest : zero_unless (eqb (row_bits / 1 % 2) 1) count && leb count 14 ≡ true
            → row_kept (Full kind count level own batch previous a b c key second right) es ≡ says k own batch a key level (used count es)
        row_rest s =
            row_parts ∙ rw (p, q, r) (sym (and_assoc (zero_unless (eqb (row_bits / 1 % 2) 1) count) (leb count 14) (says k own batch a key level (used count es))) ∙ rw s)

-- Pages below n, of a full slot, test by test.
module _ (n kind count level own batch previous a b c key second right : ℕ) where
  pub a_off : n ≤ a → pages_kept n (Full kind count level own batch previous a b c key second right) ≡ false
  unfolding pages_kept
  a_off p = rw (lt_false a n p)

  pub b_off : a < n → n ≤ b → pages_kept n (Full kind count level own batch previous a b c key second right) ≡ false
  unfolding pages_kept
  b_off p q = rw (lt_true a n p, lt_false b n q)

  pub c_rest : a < n → b < n → pages_kept n (Full kind count level own batch previous a b c key second right) ≡ ltb c n
  unfolding pages_kept
  c_rest p q = rw (lt_true a n p, lt_true b n q)

-- What the rows say, by the kind's number.
module _ (k own batch a key level : ℕ) (es : List Entry) where
  pub says_begin : k ≡ 1 → says k own batch a key level es ≡ eqb batch own
  unfolding says kind_of row_says
  says_begin e = rw e

  pub says_split : k ≡ 9 → says k own batch a key level es ≡ level_bits level es
  unfolding says kind_of row_says
  says_split e = rw e

  pub says_side : k ≡ 13 → says k own batch a key level es ≡ one_side key es
  unfolding says kind_of row_says
  says_side e = rw e

  pub says_root : 14 ≤ k → k < 16 → says k own batch a key level es ≡ eqb a 1 && level_bits level es
  unfolding says kind_of row_says Run
  says_root h l = in_run (λ (k : ℕ). says k own batch a key level es ≡ eqb a 1 && level_bits level es) 2 14 k (refl, (refl, tt)) h l

  pub says_nothing : 0 < k → (k ≡ 1 → ⊥) → (k ≡ 9 → ⊥) → k < 13 → says k own batch a key level es ≡ true
  unfolding says kind_of row_says Run
  says_nothing z one nine l =
      elim (dec_lt k 9) [
        | yes q ↦
            in_run (λ (k : ℕ). says k own batch a key level es ≡ true) 7 2 k (refl, (refl, (refl, (refl, (refl, (refl, (refl, tt))))))) (past 1 k z one) q
        | no q ↦
            let u : k < 13 = omega arith in
            let v : 10 ≤ k = omega arith in
            in_run (λ (k : ℕ). says k own batch a key level es ≡ true) 3 10 k (refl, (refl, (refl, tt))) v l
      ]
