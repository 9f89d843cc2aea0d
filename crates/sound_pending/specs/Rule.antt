-- THE PENDING RULE, batch by batch.
use Rattle.std.specs.Prelude.{ℕ, suc, ◌+◌, ◌-◌, ◌≤◌, ◌<◌, ◌≡◌, refl, Bool, true, false, ◌&&◌, List, [], length, take, drop}
use Rattle.std.proofs.Math.Path.{sym, ap}
use Rattle.std.proofs.Common.{ap₂, ◌∙◌, arith, add-one, drop_of_length-le, drop-cons}
use Rattle.std.proofs.Math.Decide.{dec_lt}
use Rattle.std.proofs.Math.ListN.{get_or-eq_default}
use Rattle.std.proofs.Math.Seq.{take-length}
use Rattle.def_base.specs.Tests.{every}
use Rattle.def_layout.specs.declared.Row.{Row}
use Rattle.def_layout.specs.Desks.{row_at}
use Rattle.def_layout.specs.Pages.{Page}
use Rattle.def_layout.specs.Records.{Rec}
use Rattle.def_model.specs.Batches.{Line, Batch}
use Rattle.def_model.specs.Pending.{lines_alternate, newest_agree, apart, pending_ok}
use Rattle.sound_pending.specs.Rows.{Known, no_batch, batch_at, row_known, batch_linked}
use Rattle.sound_pending.specs.Alternating.{AlternateSays}
use Rattle.sound_pending.specs.Agreeing.{AgreeSays}
use Rattle.sound_pending.specs.Apart.{ApartIs, OfRow, of_row}

-- One batch, that of row i, against the tree and the batches behind it.
abbrev pub BatchIs : List Page → ℕ → List ℕ → List Row → ℕ → Bool → Type 0
BatchIs pages m b rows i r = (l : List Rec) (bs : List Batch) → Known m b rows l bs
    → r ≡ lines_alternate (batch_at bs i).lines && (newest_agree pages [] (batch_at bs i).lines && apart (batch_at bs i).lines (drop (i + 1) bs))

module _ (pages : List Page) (m : ℕ) (b : List ℕ) (rows : List Row) (i : ℕ) (h : i < 8) where
  its_lines : (l : List Rec) (bs : List Batch) → Known m b rows l bs → OfRow (row_at rows i) (batch_at bs i).lines l
  its_lines l bs k = of_row (row_at rows i) (batch_at bs i) l (row_known m b rows l bs k i h) (batch_linked m b rows l bs k i)

  all_of : (l : List Rec) (bs : List Batch) → Known m b rows l bs → take (row_at rows i).pending (batch_at bs i).lines ≡ (batch_at bs i).lines
  all_of l bs k = ap (λ (n : ℕ). take n (batch_at bs i).lines) (its_lines l bs k).size ∙ take-length (batch_at bs i).lines

  module _ (r : Bool) (f : AlternateSays m b (row_at rows i).undo (row_at rows i).pending r) where
    alternate_is : (l : List Rec) (bs : List Batch) → Known m b rows l bs → r ≡ lines_alternate (batch_at bs i).lines
    alternate_is l bs k =
        let q = its_lines l bs k in
        f tt l (batch_at bs i).lines tt k.reads q.linked q.newest (omega (arith, q.size)) ∙ ap lines_alternate (all_of l bs k)

    pub batch_alternates_not : r ≡ false → BatchIs pages m b rows i false
    batch_alternates_not e l bs k = sym (rw (sym (alternate_is l bs k) ∙ e))

    module _ (e : r ≡ true) (s : Bool) (g : AgreeSays pages m b (row_at rows i).undo (row_at rows i).pending s) where
      agree_is : (l : List Rec) (bs : List Batch) → Known m b rows l bs → s ≡ newest_agree pages [] (batch_at bs i).lines
      agree_is l bs k =
          let q = its_lines l bs k in
          g tt l (batch_at bs i).lines tt k.reads q.linked q.newest (omega (arith, q.size))
          ∙ ap₂ (λ (n : ℕ) (ls : List Line). newest_agree pages (take n (batch_at bs i).lines) ls) (none (row_at rows i).pending) (all_of l bs k)
        where
          none : (n : ℕ) → n - n ≡ 0
          none n = omega arith

      pub batch_agrees_not : s ≡ false → BatchIs pages m b rows i false
      batch_agrees_not d l bs k = sym (rw (sym (alternate_is l bs k) ∙ e, sym (agree_is l bs k) ∙ d))

      pub batch_apart : s ≡ true → (t : Bool) → ApartIs m b rows i t → BatchIs pages m b rows i t
      batch_apart d t a l bs k = a l bs k ∙ sym (rw (sym (alternate_is l bs k) ∙ e, sym (agree_is l bs k) ∙ d))

-- ---- all batches

abbrev pub RuleIs : List Page → ℕ → List ℕ → List Row → Bool → Type 0
RuleIs pages m b rows r = (l : List Rec) (bs : List Batch) → Known m b rows l bs → r ≡ pending_ok pages bs

abbrev pub RuleLeft : List Page → ℕ → List ℕ → List Row → ℕ → Type 0
RuleLeft pages m b rows i = (l : List Rec) (bs : List Batch) → Known m b rows l bs → pending_ok pages bs ≡ pending_ok pages (drop i bs)

none_there : (pages : List Page) → (lines_alternate [] && (newest_agree pages [] [] && apart [] [])) && pending_ok pages [] ≡ true
unfolding lines_alternate newest_agree apart every pending_ok
none_there pages = refl

rule_at : (pages : List Page) (bs : List Batch) (i : ℕ)
    → pending_ok pages (drop i bs)
    ≡ (lines_alternate (batch_at bs i).lines && (newest_agree pages [] (batch_at bs i).lines && apart (batch_at bs i).lines (drop (i + 1) bs))) && pending_ok pages (drop (i + 1) bs)
unfolding pending_ok
rule_at pages bs i =
    elim (dec_lt i (length bs)) [
      | yes h ↦
          ap (pending_ok pages) (drop-cons bs i no_batch h)
          ∙ by_three (lines_alternate (batch_at bs i).lines) (newest_agree pages [] (batch_at bs i).lines) (apart (batch_at bs i).lines (drop (suc i) bs)) (pending_ok pages (drop (suc i) bs))
          ∙ ap (λ (k : ℕ). (lines_alternate (batch_at bs i).lines && (newest_agree pages [] (batch_at bs i).lines && apart (batch_at bs i).lines (drop k bs))) && pending_ok pages (drop k bs)) (sym (add-one i))
      | no h ↦
          let e : drop (i + 1) bs ≡ [] = drop_of_length-le bs {i = i + 1} (omega arith) in
          let n : batch_at bs i ≡ no_batch = get_or-eq_default bs no_batch {n = i} (omega arith) in
          ap (pending_ok pages) (drop_of_length-le bs {i = i} (omega arith)) ∙ sym (rw (e, n) (none_there pages))
    ]
  where
    by_three : (a c d e : Bool) → a && (c && (d && e)) ≡ (a && (c && d)) && e
    by_three true true d e = refl
    by_three true false d e = refl
    by_three false c d e = refl

module _ (pages : List Page) (m : ℕ) (b : List ℕ) (rows : List Row) where
  pub rule_start : RuleLeft pages m b rows 0
  rule_start l bs k = refl

  module _ (i : ℕ) (w : RuleLeft pages m b rows i) where
    pub rule_end : 8 ≤ i → RuleIs pages m b rows true
    unfolding pending_ok
    rule_end h l bs k = sym (w l bs k ∙ ap (pending_ok pages) (drop_of_length-le bs {i = i} (omega (arith, h, k.holds.few))))

    module _ (r : Bool) (f : BatchIs pages m b rows i r) where
      pub rule_off : r ≡ false → RuleIs pages m b rows false
      rule_off e l bs k = sym (w l bs k ∙ rule_at pages bs i ∙ ap (λ (x : Bool). x && pending_ok pages (drop (i + 1) bs)) (sym (f l bs k) ∙ e))

      pub rule_on : r ≡ true → RuleLeft pages m b rows (i + 1)
      rule_on e l bs k = w l bs k ∙ rule_at pages bs i ∙ ap (λ (x : Bool). x && pending_ok pages (drop (i + 1) bs)) (sym (f l bs k) ∙ e)
