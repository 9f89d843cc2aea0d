-- A log area that shows records, and their redo one record after the other.
use Rattle.std.specs.Prelude.{◌≡◌, refl, ℕ, zero, suc, ◌+◌, ◌<◌, ◌≤◌, false, List, [], ◌∷◌, ◌++◌, length, get_or, take, drop, Option, Some, None}
use Rattle.std.proofs.Common.{ap, sym, ◌∙◌, subst, arith, take-suc, get_or-take, length-take-le}
use Rattle.std.proofs.Math.Seq.{split_at, take-length}
use Rattle.def_layout.specs.Pages.{Page}
use Rattle.def_layout.specs.Records.{Rec, begin, batch_row}
use Rattle.def_layout.specs.RecordBytes
use Rattle.def_layout.specs.RecordBytes.{empty, full}
use Rattle.def_model.specs.Log.{slots_from}
use Rattle.def_model.specs.Redo.{redo_record, replay, redo_count, redo_fits}
use Rattle.law_bytes.specs.LogAreas.{slots_of}
use Rattle.law_bytes.specs.RecordBytes.{Fits}
use Rattle.law_areas.specs.Logs.{AllFit}
use Rattle.law_widths.specs.Acting.{slot_narrow, act_fits}
use Rattle.record_apply.specs.declared.Record.{Record}
use Rattle.record_apply.specs.Pages.{rec}
use Rattle.record_pages.specs.Pages.{Pages}
use Rattle.record_pages.specs.Records.{Keeps}
use Rattle.record_redo.specs.Slots.{Tells}
use Rattle.record_redo.specs.Outcomes.{Outcome, Counted, Answers, one_record, whole, followed, followed_assoc, followed_nothing, nothing_followed, none_count, was_misfit, is_misfit, both_count}

-- The records stand in the area's first slots, and each fits its slot.
pub record Logged (m : ℕ) (area : List ℕ) (l : List Rec) : Type 0 where
  pub slots : take (length l) (slots_of m area) ≡ slots_from 1 l
  pub fits : AllFit 1 l

-- ---- a record by its place

no_rec : Rec
no_rec = batch_row begin 0 0

slot_from : (n : ℕ) (l : List Rec) (i : ℕ) (d : Rec) → i < length l → get_or (slots_from n l) i empty ≡ full (n + i) (get_or l i d)
unfolding slots_from
slot_from n [] i d h = absurd (omega arith)
slot_from n (r ∷ l) zero d h = let e : n ≡ n + 0 = omega arith in ap (λ (k : ℕ). full k r) e
slot_from n (r ∷ l) (suc i) d h =
    let e : suc n + i ≡ n + suc i = omega arith in
    slot_from (suc n) l i d (omega arith) ∙ ap (λ (k : ℕ). full k (get_or l i d)) e

fit_at : (n : ℕ) (l : List Rec) (i : ℕ) (d : Rec) → i < length l → AllFit n l → Fits (n + i) (get_or l i d)
unfolding AllFit
fit_at n [] i d h f = absurd (omega arith)
fit_at n (r ∷ l) zero d h f = let e : n ≡ n + 0 = omega arith in subst (λ (k : ℕ). Fits k r) e f.0
fit_at n (r ∷ l) (suc i) d h f =
    let e : suc n + i ≡ n + suc i = omega arith in
    subst (λ (k : ℕ). Fits k (get_or l i d)) e (fit_at (suc n) l i d (omega arith) f.1)

module _ {m : ℕ} {area : List ℕ} (l : List Rec) (g : Logged m area l) (i : ℕ) (h : i < length l) where
  -- It stands in its slot.
  pub stands_at : (d : Rec) → get_or (slots_of m area) i empty ≡ full (1 + i) (get_or l i d)
  stands_at d = sym (get_or-take (length l) (slots_of m area) i empty h) ∙ ap (λ (s : List RecordBytes.Slot). get_or s i empty) g.slots ∙ slot_from 1 l i d h

  pub keeps_at : (d : Rec) → Keeps (i + 1) (get_or l i d)
  keeps_at d p x f =
      let w : Fits (1 + i) (get_or l i d) = fit_at 1 l i d h g.fits in
      act_fits p (i + 1) (get_or l i d) x (omega (arith, w.own)) (slot_narrow (1 + i) (get_or l i d) w) f

-- ---- records one after the other

record_first : (k : ℕ) (r : Rec) (l : List Rec) (xs : List Page) → whole k (r ∷ l) xs ≡ followed (one_record k r xs) (whole (suc k) l (redo_record k r xs))
unfolding replay redo_count redo_fits redo_record
record_first k r l xs = refl

record_alone : (k : ℕ) (r : Rec) (xs : List Page) → whole k (r ∷ []) xs ≡ one_record k r xs
unfolding replay redo_count redo_fits redo_record
record_alone k r xs = followed_nothing (one_record k r xs)

whole_append : (k : ℕ) (l l' : List Rec) (xs : List Page) → whole k (l ++ l') xs ≡ followed (whole k l xs) (whole (k + length l) l' (replay k l xs))
unfolding replay redo_count redo_fits redo_record
whole_append k [] l' xs =
    let e : k ≡ k + 0 = omega arith in
    ap (λ (j : ℕ). whole j l' xs) e ∙ sym (nothing_followed xs (whole (k + 0) l' xs))
whole_append k (r ∷ l) l' xs =
    let e : suc k + length l ≡ k + suc (length l) = omega arith in
    let ys : List Page = redo_record k r xs in
    ap (followed (one_record k r xs)) (whole_append (suc k) l l' ys ∙ ap (λ (j : ℕ). followed (whole (suc k) l ys) (whole j l' (replay (suc k) l ys))) e)
    ∙ followed_assoc (one_record k r xs) (whole (suc k) l ys) (whole (k + suc (length l)) l' (replay (suc k) l ys))

-- ---- the program's loop

-- Of any pages and any log of so many records that the areas showed at the start: after i turns the first i are done.
abbrev pub Turned : ℕ → ℕ → ℕ → List ℕ → List ℕ → List ℕ → ℕ → ℕ → Type 0
Turned n m logged pages log now count i =
    (xs : List Page) (l : List Rec) → Pages n pages xs [] → Logged m log l → length l ≡ logged → Counted n now count (whole 1 (take i l) xs)

pub no_turn : (n m logged : ℕ) (pages log : List ℕ) → Turned n m logged pages log pages 0 0
unfolding replay redo_count redo_fits
no_turn n m logged pages log xs l h g e = none_count xs h

-- One turn, of whatever record stands in slot i.
abbrev pub Slot : ℕ → ℕ → List ℕ → List ℕ → ℕ → List ℕ → Option ℕ → Type 0
Slot n m before area i after d =
    (xs : List Page) (own : ℕ) (q : Rec) → Pages n before xs [] → get_or (slots_of m area) i empty ≡ full own q → length q.entries ≤ 14 → Keeps (i + 1) q
    → Answers n after d (one_record (i + 1) q xs)

-- The long way does it, on pages that are as they were.
pub long_way : {n : ℕ} {before mid : List ℕ} (after : List ℕ) (m i : ℕ) (area : List ℕ) (r : Record) (d : Option ℕ) → Tells m area i r → mid ≡ before
    → ((xs : List Page) → Pages n mid xs [] → Keeps (i + 1) (rec r) → Answers n after d (one_record (i + 1) (rec r) xs)) → Slot n m before area i after d
long_way {n} after m i area r d tells same a xs own q shows stands few keeps =
    let e : rec r ≡ q = tells own q stands few in
    subst (λ (x : Rec). Answers n after d (one_record (i + 1) x xs)) e (a xs (subst (λ (b : List ℕ). Pages n b xs []) (sym same) shows) (subst (Keeps (i + 1)) (sym e) keeps))

module _ {n m : ℕ} {area before : List ℕ} (after : List ℕ) (i count : ℕ) (d : Option ℕ) (turn : Slot n m before area i after d) where
  module _ (xs : List Page) (l : List Rec) (g : Logged m area l) (h : i < length l) (s : Counted n before count (whole 1 (take i l) xs)) where
    abbrev q : Rec
    q = get_or l i no_rec

    abbrev ys : List Page
    ys = replay 1 (take i l) xs

    one : Answers n after d (one_record (i + 1) q ys)
    one = turn ys (1 + i) q s.pages (stands_at l g i h no_rec) (fit_at 1 l i no_rec h g.fits).count (keeps_at l g i h no_rec)

    number : 1 + length (take i l) ≡ i + 1
    number = omega (arith, length-take-le i l (omega arith))

    pub turn_on : {applied : ℕ} → d ≡ Some applied → Counted n after (count + applied) (whole 1 (take (i + 1) l) xs)
    turn_on {applied} e =
        let e₁ : suc i ≡ i + 1 = omega arith in
        let w : followed (whole 1 (take i l) xs) (one_record (i + 1) q ys) ≡ whole 1 (take (i + 1) l) xs =
        sym (ap (λ (k : ℕ). whole 1 (take k l) xs) (sym e₁)
        ∙ ap (λ (z : List Rec). whole 1 z xs) (take-suc l i no_rec h)
        ∙ whole_append 1 (take i l) (q ∷ []) xs
        ∙ ap (followed (whole 1 (take i l) xs)) (record_alone (1 + length (take i l)) q ys ∙ ap (λ (k : ℕ). one_record k q ys) number)) in
        subst (Counted n after (count + applied)) w (both_count s (subst (λ (o : Option ℕ). Answers n after o (one_record (i + 1) q ys)) e one))

    pub turn_off : d ≡ None → (whole 1 l xs).fits ≡ false
    turn_off e =
        let rest : List Rec = drop (suc i) l in
        let zs : List Page = redo_record (i + 1) q ys in
        let w : followed (whole 1 (take i l) xs) (followed (one_record (i + 1) q ys) (whole (suc (i + 1)) rest zs)) ≡ whole 1 l xs =
        sym (ap (λ (z : List Rec). whole 1 z xs) (split_at l i no_rec h)
        ∙ whole_append 1 (take i l) (q ∷ rest) xs
        ∙ ap (followed (whole 1 (take i l) xs)) (ap (λ (k : ℕ). whole k (q ∷ rest) ys) number ∙ record_first (i + 1) q rest ys)) in
        subst (λ (o : Outcome). o.fits ≡ false) w
        (is_misfit s (followed (one_record (i + 1) q ys) (whole (suc (i + 1)) rest zs))
        (was_misfit (one_record (i + 1) q ys) (whole (suc (i + 1)) rest zs) (subst (λ (o : Option ℕ). Answers n after o (one_record (i + 1) q ys)) e one)))

-- All are done.
pub turns_end : {n : ℕ} {area : List ℕ} (i count : ℕ) (xs : List Page) (l : List Rec) → i ≡ length l → Counted n area count (whole 1 (take i l) xs) → Counted n area count (whole 1 l xs)
turns_end {n} {area} i count xs l e = subst (λ (z : List Rec). Counted n area count (whole 1 z xs)) (ap (λ (k : ℕ). take k l) e ∙ take-length l)
