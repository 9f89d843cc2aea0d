-- REDO OF ANY IMAGE that restart accepts, forged ones too: the redone pages keep their layout, and no page is ahead of the log.
use Rattle.std.specs.Prelude.{ℕ, suc, ◌+◌, ◌≤◌, ◌<◌, ◌≡◌, Bool, ◌&&◌, ◌||◌, length, set, ltb, eqb}
use Rattle.std.proofs.Math.Path.{refl}
use Rattle.std.proofs.Common.{sym, ap, ◌∙◌, subst, arith, length-set, get_or-set_same, get_or-set_other}
use Rattle.std.proofs.Math.Bool.{true, false}
use mathlib.Core.List.{List, [], ◌∷◌}
use Rattle.std.proofs.Math.Decide.{ℕ_discrete}
use Rattle.def_base.specs.Tests.{pick, Case, yes!, no!, case, and_true, true_lt, eq_true}
use Rattle.def_layout.specs.Pages.{Page, at, layout, map_bits, zero_page}
use Rattle.def_layout.specs.Records.{Rec}
use Rattle.def_layout.specs.Rows.{row, names_pages}
use Rattle.def_model.specs.Change.{act, hits, cut_to_size}
use Rattle.def_model.specs.Fit.{fits}
use Rattle.def_model.specs.Redo.{places, is_lower, redo_at, redo_page, redo_places, redo_record, replay, fits_places, redo_fits}
use Rattle.theory_redo.specs.Area.{member, member_places, length_redo_page, length_redo_record}
use Rattle.theory_redo.specs.Count.{Inside, names_inside}
use Rattle.theory_pages.specs.Layout.{Laid}
use Rattle.theory_pages.specs.FitLayout.{fit_laid}
use Rattle.theory_history.specs.Core.{RowsOk, NamesOk}

-- Levels of four bits, as bytes give them.
unfoldable pub LowRecords : List Rec → Type 0
LowRecords [] = Unit {0}
LowRecords (r ∷ l) = (r.level < 16) × LowRecords l

-- Pages that keep their layout, with levels of four bits and numbers up to the last.
pub record Kept (last : ℕ) (pages : List Page) : Type 0 where
  pub laid : Laid pages
  pub low : (p : ℕ) → (at pages p).level < 16
  pub numbers : (p : ℕ) → p < length pages → (at pages p).lsn ≤ last

-- One page is replaced.
set_kept : (last : ℕ) (pages : List Page) (q : ℕ) (y : Page) → q < length pages → layout (length pages) q y ≡ true → y.level < 16 → y.lsn ≤ last → Kept last pages → Kept last (set pages q y)
set_kept last pages q y h l lv num k =
    let e = length-set pages q y in
    record {
      laid = λ p i. subst (λ z. layout z p (at (set pages q y) p) ≡ true) (sym e) (laid p (omega arith) (ℕ_discrete p q));
      low = λ p. low p (ℕ_discrete p q);
      numbers = λ p i. number p (omega arith) (ℕ_discrete p q);
    }
  where
    same : (p : ℕ) → p ≡ q → at (set pages q y) p ≡ y
    same p e = ap (at (set pages q y)) e ∙ get_or-set_same pages q y zero_page h

    laid : (p : ℕ) → p < length pages → Dec (p ≡ q) → layout (length pages) p (at (set pages q y) p) ≡ true
    laid p i (yes e) = subst (λ z. layout (length pages) p z ≡ true) (sym (same p e)) (subst (λ z. layout (length pages) z y ≡ true) (sym e) l)
    laid p i (no e) = subst (λ z. layout (length pages) p z ≡ true) (sym (get_or-set_other pages q p y zero_page e)) (k.laid p i)

    low : (p : ℕ) → Dec (p ≡ q) → (at (set pages q y) p).level < 16
    low p (yes e) = subst (λ z. z.level < 16) (sym (same p e)) lv
    low p (no e) = subst (λ z. z.level < 16) (sym (get_or-set_other pages q p y zero_page e)) (k.low p)

    number : (p : ℕ) → p < length pages → Dec (p ≡ q) → (at (set pages q y) p).lsn ≤ last
    number p i (yes e) = subst (λ z. z.lsn ≤ last) (sym (same p e)) num
    number p i (no e) = subst (λ z. z.lsn ≤ last) (sym (get_or-set_other pages q p y zero_page e)) (k.numbers p i)

act_low : (p m : ℕ) (r : Rec) (x : Page) → (act p m r x).level < 16
unfolding cut_to_size
act_low p m r x = omega arith

module _ (last m : ℕ) (r : Rec) (in_time : m ≤ last) (low_r : r.level < 16) (rows : row m r ≡ true) where
  -- One place of a record.
  page_kept : (p : ℕ) (pages : List Page) → length pages ≤ map_bits → p < length pages → hits p r ≡ true → r.pageB < length pages → r.pageC < length pages
      → pick (is_lower m p pages) (fits p r (at pages p)) true ≡ true → Kept last pages → Kept last (redo_page m r p pages)
  unfolding redo_page redo_at
  page_kept p pages few h hit b c f k = go (case (ltb (at pages p).lsn m)) f
    where
      go : Case (ltb (at pages p).lsn m) → pick (ltb (at pages p).lsn m) (fits p r (at pages p)) true ≡ true → Kept last (set pages p (pick (ltb (at pages p).lsn m) (act p m r (at pages p)) (at pages p)))
      go (yes! t) f = rw t (set_kept last pages p (act p m r (at pages p)) h (fit_laid (length pages) p m few r (at pages p) (k.low p) low_r (k.laid p h) rows b c hit (rw t at f)) (act_low p m r (at pages p)) in_time k)
      go (no! t) f = rw t (set_kept last pages p (at pages p) h (k.laid p h) (k.low p) (k.numbers p h) k)

  -- All of them.
  places_kept : (ps : List ℕ) (n : ℕ) (pages : List Page) → length pages ≡ n → n ≤ map_bits → Inside n ps → ((p : ℕ) → member p ps ≡ true → hits p r ≡ true) → r.pageB < n → r.pageC < n
      → fits_places m r ps pages ≡ true → Kept last pages → Kept last (redo_places m r ps pages)
  unfolding redo_places fits_places member Inside
  places_kept [] n pages e few i h b c f k = k
  places_kept (p ∷ ps) n pages e few i h b c f k =
      let (f₁, f₂) = and_true (pick (is_lower m p pages) (fits p r (at pages p)) true) _ f in
      let t = h p (rw (eq_true p p refl)) in
      let j = i.0 in
      places_kept ps n (redo_page m r p pages) (length_redo_page m r p pages ∙ e) few i.1 (λ q u. h q (later (eqb q p) (member q ps) u)) b c f₂
      (page_kept p pages (omega arith) (omega arith) t (omega arith) (omega arith) f₁ k)
    where
      later : (x y : Bool) → y ≡ true → x || y ≡ true
      later true y e = refl
      later false y e = e

named : (n : ℕ) (r : Rec) → names_pages n r ≡ true → (r.pageA < n) × (r.pageB < n) × (r.pageC < n)
unfolding names_pages
named n r e =
    let (a, bc) = and_true (ltb r.pageA n) (ltb r.pageB n && ltb r.pageC n) e in
    let (b, c) = and_true (ltb r.pageB n) (ltb r.pageC n) bc in
    (true_lt r.pageA n a, true_lt r.pageB n b, true_lt r.pageC n c)

-- Every record.
pub replay_kept : (last m n : ℕ) (log : List Rec) (pages : List Page) → length pages ≡ n → 0 < n → n ≤ map_bits → m + length log ≤ suc last → RowsOk m log → NamesOk n log → LowRecords log → redo_fits m log pages ≡ true → Kept last pages
    → Kept last (replay m log pages)
unfolding replay redo_fits RowsOk NamesOk LowRecords redo_record
replay_kept last m n [] pages e pos few t rows names low f k = k
replay_kept last m n (r ∷ log) pages e pos few t rows names low f k =
    let (f₁, f₂) = and_true (fits_places m r (places r) pages) _ f in
    let (a, b, c) = named n r names.0 in
    let next = places_kept last m r (omega arith) low.0 rows.0 (places r) n pages e few (names_inside n r pos names.0) (λ p u. sym (member_places r p) ∙ u) b c f₁ k in
    replay_kept last (suc m) n log (redo_record m r pages) (length_redo_record m r pages ∙ e) pos few (omega arith) rows.1 names.1 low.1 f₂ next
