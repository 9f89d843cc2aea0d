-- Areas that have grown by zero pages: what was behind is behind, and what was current is current.
use Rattle.std.specs.Prelude.{ℕ, zero, suc, ◌≤◌, ◌<◌, ◌≡◌, refl, false, List, [], ◌∷◌, ◌++◌, length, replicate}
use Rattle.std.proofs.Common.{sym, ap, ◌∙◌, arith, length-append}
use Rattle.std.proofs.Math.Decide.{dec_le}
use Rattle.def_base.specs.Tests.{neq_false}
use Rattle.def_layout.specs.Pages.{Page, zero_page, at}
use Rattle.def_layout.specs.Records.{Rec}
use Rattle.def_model.specs.Change.{act, hits}
use Rattle.def_model.specs.Redo.{places, redo_record}
use Rattle.theory_redo.specs.OnePage.{run1, redo1, run}
use Rattle.theory_redo.specs.Area.{member, lsn_of, length_redo_record, member_places, get_record}
use Rattle.theory_redo.specs.Current.{page_run, Behind, Current}
use Rattle.theory_redo.specs.Count.{Inside, AllInside}

-- The same pages, and more after them.
pub record Extends (pages pages' : List Page) : Type 0 where
  pub some_pages : 0 < length pages
  pub longer : length pages ≤ length pages'
  pub same : (p : ℕ) → p < length pages → at pages' p ≡ at pages p

-- The pages after them are zero.
abbrev pub ZerosBeyond : ℕ → List Page → Type 0
ZerosBeyond n pages = (p : ℕ) → n ≤ p → at pages p ≡ zero_page

-- 01 on restart: "it may be run again with longer areas, the added part zero".
pub zeros_extend : (pages : List Page) (k : ℕ) → 0 < length pages → Extends pages (pages ++ replicate k zero_page)
zeros_extend pages k h =
    let l = length-append pages (replicate k zero_page) in
    record { some_pages = h; longer = omega arith; same = λ p i. before pages p i }
  where
    before : (xs : List Page) (p : ℕ) → p < length xs → at (xs ++ replicate k zero_page) p ≡ at xs p
    before [] p i = absurd (omega arith)
    before (x ∷ xs) zero i = refl
    before (x ∷ xs) (suc p) i = before xs p (omega arith)

pub zeros_beyond : (pages : List Page) (k : ℕ) → ZerosBeyond (length pages) (pages ++ replicate k zero_page)
zeros_beyond [] k p h = zeros k p
  where
    zeros : (k p : ℕ) → at (replicate k zero_page) p ≡ zero_page
    zeros zero p = refl
    zeros (suc k) zero = refl
    zeros (suc k) (suc p) = zeros k p
zeros_beyond (x ∷ pages) k zero h = absurd (omega arith)
zeros_beyond (x ∷ pages) k (suc p) h = zeros_beyond pages k p (omega arith)

-- A record done to both does the same.
pub extends_record : (n : ℕ) (r : Rec) (pages pages' : List Page) → Extends pages pages' → Extends (redo_record n r pages) (redo_record n r pages')
extends_record n r pages pages' e =
    let l = length_redo_record n r pages in
    let l' = length_redo_record n r pages' in
    let s = e.some_pages in
    let m = e.longer in
    record {
      some_pages = omega arith;
      longer = omega arith;
      same = λ p h.
          let i : p < length pages = rw l at h in
          get_record n r pages' p (omega arith) ∙ ap (redo1 lsn_of (hits p) (act p) n r) (e.same p i) ∙ sym (get_record n r pages p i);
    }

-- ---- behind and current

pub behind_grow : (n : ℕ) (base : ℕ → Page) (log : List Rec) (pages pages' : List Page) → Extends pages pages' → ZerosBeyond (length pages) pages'
    → ((p : ℕ) → length pages ≤ p → base p ≡ zero_page)
    → Behind n base log pages → Behind n base log pages'
unfolding Behind run
behind_grow n base log pages pages' e z b h p l = go (dec_le (suc p) (length pages))
  where
    go : Dec (p < length pages) → (a : List Rec) × (c : List Rec) × (log ≡ a ++ c) × (at pages' p ≡ page_run p n a (base p))
    go (yes i) = let (a, c, w, f) = h p i in (a, c, w, e.same p i ∙ f)
    go (no i) = ([], log, refl, z p (omega arith) ∙ sym (b p (omega arith)))

-- A page that no record of the log changes.
inside_miss : (n : ℕ) (ps : List ℕ) (p : ℕ) → n ≤ p → Inside n ps → member p ps ≡ false
unfolding Inside member
inside_miss n [] p h i = refl
inside_miss n (q ∷ qs) p h i = let a = i.0 in rw (neq_false {a = p} {b = q} (omega arith)) (inside_miss n qs p h i.1)

run_missed : (n m : ℕ) (log : List Rec) (p : ℕ) (x : Page) → m ≤ p → AllInside m log → page_run p n log x ≡ x
unfolding run run1 AllInside
run_missed n m [] p x h i = refl
run_missed n m (r ∷ l) p x h i =
    let e : hits p r ≡ false = sym (member_places r p) ∙ inside_miss m (places r) p h i.0 in
    rw e (run_missed (suc n) m l p x h i.1)

pub current_grow : (n : ℕ) (base : ℕ → Page) (log : List Rec) (pages pages' : List Page) → Extends pages pages' → ZerosBeyond (length pages) pages'
    → ((p : ℕ) → length pages ≤ p → base p ≡ zero_page)
    → AllInside (length pages) log → Current n base log pages → Current n base log pages'
unfolding Current
current_grow n base log pages pages' e z b i h p l = go (dec_le (suc p) (length pages))
  where
    go : Dec (p < length pages) → at pages' p ≡ page_run p n log (base p)
    go (yes j) = e.same p j ∙ h p j
    go (no j) = z p (omega arith) ∙ sym (b p (omega arith)) ∙ sym (run_missed n (length pages) log p (base p) (omega arith) i)
