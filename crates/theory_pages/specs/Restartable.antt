-- Of a lawful log restart answers neither 3 nor 4 for pages, slots and numbers, however far each page is behind; and what redo leads to.
use Rattle.std.specs.Prelude.{ℕ, zero, suc, ◌+◌, ◌≤◌, ◌<◌, ◌≡◌, refl, Bool, true, List, [], ◌∷◌, ◌++◌, map, length, replicate, leb}
use Rattle.std.proofs.Common.{sym, ap, ◌∙◌, subst, arith, suc-add, add-suc, add-zero, zero-add}
use Rattle.def_base.specs.Tests.{eq_true, le_true, and_both, every}
use Rattle.def_layout.specs.Pages.{Page, at, map_bits, layout}
use Rattle.def_layout.specs.PageBytes.{page}
use Rattle.def_layout.specs.Records.{Rec}
use Rattle.def_layout.specs.RecordBytes.{empty}
use Rattle.def_model.specs.Change.{act, hits, act_stamp}
use Rattle.def_model.specs.Redo.{replay}
use Rattle.def_model.specs.TreeRules.{Node, levels_of, leaves, leaf_records, tree_ok}
use Rattle.def_model.specs.Log.{last_number, is_empty, slots_from, slots_ok}
use Rattle.def_model.specs.Areas.{block_ok, blocks_ok}
use Rattle.def_model.specs.Sound.{numbers_ok}
use Rattle.theory_redo.specs.OnePage.{redo_fresh}
use Rattle.theory_redo.specs.Area.{lsn_of, length_redo_record, length_replay, get_replay}
use Rattle.theory_redo.specs.Current.{page_run, Behind, redo_current, current_unique, current_behind, base_current, behind_more, behind_numbers}
use Rattle.theory_tree.specs.Shape.Rules.{Rules}
use Rattle.theory_tree.specs.Test.Test.{test_complete, rules_levels}
use Rattle.theory_tree.specs.Step.Parts.{Lows}
use Rattle.theory_tree.specs.Step.Rules.{step_rules}
use Rattle.theory_tree.specs.Step.Names.{step_names}
use Rattle.theory_update.specs.Run.Way.{lows_more}
use Rattle.theory_update.specs.Run.Lawful.{Lawful, here, next, lawful_rules, records_after_all, lawful_leaves}
use Rattle.theory_fit.specs.Clean.{Clean, step_clean}
use Rattle.theory_fit.specs.NeverFive.{lows_everywhere}
use Rattle.theory_pages.specs.Rows.{Begins, step_row}
use Rattle.theory_pages.specs.Layout.{Laid}
use Rattle.theory_pages.specs.StepLayout.{step_laid}

-- ---- pages (3)

-- After every first part of the log.
pub prefix_laid : {n : ℕ} {pages : List Page} {ls ls' : List (List Node)} (a b : List Rec) → Lawful n pages ls (a ++ b) ls' → length pages ≤ map_bits
    → Rules pages ls → Lows n pages → Laid pages → Laid (replay n a pages)
unfolding replay
prefix_laid [] b w f k l d = d
prefix_laid {n} {pages} {ls} (r ∷ a) b (next {ls₁ = ls₁} j w) f k l d =
    prefix_laid {n = suc n} a b w (let e = length_redo_record n r pages in omega arith) (step_rules n pages f l ls ls₁ r j k) (lows_more n r pages l) (step_laid n pages f l d ls ls₁ r j k)

pub prefix_clean : {n : ℕ} {pages : List Page} {ls ls' : List (List Node)} (a b : List Rec) → Lawful n pages ls (a ++ b) ls' → length pages ≤ map_bits
    → Rules pages ls → Lows n pages → Clean pages → Clean (replay n a pages)
unfolding replay
prefix_clean [] b w f k l c = c
prefix_clean {n} {pages} {ls} (r ∷ a) b (next {ls₁ = ls₁} j w) f k l c =
    prefix_clean {n = suc n} a b w (let e = length_redo_record n r pages in omega arith) (step_rules n pages f l ls ls₁ r j k) (lows_more n r pages l) (step_clean n pages l c ls ls₁ r j k)

-- A page that holds the changes of a first part is that page of the area after it.
page_run_replay : (n : ℕ) (a : List Rec) (base : List Page) (p : ℕ) → p < length base → (at base p).lsn < n
    → page_run p n a (at base p) ≡ at (replay n a base) p
page_run_replay n a base p h l = sym (redo_fresh lsn_of (hits p) (act p) (act_stamp p) n a (at base p) l) ∙ sym (get_replay n a base p h)

pub behind_laid : (base : List Page) (ls ls' : List (List Node)) (log : List Rec) (pages : List Page) → Lawful 1 base ls log ls'
    → length base ≤ map_bits → Rules base ls → Lows 1 base → Laid base
    → length pages ≡ length base → Behind 1 (at base) log pages → Laid pages
unfolding Behind
behind_laid base ls ls' log pages w f k l d e h p i =
    let (a, b, u, v) = h p i in
    let j : p < length base = omega arith in
    let t = prefix_laid a b (subst (λ z. Lawful 1 base ls z ls') u w) f k l d p (subst (λ z. p < z) (sym (length_replay 1 a base)) j) in
    let m : length (replay 1 a base) ≡ length pages = length_replay 1 a base ∙ sym e in
    subst (λ z. layout z p (at pages p) ≡ true) m (subst (λ x. layout (length (replay 1 a base)) p x ≡ true) (sym (v ∙ page_run_replay 1 a base p j (l p j))) t)

-- The test of an area that holds such pages.
blocks_laid : (n p : ℕ) (xs : List Page) → ((i : ℕ) → i < length xs → layout n (p + i) (at xs i) ≡ true) → blocks_ok n p (map page xs) ≡ true
unfolding blocks_ok block_ok
blocks_laid n p [] h = refl
blocks_laid n p (x ∷ xs) h =
    and_both (subst (λ z. layout n z x ≡ true) (add-zero p) (h 0 (omega arith)))
    (blocks_laid n (suc p) xs (λ i l. subst (λ z. layout n z (at xs i) ≡ true) (add-suc p i ∙ sym (suc-add p i)) (h (suc i) (omega arith))))

pub laid_blocks : (pages : List Page) → Laid pages → blocks_ok (length pages) 0 (map page pages) ≡ true
laid_blocks pages d = blocks_laid (length pages) 0 pages (λ i l. subst (λ z. layout (length pages) z (at pages i) ≡ true) (sym (zero-add i)) (d i l))

-- ---- slots (4)

unfoldable pub AllBegin : ℕ → List Rec → Type 0
AllBegin n [] = Unit {0}
AllBegin n (r ∷ l) = Begins n r × AllBegin (suc n) l

every_empty : (k : ℕ) → every is_empty (replicate k empty) ≡ true
unfolding every is_empty
every_empty zero = refl
every_empty (suc k) = every_empty k

pub empty_slots : (pages n k : ℕ) → slots_ok pages n (replicate k empty) ≡ true
unfolding slots_ok
empty_slots pages n zero = refl
empty_slots pages n (suc k) = every_empty k

pub lawful_slots : {n : ℕ} {pages : List Page} {ls ls' : List (List Node)} {rs : List Rec} → Lawful n pages ls rs ls' → length pages ≤ map_bits
    → Rules pages ls → Lows n pages → AllBegin n rs
    → (k : ℕ) → slots_ok (length pages) n (slots_from n rs ++ replicate k empty) ≡ true
unfolding slots_ok slots_from AllBegin
lawful_slots {n} {pages} here f k l b e = empty_slots (length pages) n e
lawful_slots {n} {pages} {ls} (next {ls₁ = ls₁} {r = r} {rs = rs} j w) f k l b e =
    let m = length_redo_record n r pages in
    let i = lawful_slots w (omega arith) (step_rules n pages f l ls ls₁ r j k) (lows_more n r pages l) b.1 e in
    and_both (eq_true n n refl)
    (and_both (step_row n pages ls ls₁ r f j k b.0)
    (and_both (step_names pages ls ls₁ r j k) (subst (λ z. slots_ok z (suc n) (slots_from (suc n) rs ++ replicate e empty) ≡ true) m i)))

-- A page's number never exceeds the last record's.
every_at : (f : Page → Bool) (xs : List Page) → ((p : ℕ) → p < length xs → f (at xs p) ≡ true) → every f xs ≡ true
unfolding every
every_at f [] h = refl
every_at f (x ∷ xs) h = and_both (h 0 (omega arith)) (every_at f xs (λ p l. h (suc p) (omega arith)))

pub behind_numbers_ok : (base : List Page) (log : List Rec) (pages : List Page) → Lows 1 base → Behind 1 (at base) log pages
    → numbers_ok (last_number log) pages ≡ true
unfolding numbers_ok
behind_numbers_ok base log pages l h =
    every_at (λ x. leb x.lsn (length log)) pages
    (λ p i. let b = behind_numbers 1 (at base) log pages (lows_everywhere 0 base l) h p i in le_true (at pages p).lsn (length log) (omega arith))

-- ---- redo

-- The log, redone on pages that are each behind by their own amount, leads where it leads from the base: to pages that pass the test, and
-- whose leaves hold what the log makes of the base's.
pub record Redone (base : List Page) (ls : List (List Node)) (log : List Rec) (pages : List Page) : Type 0 where
  pub same : replay 1 log pages ≡ replay 1 log base
  pub test : tree_ok (replay 1 log pages) ≡ true
  pub holds : leaf_records (replay 1 log pages) ≡ records_after_all log (leaves ls)

pub redo_lawful : (base : List Page) (ls ls' : List (List Node)) (log : List Rec) (pages : List Page) → Lawful 1 base ls log ls'
    → length base ≤ map_bits → Rules base ls → Lows 1 base → length pages ≡ length base → Behind 1 (at base) log pages → Redone base ls log pages
unfolding leaf_records
redo_lawful base ls ls' log pages w f k l e h =
    let low = lows_everywhere 0 base l in
    let at_start = current_behind 1 (at base) [] base (base_current 1 (at base) base (λ p i. refl)) in
    let s : replay 1 log pages ≡ replay 1 log base
    = current_unique 1 (at base) log (replay 1 log pages) (replay 1 log base) (length_replay 1 log pages ∙ e ∙ sym (length_replay 1 log base))
    (redo_current 1 (at base) log pages low h) (redo_current 1 (at base) log base low (behind_more 1 (at base) [] log base at_start)) in
    let r = (lawful_rules w f k l).0 in
    record {
      same = s;
      test = ap tree_ok s ∙ test_complete (replay 1 log base) ls' r;
      holds = ap (λ z. leaves (levels_of z)) s ∙ ap leaves (rules_levels (replay 1 log base) ls' r) ∙ lawful_leaves w f k l;
    }
