-- From the test of soundness to what it says: every sound register has slides, and a run on it starts from a core of soundness.
use Rattle.std.specs.Prelude.{ℕ, zero, suc, ◌+◌, ◌≤◌, ◌<◌, ◌≡◌, refl, true, List, [], ◌∷◌, length, leb, eqb}
use Rattle.std.proofs.Common.{sym, ◌∙◌, subst, arith, suc-add, add-suc, add-zero, zero-add}
use Rattle.std.proofs.lemmas.List.{length-map}
use Rattle.def_base.specs.Tests.{clash, and_true, true_le, every}
use Rattle.def_layout.specs.declared.Entry.{Entry}
use Rattle.def_layout.specs.declared.Desk.{Desk}
use Rattle.def_layout.specs.Entries.{top}
use Rattle.def_layout.specs.Pages.{Page, at, layout, map_bits}
use Rattle.def_layout.specs.PageBytes.{Block, page, other}
use Rattle.def_layout.specs.Rows.{row, names_pages}
use Rattle.def_layout.specs.RecordBytes.{Slot, empty, full, other}
use Rattle.def_model.specs.Areas.{Side, Areas, page_in, pages_of, block_ok, blocks_ok}
use Rattle.def_model.specs.Log.{records_of, slots_ok}
use Rattle.def_model.specs.Batches.{chain_ok}
use Rattle.def_model.specs.TreeRules.{Node, flat, bottom, leaves, tree_ok, levels_of, leaf_records}
use Rattle.def_model.specs.Sound.{sound, layouts_ok, log_ok, numbers_ok, work_pages, work_log, work_open}
use Rattle.def_model.specs.Calls.{run_of}
use Rattle.theory_tree.specs.Order.Keys.{Rising}
use Rattle.theory_tree.specs.Shape.Levels.{chain_rising}
use Rattle.theory_tree.specs.Shape.Trees.{is_bottom, Levels}
use Rattle.theory_tree.specs.Step.Parts.{Lows}
use Rattle.theory_tree.specs.Test.Test.{test_sound}
use Rattle.theory_update.specs.Find.Fetching.{fetched_is}
use Rattle.theory_pages.specs.Layout.{Laid}
use Rattle.theory_ledger.specs.Small.{Small}
use Rattle.theory_ledger.specs.PendingRule.{pending_settles}
use Rattle.theory_history.specs.Core.{Core, RowsOk, NamesOk}
use Rattle.theory_calls.specs.Checks.{sound_parts}

-- ---- what the tests of an area say

blocks_laid : (n p : ℕ) (bs : List Block) → blocks_ok n p bs ≡ true → (i : ℕ) → i < length bs → layout n (p + i) (at (pages_of bs) i) ≡ true
unfolding blocks_ok block_ok page_in
blocks_laid n p [] e i h = absurd (omega arith)
blocks_laid n p (page x ∷ bs) e zero h = subst (λ z. layout n z x ≡ true) (sym (add-zero p)) (and_true (layout n p x) (blocks_ok n (suc p) bs) e).0
blocks_laid n p (page x ∷ bs) e (suc i) h =
    subst (λ z. layout n z (at (pages_of bs) i) ≡ true) (suc-add p i ∙ sym (add-suc p i)) (blocks_laid n (suc p) bs (and_true (layout n p x) (blocks_ok n (suc p) bs) e).1 i (omega arith))
blocks_laid n p (other b ∷ bs) e i h = clash (sym e)

pub side_laid : (s : Side) → layouts_ok s ≡ true → Laid (pages_of s.pages)
unfolding layouts_ok
side_laid s e p h =
    let l : length (pages_of s.pages) ≡ length s.pages = length-map s.pages page_in in
    subst (λ z. layout z p (at (pages_of s.pages) p) ≡ true) (sym l) (subst (λ z. layout (length s.pages) z (at (pages_of s.pages) p) ≡ true) (zero-add p) (blocks_laid (length s.pages) 0 s.pages e p (omega arith)))

pub slots_rows : (n m : ℕ) (s : List Slot) → slots_ok n m s ≡ true → RowsOk m (records_of s) × NamesOk n (records_of s)
unfolding slots_ok records_of RowsOk NamesOk
slots_rows n m [] e = (tt, tt)
slots_rows n m (empty ∷ s) e = (tt, tt)
slots_rows n m (full k r ∷ s) e =
    let (a, e₁) = and_true (eqb k m) _ e in
    let (b, e₂) = and_true (row m r) _ e₁ in
    let (c, e₃) = and_true (names_pages n r) (slots_ok n (suc m) s) e₂ in
    let (x, y) = slots_rows n (suc m) s e₃ in
    ((b, x), (c, y))
slots_rows n m (other b ∷ s) e = (tt, tt)

pub numbers_low : (last : ℕ) (xs : List Page) → numbers_ok last xs ≡ true → (p : ℕ) → p < length xs → (at xs p).lsn < suc last
unfolding numbers_ok every
numbers_low last [] e p h = absurd (omega arith)
numbers_low last (x ∷ xs) e zero h = let y = true_le x.lsn last (and_true (leb x.lsn last) _ e).0 in omega arith
numbers_low last (x ∷ xs) e (suc p) h = numbers_low last xs (and_true (leb x.lsn last) _ e).1 p (omega arith)

-- The records in the leaves rise.
bottom_rises : (pages : List Page) (ls : List (List Node)) → Levels pages ls → Rising 0 (flat (bottom ls))
unfolding Levels bottom flat Rising
bottom_rises pages [] k = tt
bottom_rises pages (l ∷ []) k = chain_rising (is_bottom 0) 0 l (suc top) k.0.chain
bottom_rises pages (l ∷ m ∷ ls) k = bottom_rises pages (m ∷ ls) k.1

pub leaves_rise : (pages : List Page) → tree_ok pages ≡ true → Rising 0 (leaf_records pages)
unfolding leaf_records leaves
leaves_rise pages t = bottom_rises pages (levels_of pages) (test_sound pages t).levels

-- No page is ahead of the log.
pub sound_lows : (a : Areas) (d : Desk) → sound a d ≡ true → Lows (suc (length (work_log a))) (work_pages a)
unfolding log_ok
sound_lows a d s =
    let (slots, e₁) = and_true (slots_ok (length a.work.pages) 1 a.work.log) _ (sound_parts a d s).log in
    numbers_low (length (work_log a)) (work_pages a) (and_true (chain_ok 1 (work_log a) []) _ e₁).1

-- ---- the core

-- THE SLIDES OF A SOUND REGISTER: those that its open batches would leave behind, were they all undone. (Keys have 32 bits.)
pub sound_core : (a : Areas) (d : Desk) → sound a d ≡ true → length a.work.pages ≤ map_bits → Small (work_open a) → (sl : List Entry) × Core (length a.work.pages) (run_of a) sl
unfolding run_of log_ok
sound_core a d s few small =
    let parts = sound_parts a d s in
    let n = length a.work.pages in
    let (slots, e₁) = and_true _ _ parts.log in
    let chain = (and_true (chain_ok 1 (work_log a) []) _ e₁).0 in
    let (rows, names) = slots_rows n 1 a.work.log slots in
    let (sl, settles) = pending_settles (work_pages a) (leaf_records (work_pages a)) (λ k t. fetched_is k (work_pages a) parts.tree t) (work_open a) small (leaves_rise (work_pages a) parts.tree) parts.pending in (
      sl,
      record {
        size = length-map a.work.pages page_in;
        tree = parts.tree;
        lows = sound_lows a d s;
        laid = side_laid a.work parts.layouts;
        rows = rows;
        names = names;
        chain = chain;
        small = small;
        settles = settles;
        due = refl;
        goes = refl;
      },
    )
