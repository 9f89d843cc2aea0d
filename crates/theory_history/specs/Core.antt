-- What holds of a run on sound areas, and that every lawful record more keeps it.
use Rattle.std.specs.Prelude.{ℕ, suc, ◌+◌, ◌≤◌, ◌≡◌, refl, true, List, [], ◌∷◌, ◌++◌, length}
use Rattle.std.proofs.Common.{sym, ap, ◌∙◌, subst, arith, suc-add, add-suc, add-zero, length-append}
use Rattle.def_layout.specs.declared.Entry.{Entry}
use Rattle.def_layout.specs.Pages.{map_bits}
use Rattle.def_layout.specs.Entries.{top}
use Rattle.def_layout.specs.Records.{Rec, insert}
use Rattle.def_layout.specs.Rows.{row, names_pages}
use Rattle.def_model.specs.Redo.{redo_record}
use Rattle.def_model.specs.TreeRules.{Node, tree_ok, levels_of, leaves, leaf_records}
use Rattle.def_model.specs.Update.{Run}
use Rattle.def_model.specs.Batches.{tell, open_batches, chain_ok, chain_step}
use Rattle.theory_redo.specs.Area.{length_redo_record}
use Rattle.theory_tree.specs.Shape.Rules.{Rules}
use Rattle.theory_tree.specs.Test.Test.{test_sound, test_complete, rules_levels}
use Rattle.theory_tree.specs.Step.Steps.{Step}
use Rattle.theory_tree.specs.Step.Parts.{Lows}
use Rattle.theory_tree.specs.Step.Rules.{step_rules}
use Rattle.theory_tree.specs.Step.Leaves.{records_after, step_leaves}
use Rattle.theory_tree.specs.Step.Names.{step_names}
use Rattle.theory_update.specs.Run.Way.{written_by, lows_more}
use Rattle.theory_update.specs.Laws.{Ready}
use Rattle.theory_pages.specs.Rows.{Begins, step_row}
use Rattle.theory_pages.specs.Layout.{Laid}
use Rattle.theory_pages.specs.StepLayout.{step_laid}
use Rattle.theory_ledger.specs.Small.{Small}
use Rattle.theory_ledger.specs.Settles.{Settles}
use Rattle.theory_ledger.specs.Telling.{open_more, chain_more, slides_by}

-- ---- the log's records

-- Every record keeps its row, and names pages among n.
unfoldable pub RowsOk : ℕ → List Rec → Type 0
RowsOk m [] = Unit {0}
RowsOk m (r ∷ l) = (row m r ≡ true) × RowsOk (suc m) l

unfoldable pub NamesOk : ℕ → List Rec → Type 0
NamesOk n [] = Unit {0}
NamesOk n (r ∷ l) = (names_pages n r ≡ true) × NamesOk n l

pub rows_append : (m : ℕ) (a b : List Rec) → RowsOk m a → RowsOk (m + length a) b → RowsOk m (a ++ b)
unfolding RowsOk
rows_append m [] b h k = subst (λ z. RowsOk z b) (add-zero m) k
rows_append m (r ∷ a) b h k = (h.0, rows_append (suc m) a b h.1 (subst (λ z. RowsOk z b) (add-suc m (length a) ∙ sym (suc-add m (length a))) k))

pub names_append : (n : ℕ) (a b : List Rec) → NamesOk n a → NamesOk n b → NamesOk n (a ++ b)
unfolding NamesOk
names_append n [] b h k = k
names_append n (r ∷ a) b h k = (h.0, names_append n a b h.1 k)

-- ---- the core of soundness

-- A run of n pages that goes on: the tree rules, the layout, the log's rows, names and chain, and the pending rule with these slides.
pub record Core (n : ℕ) (s : Run) (slides : List Entry) : Type 0 where
  pub size : length s.pages ≡ n
  pub tree : tree_ok s.pages ≡ true
  pub lows : Lows s.due s.pages
  pub laid : Laid s.pages
  pub rows : RowsOk 1 s.log
  pub names : NamesOk n s.log
  pub chain : chain_ok 1 s.log [] ≡ true
  pub small : Small (open_batches s.log)
  pub settles : Settles slides (leaf_records s.pages) (open_batches s.log)
  pub due : s.due ≡ suc (length s.log)
  pub goes : s.stop ≡ 0

-- One record more: a step of the tree that keeps the chain, and does to slides and batches what it says.
pub record NextRecord (s : Run) (slides : List Entry) (r : Rec) (slides' : List Entry) : Type 0 where
  pub after : List (List Node)
  pub step : Step s.pages (levels_of s.pages) r after
  pub begins : Begins s.due r
  pub small_value : r.kind ≡ insert → r.second ≤ top
  pub keeps_chain : chain_step s.due r (open_batches s.log) ≡ true
  pub keeps_small : Small (tell r.kind s.due r (open_batches s.log))
  pub story : slides' ≡ slides_by r.kind r (open_batches s.log) slides
  pub tells : Settles slides' (records_after r.kind r.key r.second (leaf_records s.pages)) (tell r.kind s.due r (open_batches s.log))

pub core_ready : (n : ℕ) → n ≤ map_bits → (s : Run) (slides : List Entry) → Core n s slides → Ready s
core_ready n most s slides c = let e = c.size in record { test = c.tree; lows = c.lows; goes = c.goes; few = omega arith }

pub told_due : (n : ℕ) (s : Run) (slides : List Entry) (r : Rec) → Core n s slides → open_batches (s.log ++ r ∷ []) ≡ tell r.kind s.due r (open_batches s.log)
told_due n s slides r c = open_more s.log r ∙ ap (λ m. tell r.kind m r (open_batches s.log)) (sym c.due)

pub core_more : (n : ℕ) → n ≤ map_bits → (s : Run) (slides slides' : List Entry) (r : Rec) → Core n s slides → NextRecord s slides r slides' → Core n (written_by r s) slides'
unfolding leaf_records RowsOk NamesOk
core_more n most s slides slides' r c x =
    let e = c.size in
    let few : length s.pages ≤ map_bits = omega arith in
    let k : Rules s.pages (levels_of s.pages) = test_sound s.pages c.tree in
    let k' = step_rules s.due s.pages few c.lows (levels_of s.pages) x.after r x.step k in
    let l = length_redo_record s.due r s.pages in
    let d = c.due in
    let names : names_pages n r ≡ true = subst (λ m. names_pages m r ≡ true) e (step_names s.pages (levels_of s.pages) x.after r x.step k) in
    let tells = told_due n s slides r c in
    let num : s.due ≡ 1 + length s.log = omega arith in
    let app = length-append s.log (r ∷ []) in
    record {
      size = l ∙ e;
      tree = test_complete (redo_record s.due r s.pages) x.after k';
      lows = lows_more s.due r s.pages c.lows;
      laid = step_laid s.due s.pages few c.lows c.laid (levels_of s.pages) x.after r x.step k;
      rows = rows_append 1 s.log (r ∷ []) c.rows (subst (λ m. row m r ≡ true) num (step_row s.due s.pages (levels_of s.pages) x.after r few x.step k x.begins), tt);
      names = names_append n s.log (r ∷ []) c.names (names, tt);
      chain = chain_more s.log r c.chain (subst (λ m. chain_step m r (open_batches s.log) ≡ true) d x.keeps_chain);
      small = subst Small (sym tells) x.keeps_small;
      settles =
          subst (λ z. Settles slides' z (open_batches (s.log ++ r ∷ [])))
          (sym (ap leaves (rules_levels (redo_record s.due r s.pages) x.after k') ∙ step_leaves s.pages (levels_of s.pages) x.after r x.step k))
          (subst (λ z. Settles slides' (records_after r.kind r.key r.second (leaf_records s.pages)) z) (sym tells) x.tells);
      due = omega arith;
      goes = refl;
    }
