-- What updates and lookups have of pages that keep their layout, besides the tree rules.
use Rattle.std.specs.Prelude.{ℕ, suc, ◌≡◌, ◌≢◌, true, List, [], ◌∷◌, ◌++◌, length}
use Rattle.std.proofs.Common.{sym, ap, subst, append-nil, arith}
use Rattle.def_layout.specs.declared.Entry.{Entry}
use Rattle.def_layout.specs.Entries.{seek}
use Rattle.def_layout.specs.Pages.{Page, at}
use Rattle.def_layout.specs.Records.{Kind, begin, insert, delete, undo_insert, undo_delete, split, link, unlink, merge, redistribute, raise, lower, kind_number, Rec, data_row}
use Rattle.def_model.specs.TreeRules.{levels_of, leaf_records, tree_ok}
use Rattle.def_model.specs.Lookup.{next_above}
use Rattle.def_model.specs.Update.{Run}
use Rattle.def_model.specs.Log.{slots_from, slots_ok}
use Rattle.theory_tree.specs.Shape.Rules.{pages_pos}
use Rattle.theory_tree.specs.Test.Test.{test_sound}
use Rattle.theory_tree.specs.Step.Steps.{Adding, by_insert, by_undo_delete, Removing, by_delete, by_undo_insert}
use Rattle.theory_update.specs.Run.Keeps.{Structural, splitting, linking, unlinking, merging, sharing, raising, lowering}
use Rattle.theory_update.specs.Run.Wrote.{AllStructural, Wrote, wrote_recs}
use Rattle.theory_update.specs.Run.Lawful.{Lawful}
use Rattle.theory_update.specs.Laws.{Ready, Kept, ready_live}
use Rattle.theory_update.specs.Find.Fetching.{next_above_is}
use Rattle.theory_fit.specs.Clean.{Clean}
use Rattle.theory_pages.specs.Layout.{Laid, map_laid}
use Rattle.theory_pages.specs.Restartable.{prefix_laid, prefix_clean, AllBegin, lawful_slots}

module _ (s t : Run) (L : List Entry) (ready : Ready s) (kept : Kept s t L) where
  whole : Lawful s.due s.pages (levels_of s.pages) (kept.recs ++ []) (levels_of t.pages)
  whole = subst (λ r. Lawful s.due s.pages (levels_of s.pages) r (levels_of t.pages)) (sym (append-nil kept.recs)) kept.lawful

  pub kept_laid : Laid s.pages → Laid t.pages
  kept_laid d = subst Laid (sym kept.pages) (prefix_laid kept.recs [] whole ready.few (ready_live s ready).rules ready.lows d)

  pub kept_clean : Clean s.pages → Clean t.pages
  kept_clean c = subst Clean (sym kept.pages) (prefix_clean kept.recs [] whole ready.few (ready_live s ready).rules ready.lows c)

  -- Its records keep their rows and name pages of the area.
  pub kept_slots : AllBegin s.due kept.recs → slots_ok (length s.pages) s.due (slots_from s.due kept.recs) ≡ true
  kept_slots b =
      subst (λ z. slots_ok (length s.pages) s.due z ≡ true) (append-nil (slots_from s.due kept.recs))
      (lawful_slots kept.lawful ready.few (ready_live s ready).rules ready.lows b 0)

-- ---- an update writes no begin

kind_differs : (a b : Kind) → kind_number a ≢ kind_number b → a ≢ b
kind_differs a b n e = n (ap kind_number e)

structural_not_begin : (k : Kind) → Structural k → k ≢ begin
unfolding kind_number
structural_not_begin k splitting = kind_differs split begin (λ z. omega (arith, z))
structural_not_begin k linking = kind_differs link begin (λ z. omega (arith, z))
structural_not_begin k unlinking = kind_differs unlink begin (λ z. omega (arith, z))
structural_not_begin k merging = kind_differs merge begin (λ z. omega (arith, z))
structural_not_begin k sharing = kind_differs redistribute begin (λ z. omega (arith, z))
structural_not_begin k raising = kind_differs raise begin (λ z. omega (arith, z))
structural_not_begin k lowering = kind_differs lower begin (λ z. omega (arith, z))

pub adding_not_begin : (kind : Kind) → Adding kind → kind ≢ begin
unfolding kind_number
adding_not_begin kind by_insert = kind_differs insert begin (λ z. omega (arith, z))
adding_not_begin kind by_undo_delete = kind_differs undo_delete begin (λ z. omega (arith, z))

pub removing_not_begin : (kind : Kind) (v u : ℕ) → Removing kind v u → kind ≢ begin
unfolding kind_number
removing_not_begin kind v u by_delete = kind_differs delete begin (λ z. omega (arith, z))
removing_not_begin kind v u by_undo_insert = kind_differs undo_insert begin (λ z. omega (arith, z))

body_begins : (n : ℕ) (body : List Rec) (r : Rec) → AllStructural body → r.kind ≢ begin → AllBegin n (body ++ r ∷ [])
unfolding AllBegin AllStructural
body_begins n [] r a d = ((λ e. absurd (d e)), tt)
body_begins n (x ∷ body) r a d = ((λ e. absurd (structural_not_begin x.kind a.0 e)), body_begins (suc n) body r a.1 d)

pub update_begins : (n : ℕ) (s t : Run) (kind : Kind) (batch previous k v : ℕ) (recs : List Rec) → t.log ≡ s.log ++ recs
    → Wrote s t kind batch previous k v → kind ≢ begin → AllBegin n recs
update_begins n s t kind batch previous k v recs e w d =
    subst (AllBegin n) (sym (wrote_recs s t kind batch previous k v recs e w)) (body_begins n w.body (data_row kind batch previous w.page k v) w.structural d)

-- ---- next, where pages keep their layout

pub next_above_laid : (k : ℕ) (pages : List Page) → tree_ok pages ≡ true → Laid pages → next_above k pages ≡ seek (suc k) (leaf_records pages)
next_above_laid k pages t d =
    let p = pages_pos pages (levels_of pages) (test_sound pages t) in
    next_above_is k pages t (map_laid (length pages) (at pages 0) (d 0 (omega arith))).none_held
