-- The records of an update before its last change the tree alone: batches, slides and the leaves' records stay.
use Rattle.std.specs.Prelude.{ℕ, ◌≤◌, ◌≡◌, refl, true, List, [], ◌∷◌, ◌++◌, length, leb}
use Rattle.std.proofs.Common.{sym, ◌∙◌, subst, append_assoc, append-nil, arith}
use Rattle.std.proofs.Math.Path.{ap}
use Rattle.std.proofs.Math.Option.{Option, none}
use Rattle.def_base.specs.Tests.{and_both, le_true}
use Rattle.def_layout.specs.declared.Entry.{Entry}
use Rattle.def_layout.specs.Pages.{map_bits}
use Rattle.def_layout.specs.Records.{Rec, Kind, begin, insert}
use Rattle.def_model.specs.Redo.{redo_record}
use Rattle.def_model.specs.TreeRules.{Node, levels_of, leaves, leaf_records}
use Rattle.def_model.specs.Update.{Run}
use Rattle.def_model.specs.Batches.{Batch, tell, open_batches, chain_step, chains, find_batch}
use Rattle.theory_tree.specs.Shape.Rules.{Rules}
use Rattle.theory_tree.specs.Test.Test.{test_sound, rules_levels}
use Rattle.theory_tree.specs.Step.Steps.{Step}
use Rattle.theory_tree.specs.Step.Rules.{step_rules}
use Rattle.theory_tree.specs.Step.Leaves.{records_after, step_leaves}
use Rattle.theory_update.specs.Run.Keeps.{Structural, splitting, linking, unlinking, merging, sharing, raising, lowering}
use Rattle.theory_update.specs.Run.Wrote.{AllStructural}
use Rattle.theory_update.specs.Run.Way.{Way, stay, more, written_by}
use Rattle.theory_ledger.specs.Small.{Small}
use Rattle.theory_ledger.specs.Settles.{Settles}
use Rattle.theory_ledger.specs.Telling.{slides_by}
use Rattle.theory_history.specs.Core.{Core, NextRecord, told_due, core_more}
use Rattle.theory_history.specs.Notes.{few_open}
use Rattle.theory_history.specs.Trail.{Trail, trail_core}

-- ---- a record of the tree

-- It says nothing of batches.
pub record Silent (r : Rec) : Type 0 where
  pub tells_same : (m : ℕ) (bs : List Batch) → tell r.kind m r bs ≡ bs
  pub slides_same : (bs : List Batch) (es : List Entry) → slides_by r.kind r bs es ≡ es
  pub chains_true : (o : Option Batch) → chains r.kind r o ≡ true
  pub leaves_same : (es : List Entry) → records_after r.kind r.key r.second es ≡ es
  pub not_begin : r.kind ≡ begin → ⊥
  pub not_insert : r.kind ≡ insert → ⊥

kind_silent : (r : Rec) {k : Kind} → Structural k → (m : ℕ) (bs : List Batch) (es : List Entry) (o : Option Batch)
    → (tell k m r bs ≡ bs) × (slides_by k r bs es ≡ es) × (chains k r o ≡ true) × (records_after k r.key r.second es ≡ es) × (k ≡ begin → ⊥) × (k ≡ insert → ⊥)
unfolding tell slides_by chains records_after
kind_silent r splitting m bs es o = (refl, refl, refl, refl, (λ z. let w : ◌≡◌ {A = ℕ} 0 1 = cc in omega arith), λ z. let w : ◌≡◌ {A = ℕ} 0 1 = cc in omega arith)
kind_silent r linking m bs es o = (refl, refl, refl, refl, (λ z. let w : ◌≡◌ {A = ℕ} 0 1 = cc in omega arith), λ z. let w : ◌≡◌ {A = ℕ} 0 1 = cc in omega arith)
kind_silent r unlinking m bs es o = (refl, refl, refl, refl, (λ z. let w : ◌≡◌ {A = ℕ} 0 1 = cc in omega arith), λ z. let w : ◌≡◌ {A = ℕ} 0 1 = cc in omega arith)
kind_silent r merging m bs es o = (refl, refl, refl, refl, (λ z. let w : ◌≡◌ {A = ℕ} 0 1 = cc in omega arith), λ z. let w : ◌≡◌ {A = ℕ} 0 1 = cc in omega arith)
kind_silent r sharing m bs es o = (refl, refl, refl, refl, (λ z. let w : ◌≡◌ {A = ℕ} 0 1 = cc in omega arith), λ z. let w : ◌≡◌ {A = ℕ} 0 1 = cc in omega arith)
kind_silent r raising m bs es o = (refl, refl, refl, refl, (λ z. let w : ◌≡◌ {A = ℕ} 0 1 = cc in omega arith), λ z. let w : ◌≡◌ {A = ℕ} 0 1 = cc in omega arith)
kind_silent r lowering m bs es o = (refl, refl, refl, refl, (λ z. let w : ◌≡◌ {A = ℕ} 0 1 = cc in omega arith), λ z. let w : ◌≡◌ {A = ℕ} 0 1 = cc in omega arith)

pub tree_silent : (r : Rec) → Structural r.kind → Silent r
tree_silent r t =
    record {
      tells_same = λ m bs. (kind_silent r t m bs [] none).0;
      slides_same = λ bs es. (kind_silent r t 0 bs es none).1;
      chains_true = λ o. (kind_silent r t 0 [] [] o).2;
      leaves_same = λ es. (kind_silent r t 0 [] es none).3;
      not_begin = (kind_silent r t 0 [] [] none).4;
      not_insert = (kind_silent r t 0 [] [] none).5;
    }

pub tree_next : (n : ℕ) (s : Run) (sl : List Entry) (r : Rec) (ls' : List (List Node)) → Core n s sl → Structural r.kind → Step s.pages (levels_of s.pages) r ls' → NextRecord s sl r sl
unfolding chain_step
tree_next n s sl r ls' c t k =
    let x = tree_silent r t in
    let bs = open_batches s.log in
    let e = x.tells_same s.due bs in
    let f = few_open s.log c.chain in
    record {
      after = ls';
      step = k;
      begins = λ z. absurd (x.not_begin z);
      small_value = λ z. absurd (x.not_insert z);
      keeps_chain = and_both (x.chains_true (find_batch r.batch bs)) (subst (λ y. leb (length y) 8 ≡ true) (sym e) (le_true (length bs) 8 f));
      keeps_small = subst Small (sym e) c.small;
      story = sym (x.slides_same bs sl);
      tells = subst (λ y. Settles sl y (tell r.kind s.due r bs)) (sym (x.leaves_same (leaf_records s.pages))) (subst (λ y. Settles sl (leaf_records s.pages) y) (sym e) c.settles);
    }

-- ---- many of them

pub structural_cut : (a b : List Rec) → AllStructural (a ++ b) → AllStructural a × AllStructural b
unfolding AllStructural
structural_cut [] b h = (tt, h)
structural_cut (r ∷ a) b h = let (x, y) = structural_cut a b h.1 in ((h.0, x), y)

pub append_cancel : {A : Type 0} (a b c : List A) → a ++ b ≡ a ++ c → b ≡ c
append_cancel [] b c e = e
append_cancel (x ∷ a) b c e = append_cancel a b c (cc)

pub last_cancel : {A : Type 0} (a b : List A) (x y : A) → a ++ x ∷ [] ≡ b ++ y ∷ [] → (a ≡ b) × (x ≡ y)
last_cancel [] [] x y e = (refl, cc)
last_cancel [] (z ∷ b) x y e = absurd (no_end b y (cc))
  where
    no_end : {A : Type 0} (b : List A) (y : A) → [] ≡ b ++ y ∷ [] → ⊥
    no_end [] y e = let w : ◌≡◌ {A = ℕ} 0 1 = cc in omega arith
    no_end (z ∷ b) y e = let w : ◌≡◌ {A = ℕ} 0 1 = cc in omega arith
last_cancel (z ∷ a) [] x y e = absurd (no_end a x (cc))
  where
    no_end : {A : Type 0} (b : List A) (y : A) → b ++ y ∷ [] ≡ [] → ⊥
    no_end [] y e = let w : ◌≡◌ {A = ℕ} 0 1 = cc in omega arith
    no_end (z ∷ b) y e = let w : ◌≡◌ {A = ℕ} 0 1 = cc in omega arith
last_cancel (z ∷ a) (w ∷ b) x y e =
    let h : z ≡ w = cc in
    let (p, q) = last_cancel a b x y (cc) in
    ((λ i. h i ∷ p i), q)

-- What a way wrote.
pub way_log : {s t : Run} {ls ls' : List (List Node)} → Way s ls t ls' → (recs : List Rec) × (t.log ≡ s.log ++ recs)
way_log {s} stay = ([], sym (append-nil s.log))
way_log {s} (more {r = r} w k) = let (recs, e) = way_log w in (recs ++ r ∷ [], ap (◌++ r ∷ []) e ∙ append_assoc s.log recs (r ∷ []))

-- The levels and the leaves' records after a step.
module _ (n : ℕ) (most : n ≤ map_bits) (s : Run) (sl : List Entry) (r : Rec) (ls' : List (List Node)) (c : Core n s sl) (k : Step s.pages (levels_of s.pages) r ls') where
  rules_after : Rules (redo_record s.due r s.pages) ls'
  rules_after = let e = c.size in step_rules s.due s.pages (omega arith) c.lows (levels_of s.pages) ls' r k (test_sound s.pages c.tree)

  pub levels_after : ls' ≡ levels_of (redo_record s.due r s.pages)
  levels_after = sym (rules_levels (redo_record s.due r s.pages) ls' rules_after)

  pub leaves_after : leaf_records (redo_record s.due r s.pages) ≡ records_after r.kind r.key r.second (leaf_records s.pages)
  unfolding leaf_records
  leaves_after = ap leaves (sym levels_after) ∙ step_leaves s.pages (levels_of s.pages) ls' r k (test_sound s.pages c.tree)

-- A trail that says nothing of batches.
pub record Silently (n : ℕ) (s : Run) (sl : List Entry) (t : Run) (ls' : List (List Node)) : Type 0 where
  pub trail : Trail s sl t sl
  pub levels : ls' ≡ levels_of t.pages
  pub opens : open_batches t.log ≡ open_batches s.log
  pub leaves : leaf_records t.pages ≡ leaf_records s.pages

pub way_silent : (n : ℕ) → n ≤ map_bits → {s t : Run} {ls ls' : List (List Node)} (sl : List Entry) (recs : List Rec) → Core n s sl → ls ≡ levels_of s.pages → Way s ls t ls' → t.log ≡ s.log ++ recs → AllStructural recs
    → Silently n s sl t ls'
unfolding AllStructural
way_silent n most sl recs c e stay l a = record { trail = Trail.stay; levels = e; opens = refl; leaves = refl }
way_silent n most {s = s} sl recs c e (more {t = t} {ls₁ = l₁} {ls₂ = l₂} {r = r} w k) l a =
    let (recs₀, l₀) = way_log w in
    let q : recs₀ ++ r ∷ [] ≡ recs = append_cancel s.log (recs₀ ++ r ∷ []) recs (sym (append_assoc s.log recs₀ (r ∷ [])) ∙ ap (◌++ r ∷ []) (sym l₀) ∙ l) in
    let (a₁, a₂) = structural_cut recs₀ (r ∷ []) (subst AllStructural (sym q) a) in
    let x = way_silent n most sl recs₀ c e w l₀ a₁ in
    let d = trail_core most x.trail c in
    let k' : Step t.pages (levels_of t.pages) r l₂ = subst (λ z. Step t.pages z r l₂) x.levels k in
    let next = tree_next n t sl r l₂ d a₂.0 k' in
    let after = core_more n most t sl sl r d next in
    let y = tree_silent r a₂.0 in
    let lv : l₂ ≡ levels_of (written_by r t).pages = levels_after n most t sl r l₂ d k' in
    record {
      trail = Trail.more x.trail next;
      levels = lv;
      opens = told_due n t sl r d ∙ y.tells_same t.due (open_batches t.log) ∙ x.opens;
      leaves = leaves_after n most t sl r l₂ d k' ∙ y.leaves_same (leaf_records t.pages) ∙ x.leaves;
    }
