-- Histories start with an origin, and stay histories when the areas grow.
use Rattle.std.specs.Prelude.{ℕ, suc, ◌≤◌, ◌≡◌, refl, ◌&&◌, length, ltb}
use Rattle.std.proofs.Math.Path.{sym, subst}
use Rattle.std.proofs.Common.{ap, ◌∙◌, arith}
use mathlib.Core.List.{List, [], ◌∷◌, ◌++◌, append_assoc, append-nil}
use Rattle.def_base.specs.Tests.{and_true, and_both, true_lt, lt_true}
use Rattle.def_layout.specs.Pages.{Page, map_bits}
use Rattle.def_layout.specs.Records.{Rec}
use Rattle.def_layout.specs.Rows.{names_pages}
use Rattle.def_model.specs.Redo.{replay}
use Rattle.def_model.specs.TreeRules.{Node, levels_of, leaves, leaf_records}
use Rattle.def_model.specs.Batches.{open_batches, chain_ok, told}
use Rattle.theory_tree.specs.Shape.Rules.{Rules}
use Rattle.theory_tree.specs.Test.Test.{test_sound, rules_levels, test_complete}
use Rattle.theory_update.specs.Run.Lawful.{Lawful, here, next, lawful_rules}
use Rattle.theory_pages.specs.Layout.{Laid}
use Rattle.theory_pages.specs.Growth.{lawful_grow}
use Rattle.theory_pages.specs.Restartable.{AllBegin, prefix_laid}
use Rattle.theory_ledger.specs.Small.{Small}
use Rattle.theory_ledger.specs.Settles.{Settles, settles_none}
use Rattle.theory_ledger.specs.Telling.{slides_of, slides_from}
use Rattle.theory_history.specs.Origin.{Origin, origin_pages, origin_length, pages_low, origin_extends, origin_laid, origin_tree, levels_are, origin_held}
use Rattle.theory_history.specs.Start.{slides_after, pages_after, after_is, length_after, after_lows}
use Rattle.theory_history.specs.Core.{Core, RowsOk, NamesOk}
use Rattle.theory_history.specs.History.{History, run_after}

-- ---- the start

start_core : (o : Origin) (n : ℕ) → o.least ≤ n → n ≤ map_bits → Core n (run_after o n []) (slides_after o [])
unfolding pages_after replay RowsOk NamesOk Small slides_of slides_from open_batches told chain_ok
start_core o n least most =
    record {
      size = origin_length o n;
      tree = origin_tree o n least most;
      lows = pages_low o n least;
      laid = origin_laid o n least;
      rows = tt;
      names = tt;
      chain = refl;
      small = tt;
      settles = subst (λ es. Settles o.slides es []) (sym (origin_held o n least most)) (settles_none o.slides o.rising);
      due = refl;
      goes = refl;
    }

pub start_history : (o : Origin) (n : ℕ) → o.least ≤ n → n ≤ map_bits → History o n []
unfolding pages_after replay AllBegin
start_history o n least most = record { least = least; lawful = here; begins = tt; firsts = λ a b e. first a b e }
  where
    first : (a b : List Rec) → [] ≡ a ++ b → Core n (run_after o n a) (slides_after o a)
    first [] b e = start_core o n least most
    first (x ∷ a) b e = let w : ◌≡◌ {A = ℕ} 0 1 = cc in absurd (omega arith)

-- ---- a lawful log in parts

pub lawful_first : {m : ℕ} {pages : List Page} {ls ls' : List (List Node)} (a b : List Rec) → Lawful m pages ls (a ++ b) ls' → (ls₁ : List (List Node)) × Lawful m pages ls a ls₁
lawful_first {ls = ls} [] b h = (ls, here)
lawful_first {m} (r ∷ a) b (next k h) = let (l, x) = lawful_first {m = suc m} a b h in (l, next k x)

names_grow : (n m : ℕ) (log : List Rec) → n ≤ m → NamesOk n log → NamesOk m log
unfolding NamesOk names_pages
names_grow n m [] l h = tt
names_grow n m (r ∷ log) l h =
    let (a, bc) = and_true (ltb r.pageA n) (ltb r.pageB n && ltb r.pageC n) h.0 in
    let (b, c) = and_true (ltb r.pageB n) (ltb r.pageC n) bc in
    let x = true_lt r.pageA n a in
    let y = true_lt r.pageB n b in
    let z = true_lt r.pageC n c in
    (and_both (lt_true r.pageA m (omega arith)) (and_both (lt_true r.pageB m (omega arith)) (lt_true r.pageC m (omega arith))), names_grow n m log l h.1)

-- ---- growth

module _ (o : Origin) (n m : ℕ) (least : o.least ≤ n) (longer : n ≤ m) (most : m ≤ map_bits) where
  enough : o.least ≤ m
  enough = omega arith

  grown_lawful : (log : List Rec) (ls : List (List Node)) → Lawful 1 (origin_pages o n) (levels_of (origin_pages o n)) log ls → Lawful 1 (origin_pages o m) (levels_of (origin_pages o m)) log ls
  grown_lawful log ls w =
      subst (λ z. Lawful 1 (origin_pages o m) z log ls) (levels_are o n least (omega arith) ∙ sym (levels_are o m enough most)) (lawful_grow w (origin_pages o m) (origin_extends o n m least longer))

  few : length (origin_pages o m) ≤ map_bits
  few = let e = origin_length o m in omega arith

  rules : Rules (origin_pages o m) (levels_of (origin_pages o m))
  rules = test_sound (origin_pages o m) (origin_tree o m enough most)

  -- The same levels, whatever the count of pages.
  pub grown_rules : (log : List Rec) (ls : List (List Node)) → Lawful 1 (origin_pages o n) (levels_of (origin_pages o n)) log ls → Rules (pages_after o m log) ls
  grown_rules log ls w = subst (λ z. Rules z ls) (sym (after_is o m log)) (lawful_rules (grown_lawful log ls w) few rules (pages_low o m enough)).0

  lawful_levels : (log : List Rec) (ls : List (List Node)) → Lawful 1 (origin_pages o n) (levels_of (origin_pages o n)) log ls → levels_of (pages_after o n log) ≡ ls
  lawful_levels log ls w =
      let e = origin_length o n in
      rules_levels (pages_after o n log) ls
      (subst (λ z. Rules z ls) (sym (after_is o n log)) (lawful_rules w (omega arith) (test_sound (origin_pages o n) (origin_tree o n least (omega arith))) (pages_low o n least)).0)

  grown_core : (a : List Rec) (ls : List (List Node)) → Lawful 1 (origin_pages o n) (levels_of (origin_pages o n)) a ls → Core n (run_after o n a) (slides_after o a) → Core m (run_after o m a) (slides_after o a)
  unfolding leaf_records
  grown_core a ls w c =
      let k = grown_rules a ls w in
      let e = length_after o m a in
      record {
        size = e;
        tree = test_complete (pages_after o m a) ls k;
        lows = after_lows o m a;
        laid = subst Laid (sym (after_is o m a)) (prefix_laid a [] (subst (λ z. Lawful 1 (origin_pages o m) (levels_of (origin_pages o m)) z ls) (sym (append-nil a)) (grown_lawful a ls w)) few rules (pages_low o m enough) (origin_laid o m enough));
        rows = c.rows;
        names = names_grow n m a longer c.names;
        chain = c.chain;
        small = c.small;
        settles = subst (λ z. Settles (slides_after o a) (leaves z) (open_batches a)) (lawful_levels a ls w ∙ sym (rules_levels (pages_after o m a) ls k)) c.settles;
        due = refl;
        goes = refl;
      }

  -- A HISTORY STAYS ONE when pages are added.
  pub history_grow : (log : List Rec) → History o n log → History o m log
  history_grow log h =
      record {
        least = enough;
        lawful = subst (λ z. Lawful 1 (origin_pages o m) (levels_of (origin_pages o m)) log z) (sym (rules_levels (pages_after o m log) (levels_of (pages_after o n log)) (grown_rules log _ h.lawful))) (grown_lawful log _ h.lawful);
        begins = h.begins;
        firsts = λ a b e. let (ls, w) = lawful_first a b (subst (λ z. Lawful 1 (origin_pages o n) (levels_of (origin_pages o n)) z (levels_of (pages_after o n log))) e h.lawful) in grown_core a ls w (h.firsts a b e);
      }

-- A FIRST PART OF A HISTORY is one.
begins_first : (m : ℕ) (a b : List Rec) → AllBegin m (a ++ b) → AllBegin m a
unfolding AllBegin
begins_first m [] b h = tt
begins_first m (r ∷ a) b h = (h.0, begins_first (suc m) a b h.1)

pub history_first : (o : Origin) (n : ℕ) → o.least ≤ n → n ≤ map_bits → (a b : List Rec) → History o n (a ++ b) → History o n a
history_first o n least most a b h =
    let (ls, w) = lawful_first a b h.lawful in
    record {
      least = least;
      lawful = subst (λ z. Lawful 1 (origin_pages o n) (levels_of (origin_pages o n)) a z) (sym (lawful_levels o n n least (omega arith) most a ls w)) w;
      begins = begins_first 1 a b h.begins;
      firsts = λ x y e. h.firsts x (y ++ b) (ap (◌++ b) e ∙ append_assoc x y b);
    }
