-- A log whose every record is a step from where those before it lead; every first part of it leads to pages that keep the rules.
use Rattle.std.specs.Prelude.{ℕ, suc, ◌+◌, ◌≤◌, ◌≡◌, refl, List, [], ◌∷◌, ◌++◌, length}
use Rattle.std.proofs.Common.{sym, ap, ◌∙◌, subst, append_assoc, append-nil, arith, suc-add, add-suc, add-zero, length-append}
use Rattle.def_layout.specs.declared.Entry.{Entry}
use Rattle.def_layout.specs.Pages.{Page, map_bits}
use Rattle.def_layout.specs.Records.{Rec}
use Rattle.def_model.specs.Redo.{redo_record, replay}
use Rattle.def_model.specs.TreeRules.{Node, leaves}
use Rattle.def_model.specs.Update.{Run}
use Rattle.theory_redo.specs.Area.{length_redo_record, replay_append}
use Rattle.theory_tree.specs.Shape.Rules.{Rules}
use Rattle.theory_tree.specs.Step.Steps.{Step}
use Rattle.theory_tree.specs.Step.Parts.{Lows}
use Rattle.theory_tree.specs.Step.Rules.{step_rules}
use Rattle.theory_tree.specs.Step.Leaves.{records_after, step_leaves}
use Rattle.theory_update.specs.Run.Way.{Way, stay, more, lows_more}

-- A list of records, each a step from where those before it lead.
pub data Lawful : ℕ → List Page → List (List Node) → List Rec → List (List Node) → Type 0 where
  here : {n : ℕ} {pages : List Page} {ls : List (List Node)} → Lawful n pages ls [] ls
  next : {n : ℕ} {pages : List Page} {ls ls₁ ls₂ : List (List Node)} {r : Rec} {rs : List Rec} → Step pages ls r ls₁
      → Lawful (suc n) (redo_record n r pages) ls₁ rs ls₂ → Lawful n pages ls (r ∷ rs) ls₂

lawful_more : {n : ℕ} {pages : List Page} {ls ls₁ ls₂ : List (List Node)} {rs : List Rec} {r : Rec} → Lawful n pages ls rs ls₁
    → Step (replay n rs pages) ls₁ r ls₂ → Lawful n pages ls (rs ++ r ∷ []) ls₂
unfolding replay
lawful_more here k = next k here
lawful_more (next j h) k = next j (lawful_more h k)

-- One lawful list after another.
pub lawful_append : {n : ℕ} {pages : List Page} {ls ls₁ ls₂ : List (List Node)} {a b : List Rec} → Lawful n pages ls a ls₁
    → Lawful (n + length a) (replay n a pages) ls₁ b ls₂ → Lawful n pages ls (a ++ b) ls₂
unfolding replay
lawful_append {n} {pages} {ls} {ls₂ = ls₂} {b = b} here k = subst (λ z. Lawful z pages ls b ls₂) (add-zero n) k
lawful_append {n} {pages} {ls₂ = ls₂} {b = b} (next {ls₁ = m} {ls₂ = l} {r = r} {rs = rs} j h) k =
    next j (lawful_append h (subst (λ z. Lawful z (replay (suc n) rs (redo_record n r pages)) l b ls₂) (add-suc n (length rs) ∙ sym (suc-add n (length rs))) k))

pub record Written (s : Run) (ls : List (List Node)) (t : Run) (ls' : List (List Node)) : Type 0 where
  pub recs : List Rec
  pub written : t.log ≡ s.log ++ recs
  pub pages : t.pages ≡ replay s.due recs s.pages
  pub due : t.due ≡ s.due + length recs
  pub lawful : Lawful s.due s.pages ls recs ls'

pub way_written : {s t : Run} {ls ls' : List (List Node)} → Way s ls t ls' → Written s ls t ls'
unfolding replay
way_written {s} stay = record { recs = []; written = sym (append-nil s.log); pages = refl; due = omega arith; lawful = here }
way_written {s} (more {t = t} {ls₁ = l₁} {ls₂ = l₂} {r = r} w k) =
    let x = way_written w in
    let d = x.due in
    let l = length-append x.recs (r ∷ []) in
    record {
      recs = x.recs ++ r ∷ [];
      written = ap (◌++ r ∷ []) x.written ∙ append_assoc s.log x.recs (r ∷ []);
      pages = (λ i. redo_record (d i) r (x.pages i)) ∙ sym (replay_append s.due x.recs (r ∷ []) s.pages);
      due = omega arith;
      lawful = lawful_more x.lawful (subst (λ z. Step z l₁ r l₂) x.pages k);
    }

-- THE RULES HOLD AFTER EVERY FIRST PART.
pub prefix_rules : {n : ℕ} {pages : List Page} {ls ls' : List (List Node)} (a b : List Rec) → Lawful n pages ls (a ++ b) ls' → length pages ≤ map_bits
    → Rules pages ls → Lows n pages
    → (ls₁ : List (List Node)) × Rules (replay n a pages) ls₁ × Lows (n + length a) (replay n a pages)
    × Lawful (n + length a) (replay n a pages) ls₁ b ls'
unfolding replay
prefix_rules {n} {pages} {ls} {ls'} [] b h f k l = (ls, k, subst (λ z. Lows z pages) (sym (add-zero n)) l, subst (λ z. Lawful z pages ls b ls') (sym (add-zero n)) h)
prefix_rules {n} {pages} {ls} {ls'} (r ∷ a) b (next {ls₁ = ls₁} j h) f k l =
    let (m, x, y, z) = prefix_rules {n = suc n} a b h (let g = length_redo_record n r pages in omega arith) (step_rules n pages f l ls ls₁ r j k) (lows_more n r pages l) in
    let e = suc-add n (length a) ∙ sym (add-suc n (length a)) in
    (m, x, subst (λ w. Lows w (replay (suc n) a (redo_record n r pages))) e y, subst (λ w. Lawful w (replay (suc n) a (redo_record n r pages)) m b ls') e z)

-- And after the whole.
pub lawful_rules : {n : ℕ} {pages : List Page} {ls ls' : List (List Node)} {rs : List Rec} → Lawful n pages ls rs ls' → length pages ≤ map_bits
    → Rules pages ls
    → Lows n pages → Rules (replay n rs pages) ls' × Lows (n + length rs) (replay n rs pages)
unfolding replay
lawful_rules {n} {pages} here f k l = (k, subst (λ z. Lows z pages) (sym (add-zero n)) l)
lawful_rules {n} {pages} {ls} (next {ls₁ = ls₁} {r = r} {rs = rs} j h) f k l =
    let (x, y) = lawful_rules h (let g = length_redo_record n r pages in omega arith) (step_rules n pages f l ls ls₁ r j k) (lows_more n r pages l) in
    (x, subst (λ w. Lows w (replay (suc n) rs (redo_record n r pages))) (suc-add n (length rs) ∙ sym (add-suc n (length rs))) y)

-- ---- what the leaves hold

unfoldable pub records_after_all : List Rec → List Entry → List Entry
records_after_all [] l = l
records_after_all (r ∷ rs) l = records_after_all rs (records_after r.kind r.key r.second l)

pub lawful_leaves : {n : ℕ} {pages : List Page} {ls ls' : List (List Node)} {rs : List Rec} → Lawful n pages ls rs ls' → length pages ≤ map_bits
    → Rules pages ls → Lows n pages
    → leaves ls' ≡ records_after_all rs (leaves ls)
unfolding records_after_all
lawful_leaves here f k l = refl
lawful_leaves {n} {pages} {ls} (next {ls₁ = ls₁} {r = r} {rs = rs} j h) f k l =
    lawful_leaves h (let g = length_redo_record n r pages in omega arith) (step_rules n pages f l ls ls₁ r j k) (lows_more n r pages l) ∙ ap (records_after_all rs) (step_leaves pages ls ls₁ r j k)
