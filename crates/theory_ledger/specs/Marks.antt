-- WHAT A MARK KEEPS of a batch's pending lines (02, U2), and that it is every line up to the mark and no other.
use Rattle.std.specs.Prelude.{ℕ, suc, ◌+◌, ◌≤◌, ◌<◌, ◌≡◌, refl, ◌↔◌, ◌⊎◌, Bool, true, false, List, [], ◌∷◌, length, ltb}
use Rattle.std.proofs.Common.{sym, ap, inl, inr, arith}
use Rattle.std.proofs.Math.Option.{some}
use Rattle.def_base.specs.Tests.{pick, Case, yes!, no!, case, clash, any, true_lt, false_lt}
use Rattle.def_layout.specs.declared.Entry.{Entry}
use Rattle.def_layout.specs.Records.{Rec}
use Rattle.def_model.specs.Batches.{Line, Batch, find_batch, open_batches}
use Rattle.theory_ledger.specs.HeldBy.{In, here, there, in_any}
use Rattle.theory_ledger.specs.Settles.{undo_apply}
use Rattle.theory_ledger.specs.Batching.{Falls, within_found}
use Rattle.theory_ledger.specs.Telling.{numbered_open}

-- The lines from the first that is not above the mark on.
unfoldable pub kept : (mark : ℕ) → List Line → List Line
kept mark [] = []
kept mark (l ∷ ls) = pick (ltb mark l.number) (kept mark ls) (l ∷ ls)

-- How many lines are before them.
unfoldable pub above : (mark : ℕ) → List Line → ℕ
above mark [] = 0
above mark (l ∷ ls) = pick (ltb mark l.number) (suc (above mark ls)) 0

pub above_kept : (mark : ℕ) (ls : List Line) → above mark ls + length (kept mark ls) ≡ length ls
unfolding kept above
above_kept mark [] = refl
above_kept mark (l ∷ ls) = go (ltb mark l.number) (above_kept mark ls)
  where
    go : (b : Bool) → above mark ls + length (kept mark ls) ≡ length ls → pick b (suc (above mark ls)) 0 + length (pick b (kept mark ls) (l ∷ ls)) ≡ suc (length ls)
    go true i = omega arith
    go false i = omega arith

-- A list of slides once the lines above the mark are taken back, the newest first.
unfoldable pub taken_back : (mark : ℕ) → List Line → List Entry → List Entry
taken_back mark [] es = es
taken_back mark (l ∷ ls) es = pick (ltb mark l.number) (taken_back mark ls (undo_apply l es)) es

-- A batch with another last record and these lines.
unfoldable pub left_with : (last : ℕ) → List Line → Batch → Batch
left_with last ls b = record { number = b.number; last = last; marked = b.marked; lines = ls }

-- ---- of lines whose numbers fall

-- A return to 0 keeps none.
pub kept_none : (n : ℕ) (ls : List Line) → Falls n ls → kept 0 ls ≡ []
unfolding kept Falls
kept_none n [] h = refl
kept_none n (l ∷ ls) h = go (case (ltb 0 l.number)) (kept_none l.number ls h.2)
  where
    go : Case (ltb 0 l.number) → kept 0 ls ≡ [] → pick (ltb 0 l.number) (kept 0 ls) (l ∷ ls) ≡ []
    go (yes! t) i = rw (t, i)
    go (no! t) i = let a = false_lt 0 l.number t in let b = h.0 in absurd (omega arith)

pub in_first : {x y : Line} {ys : List Line} → In x (y ∷ ys) → (x ≡ y) ⊎ In x ys
in_first here = inl refl
in_first (there i) = inr i

pub in_falls : (n : ℕ) (x : Line) (ls : List Line) → Falls n ls → In x ls → x.number < n
unfolding Falls any
in_falls n x [] h i = clash (sym (in_any (λ (y : Line). true) x i refl))
in_falls n x (l ∷ ls) h i = go (in_first i) (in_falls l.number x ls h.2)
  where
    go : (x ≡ l) ⊎ In x ls → (In x ls → x.number < l.number) → x.number < n
    go (inl e) k = let a = h.1 in let b : x.number ≡ l.number = ap (λ y. y.number) e in omega arith
    go (inr i) k = let a = h.1 in let b = k i in omega arith

-- KEPT ARE THE LINES UP TO THE MARK.
pub kept_means : (mark n : ℕ) (ls : List Line) → Falls n ls → (x : Line) → In x (kept mark ls) ↔ (In x ls × (x.number ≤ mark))
unfolding kept Falls any
kept_means mark n [] h x = ((λ i. clash (sym (in_any (λ (y : Line). true) x i refl))), λ p. p.0)
kept_means mark n (l ∷ ls) h x = go (case (ltb mark l.number)) (kept_means mark l.number ls h.2 x)
  where
    up : mark < l.number → x.number ≤ mark → (x ≡ l) ⊎ In x ls → In x ls
    up a b (inl e) = let c : x.number ≡ l.number = ap (λ y. y.number) e in absurd (omega arith)
    up a b (inr j) = j

    low : l.number ≤ mark → (x ≡ l) ⊎ In x ls → x.number ≤ mark
    low a (inl e) = let c : x.number ≡ l.number = ap (λ y. y.number) e in omega arith
    low a (inr j) = let b = in_falls l.number x ls h.2 j in omega arith

    go : Case (ltb mark l.number) → In x (kept mark ls) ↔ (In x ls × (x.number ≤ mark)) → In x (pick (ltb mark l.number) (kept mark ls) (l ∷ ls)) ↔ (In x (l ∷ ls) × (x.number ≤ mark))
    go (yes! t) i = rw t ((λ p. let q = i.0 p in (there q.0, q.1)), λ p. i.1 (up (true_lt mark l.number t) p.1 (in_first p.0), p.1))
    go (no! t) i = rw t ((λ p. (p, low (false_lt mark l.number t) (in_first p))), λ p. p.0)

-- ---- of every log

-- So it is of the lines that a log says are pending.
pub open_falls : (log : List Rec) (n : ℕ) (b : Batch) → find_batch n (open_batches log) ≡ some b → Falls (suc (length log)) b.lines
open_falls log n b e = within_found (length log) n (open_batches log) b (numbered_open log).within e
