-- Held keys (locks) and 01's pending rule.
use Rattle.std.specs.Prelude.{ℕ, Bool, true, not, ◌&&◌, List, [], ◌∷◌, ◌++◌, leb, ltb, eqb}
use Rattle.std.proofs.Math.Option.{Option, none, some}
use Rattle.def_base.specs.Tests.{pick, any, every}
use Rattle.def_layout.specs.Pages.{Page}
use Rattle.def_model.specs.Fit.{found, found_value}
use Rattle.def_model.specs.Lookup.{fetched}
use Rattle.def_model.specs.Batches.{Line, Batch}

-- ---- held keys

unfoldable pub holds : Batch → ℕ → Bool
holds b k = any (λ l. eqb k l.key) b.lines

-- 01: "A key is held while an open batch has a record on it that is not yet undone (pending)": held against batch n.
unfoldable pub held : ℕ → ℕ → List Batch → Bool
held n k bs = any (λ b. not (eqb n b.number) && holds b k) bs

-- Another batch holds a key above `low`, up to `high`.
unfoldable pub held_between : ℕ → ℕ → ℕ → List Batch → Bool
held_between n low high bs = any (λ b. not (eqb n b.number) && any (λ l. ltb low l.key && leb l.key high) b.lines) bs

-- Another batch holds a key from `low` on, below `high`.
unfoldable pub held_from : ℕ → ℕ → ℕ → List Batch → Bool
held_from n low high bs = any (λ b. not (eqb n b.number) && any (λ l. leb low l.key && ltb l.key high) b.lines) bs

-- ---- the pending rule

-- The newest line on k.
unfoldable pub newest_on : ℕ → List Line → Option Line
newest_on k [] = none
newest_on k (l ∷ ls) = pick (eqb k l.key) (some l) (newest_on k ls)

-- 01: pending records on a key "alternate, a delete after an insert has its value".
unfoldable pub alternates : Line → Option Line → Bool
alternates l none = true
alternates l (some m) = pick l.adds (not m.adds) (m.adds && eqb l.value m.value)

unfoldable pub lines_alternate : List Line → Bool
lines_alternate [] = true
lines_alternate (l ∷ ls) = alternates l (newest_on l.key ls) && lines_alternate ls

-- 01: "the newest agrees with the tree": an insert's key is there with its value, a delete's is not.
unfoldable pub agrees : List Page → Line → Bool
agrees pages l = pick l.adds (found_value l.value (fetched l.key pages)) (not (found (fetched l.key pages)))

-- Each line that is the newest on its key, the lines in `newer` being newer still, agrees.
unfoldable pub newest_agree : List Page → List Line → List Line → Bool
newest_agree pages newer [] = true
newest_agree pages newer (l ∷ ls) = pick (found (newest_on l.key newer)) true (agrees pages l) && newest_agree pages (newer ++ l ∷ []) ls

-- 01: "pending records on a key are of one batch".
unfoldable pub apart : List Line → List Batch → Bool
apart ls bs = every (λ b. every (λ l. not (any (λ m. eqb l.key m.key) ls)) b.lines) bs

-- THE PENDING RULE.
unfoldable pub pending_ok : List Page → List Batch → Bool
pending_ok pages [] = true
pending_ok pages (b ∷ bs) = lines_alternate b.lines && (newest_agree pages [] b.lines && (apart b.lines bs && pending_ok pages bs))
