-- RAISE as an update does it: the root stands alone.
use Rattle.std.specs.Prelude.{ℕ, suc, ◌≤◌, ◌<◌, ◌≡◌, refl, List, [], ◌∷◌, ◌++◌, length}
use Rattle.std.proofs.Common.{sym, ap, ◌∙◌, subst, inr, arith}
use Rattle.def_base.specs.Tests.{eq_true, neq_false}
use Rattle.def_layout.specs.Entries.{top}
use Rattle.def_layout.specs.Pages.{at}
use Rattle.def_layout.specs.Records.{raise_row}
use Rattle.def_model.specs.TreeRules.{Node, flat, bottom, leaves, first_page, counted, root_least}
use Rattle.def_model.specs.Update.{Run, emit_taking, raise_by, raise_root}
use Rattle.theory_tree.specs.Shape.Levels.{ChainOk, from_of, from_append}
use Rattle.theory_tree.specs.Shape.Chains.{IsNode, All}
use Rattle.theory_tree.specs.Shape.Trees.{Levels, levels_at, Direct, page_at}
use Rattle.theory_tree.specs.Shape.Sizes.{SizedLevel, Sizes}
use Rattle.theory_tree.specs.Shape.Rules.{Rooted}
use Rattle.theory_tree.specs.Step.Steps.{old_root, new_root, raises}
use Rattle.theory_update.specs.Run.Way.{Live, Result, idle, loosen, took}
use Rattle.theory_update.specs.Remove.Restocking.{Rich}

-- The root stands alone in its level.
pub record Top (ls : List (List Node)) : Type 0 where
  pub node : Node
  pub downs : List (List Node)
  pub whole : ls ≡ (node ∷ []) ∷ downs
  pub is_root : node.page ≡ 1

raise_none : (s : Run) → (at s.pages 1).right ≡ 0 → raise_root s ≡ s
unfolding raise_root raise_by
raise_none s e = rw (eq_true (at s.pages 1).right 0 e)

raise_some : (s : Run) (r m : Node) (lev : ℕ) → IsNode (at s.pages 1) lev m.page r → 0 < m.page
    → raise_root s ≡ emit_taking (λ c. raise_row lev m.page c r.high r.items) 1 s
unfolding raise_root raise_by
raise_some s r m lev i p = rw (i.right, neq_false {a = m.page} {b = 0} (omega arith), i.right, i.level, i.high, i.items)

same_flat : (r m : Node) (c : ℕ) → flat (old_root r c ∷ m ∷ []) ≡ flat (r ∷ m ∷ [])
unfolding flat
same_flat r m c = refl

pub last_from : (xs : List Node) (n : Node) → from_of 0 (xs ++ n ∷ []) ≡ suc n.high
unfolding from_of
last_from xs n = from_append 0 xs (n ∷ [])

pub raise_went : (s : Run) (ls : List (List Node)) → Live s ls → Result s ls 1 1 (raise_root s) Top
unfolding Sizes SizedLevel Rooted first_page All root_least counted leaves bottom
raise_went s [] v = absurd v.rules.sizes
raise_went s ([] ∷ downs) v = let z : ◌≡◌ {A = ℕ} 0 1 = v.rules.rooted in absurd (omega (arith, z))
raise_went s ((r ∷ []) ∷ downs) v =
    let (a, b, i) = page_at s.pages [] [] r [] downs v.rules.levels in
    let e : r.page ≡ 1 = v.rules.rooted in
    let w : (at s.pages 1).right ≡ 0 = ap (λ p. (at s.pages p).right) (sym e) ∙ i.right in
    subst (λ z. Result s ((r ∷ []) ∷ downs) 1 1 z Top) (sym (raise_none s w))
    (loosen s ((r ∷ []) ∷ downs) 0 0 1 1 s Top (omega arith) (omega arith) (idle s ((r ∷ []) ∷ downs) Top v (record { node = r; downs = downs; whole = refl; is_root = e })))
raise_went s ((r ∷ m ∷ []) ∷ downs) v =
    let (a, b, i) = page_at s.pages [] [] r (m ∷ []) downs v.rules.levels in
    let (c, d, j) = page_at s.pages [] (r ∷ []) m [] downs v.rules.levels in
    let e : r.page ≡ 1 = v.rules.rooted in
    let i' = subst (λ p. IsNode (at s.pages p) (length downs) m.page r) e i in
    subst (λ z. Result s ((r ∷ m ∷ []) ∷ downs) 1 1 z Top) (sym (raise_some s r m (length downs) i' c))
    (took (λ c. raise_row (length downs) m.page c r.high r.items) 1 s ((r ∷ m ∷ []) ∷ downs) Top v
    (λ c g pos w. record {
      after = (new_root r m c ∷ []) ∷ (old_root r c ∷ m ∷ []) ∷ downs;
      step = raises r m downs c g pos;
      same = same c downs;
      taken = omega arith;
      holds = record { node = new_root r m c; downs = (old_root r c ∷ m ∷ []) ∷ downs; whole = refl; is_root = refl };
    }))
  where
    same : (c : ℕ) (ds : List (List Node)) → leaves ((new_root r m c ∷ []) ∷ (old_root r c ∷ m ∷ []) ∷ ds) ≡ leaves ((r ∷ m ∷ []) ∷ ds)
    same c [] = same_flat r m c
    same c (x ∷ ds) = refl
raise_went s ((r ∷ m ∷ o ∷ ns) ∷ downs) v = let a = v.rules.sizes.0.0.0 in let b = v.rules.sizes.0.0.1 in absurd (omega arith)

-- From the root alone.
pub top_rich : (k : ℕ) (t : Run) (ls : List (List Node)) → k ≤ top → Live t ls → (x : Top ls)
    → Rich k (length x.downs) 1 ls × ((at t.pages 1).level ≡ length x.downs)
unfolding ChainOk from_of Direct
top_rich k t ls h v x =
    let lv = subst (Levels t.pages) x.whole v.rules.levels in
    let (a, b, i) = page_at t.pages [] [] x.node [] x.downs lv in
    let c = (levels_at t.pages [] (x.node ∷ []) x.downs lv).chain in
    let e : suc x.node.high ≡ suc top = c.1 in (
      record {
        stand = record { ups = []; xs = []; node = x.node; ys = []; place = record { downs = x.downs; whole = x.whole; depth = refl; low = omega arith; high = omega arith }; direct = (refl, refl); is_page = sym x.is_root };
        rich = inr refl;
      },
      ap (λ p. (at t.pages p).level) (sym x.is_root) ∙ i.level,
    )
