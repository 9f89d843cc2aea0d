-- The page taken, and a record that takes one.
use Rattle.std.proofs.Math.Path.{◌≡◌, refl, ap, sym, subst}
use Rattle.std.proofs.Common.{◌∙◌, arith, subst₂, inl, inr}
use Rattle.std.specs.Prelude.{ℕ, zero, suc, ◌<◌, ◌≤◌, Bool, ◌&&◌, get_or, length, None, IsSome}
use Rattle.std.proofs.Math.Bool.{true, false}
use mathlib.Core.List.{List, []}
use Rattle.std.proofs.Math.Dec.{ltb, eqb}
use Rattle.def_base.specs.Tests.{Case, yes!, no!, case, eq_true, neq_false}
use Rattle.def_layout.specs.declared.page.PageKind.TheVariants.{Map}
use Rattle.def_layout.specs.Pages.{Page, at}
use Rattle.def_layout.specs.Records.{Rec}
use Rattle.def_model.specs.declared.Refusal.TheVariants.{PagesShort}
use Rattle.def_model.specs.Answers.{refusal_number}
use Rattle.def_model.specs.Update.{Run, going, emit, highest, fresh, taking_by, emit_taking}
use Rattle.codec_page.specs.declared.Page as program
use Rattle.codec_page.specs.Typed.{typed, used_marks_node}
use Rattle.codec_page.specs.Shown.{typed_marks}
use Rattle.codec_map.specs.Turns.{marks}
use Rattle.record_pages.specs.Pages.{Pages, Reads}
use Rattle.tree_write.specs.declared.Run as program_run
use Rattle.tree_write.specs.Shows.{Shows, Halted, at_stop, shows_going, shows_stuck, shows_slot, shows_full, shows_stopped, emit_stuck, emit_full}

-- ---- the highest free page

pub highest_below : (n : ℕ) (m : List Bool) → highest n m ≤ n
unfolding highest
highest_below zero m = omega arith
highest_below (suc n) m = go (case (get_or m n true)) (highest_below n m)
  where
    go : Case (get_or m n true) → highest n m ≤ n → highest (suc n) m ≤ suc n
    go (yes! e) h = rw e (omega arith)
    go (no! e) h = rw e (omega arith)

highest_unmarked : (n : ℕ) → highest n [] ≡ 0
unfolding highest
highest_unmarked zero = refl
highest_unmarked (suc n) = highest_unmarked n

module _ {n : ℕ} {area : List ℕ} (x : program.Page) (near : ℕ) (xs : List Page) (ls : List ℕ) (h : Pages n area xs ls) (q : Reads x (at xs 0)) where
  -- A page that is no map marks nothing as free.
  pub fresh_none : (x.kind ≡ Map → ⊥) → 0 ≡ fresh xs near
  unfolding fresh typed
  fresh_none k =
      sym (ap (λ (m : List Bool). highest (length xs) m) (sym (ap (λ (y : Page). y.marks) q.is) ∙ used_marks_node x.entries x.kind k) ∙ highest_unmarked (length xs))

  pub fresh_is : (b : ℕ) → x.kind ≡ Map → b ≡ highest n (marks x.entries) → b ≡ fresh xs near
  unfolding fresh typed
  fresh_is b k e =
      e ∙ ap (λ (i : ℕ). highest i (marks x.entries)) (sym h.size)
      ∙ ap (λ (m : List Bool). highest (length xs) m) (sym (typed_marks x k) ∙ ap (λ (y : Page). y.marks) q.is)

-- ---- a record that takes page b

module _ (s : Run) (f : ℕ → Rec) (near b : ℕ) (r : Rec) (e : b ≡ fresh s.pages near) (i : f b ≡ r) where
  taking_is : emit_taking f near s ≡ taking_by (going s && ltb 0 s.room && eqb b 0) r s
  unfolding emit_taking
  taking_is = rw (← e) (ap (λ (q : Rec). taking_by (going s && ltb 0 s.room && eqb b 0) q s) i)

  -- There is a page: the record is written as any other.
  pub taking_emits : (b ≡ 0 → ⊥) → emit_taking f near s ≡ emit r s
  unfolding taking_by
  taking_emits nz = taking_is ∙ go (going s) (ltb 0 s.room) (eqb b 0) (neq_false nz)
    where
      go : (x y z : Bool) → z ≡ false → taking_by (x && y && z) r s ≡ emit r s
      go true true true w = absurd (let k : ◌≡◌ {A = ℕ} 0 1 = cc in omega arith)
      go true true false w = refl
      go true false z w = refl
      go false y z w = refl

  -- There is none: whether the run had stopped, or there is no slot either.
  by_tests : b ≡ 0 → (x y : Bool) → going s ≡ x → ltb 0 s.room ≡ y → emit_taking f near s ≡ taking_by (x && y && true) r s
  by_tests none x y gx gy = taking_is ∙ rw (gx, gy, eq_true b 0 none)

  module _ {n m : ℕ} {wp wl : List ℕ} {t : program_run.Run} (none : b ≡ 0) (h : Shows n m wp wl t s) where
    pub taking_halted : (u : program_run.Run) → IsSome u.stop → Halted m t u → Shows n m wp wl u (emit_taking f near s)
    unfolding taking_by
    taking_halted u e (inl q) =
        let stuck : IsSome t.stop = subst (λ (v : program_run.Run). IsSome v.stop) q e in
        subst₂ (Shows n m wp wl) (sym q) (sym (by_tests none false _ (shows_stuck h stuck) refl)) (emit_stuck h r stuck)
    taking_halted u e (inr q) =
        subst₂ (Shows n m wp wl) (sym q.2) (sym (by_tests none true false (shows_going h q.0) (shows_full h q.1))) (emit_full h r q.0 q.1)

    pub taking_none : t.stop ≡ None → t.logged < m → Shows n m wp wl (at_stop t PagesShort) (emit_taking f near s)
    unfolding taking_by refusal_number
    taking_none st l =
        subst (Shows n m wp wl (at_stop t PagesShort)) (sym (by_tests none true true (shows_going h st) (shows_slot h l)))
        (shows_stopped h PagesShort)
