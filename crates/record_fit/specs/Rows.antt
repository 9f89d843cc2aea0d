-- The judgement of a page by its part in the record and by the record's kind.
use Rattle.std.specs.Prelude.{◌≡◌, ◌≢◌, refl, ℕ, ◌<◌, ◌≤◌, Bool, length, Option}
use Rattle.std.proofs.Math.Path.{ap, sym, subst}
use Rattle.std.proofs.Common.{◌∙◌}
use native.Mathlib.Omega.{arith}
use Rattle.std.proofs.Math.Decide.{dec_lt}
use Rattle.std.proofs.Math.Bool.{true, false, not}
use mathlib.Core.List.{List, []}
use Rattle.std.proofs.Math.ListN.{get_or-eq_default}
use Rattle.def_base.specs.Tests.{pick}
use Rattle.def_layout.specs.Pages.{map_bits}
use Rattle.def_layout.specs.declared.Entry.{Entry}
use Rattle.def_layout.specs.declared.page.PageKind.{PageKind}
use Rattle.def_layout.specs.declared.page.PageKind.TheVariants.{Map}
use Rattle.def_layout.specs.Records.{Kind, kind_of}
use Rattle.law_bytes.specs.Tables.{tab_length, getD_tab}
use Rattle.law_bytes.specs.Ranges.{past}
use Rattle.codec_page.specs.declared.Page as program
use Rattle.codec_page.specs.Typed.{typed, map_mark, used_marks, used_marks_node}
use Rattle.codec_map.specs.Turns.{marks}
use Rattle.def_model.specs.Change.{Role, role, as_map, shape, takes}
use Rattle.def_model.specs.Fit.{fits_a, fits_b, fits_map, fits_role, fits}
use Rattle.record_apply.specs.declared.Record.{Record}
use Rattle.record_apply.specs.declared.roles.Role as part
use Rattle.record_apply.specs.Pages.{rec}
use Rattle.record_apply.specs.Roles.{but_b, but_marks, as_role, quiet_low, quiet_mid, quiet_past}

-- ---- marks

map_none : (b : Bool) (q : ℕ) → fits_map b q [] ≡ false
unfolding fits_map
map_none true q = refl
map_none false q = refl

map_past : (b : Bool) (q : ℕ) (m : List Bool) → length m ≤ q → fits_map b q m ≡ false
unfolding fits_map
map_past true q m h = ap not (get_or-eq_default m true {n = q} h)
map_past false q m h = get_or-eq_default m false {n = q} h

pub marks_map : (x : program.Page) → x.kind ≡ Map → (typed x).marks ≡ marks x.entries
unfolding typed used_marks
marks_map x k = ap (λ (l : PageKind). used_marks l x.entries) k

pub mark_node : (x : program.Page) (q : ℕ) (b : Bool) → x.kind ≢ Map → false ≡ fits_map b q (typed x).marks
unfolding typed
mark_node x q b k = sym (ap (λ (m : List Bool). fits_map b q m) (used_marks_node x.entries x.kind k) ∙ map_none b q)

module _ (es : List Entry) (q : ℕ) (b : Bool) where
  pub mark_past : 896 ≤ q → false ≡ fits_map b q (marks es)
  mark_past h = sym (map_past b q (marks es) (omega (arith, tab_length map_bits (map_mark es))))

  pub mark_taken : q < 896 → b ≡ true → (u : Bool) → u ≡ map_mark es q → not u ≡ fits_map b q (marks es)
  unfolding fits_map
  mark_taken h e u p = sym (rw e (ap not (getD_tab map_bits q (map_mark es) true h ∙ sym p)))

  pub mark_freed : q < 896 → b ≡ false → (u : Bool) → u ≡ map_mark es q → u ≡ fits_map b q (marks es)
  unfolding fits_map
  mark_freed h e u p = sym (rw e (getD_tab map_bits q (map_mark es) false h ∙ sym p))

-- ---- by kind and by part

module _ (r : Record) (x : program.Page) (t : Bool) where
  abbrev FA : Kind → Type 0
  FA k = t ≡ fits_a k (rec r) (typed x)

  abbrev FB : Kind → Type 0
  FB k = t ≡ fits_b k (rec r) (typed x)

  abbrev FM : Kind → Type 0
  FM k = t ≡ fits_map (takes k) (pick (shape k).c r.c r.b) (typed x).marks

  pub a_at : (n : ℕ) → r.kind ≡ n → FA (kind_of n) → FA (kind_of r.kind)
  a_at n e f = subst (λ (m : ℕ). FA (kind_of m)) (sym e) f

  pub b_at : (n : ℕ) → r.kind ≡ n → FB (kind_of n) → FB (kind_of r.kind)
  b_at n e f = subst (λ (m : ℕ). FB (kind_of m)) (sym e) f

  pub a_quiet : t ≡ true → (r.kind ≡ 2 → ⊥) → (r.kind ≡ 3 → ⊥) → (r.kind ≡ 4 → ⊥) → (r.kind ≡ 5 → ⊥) → (r.kind ≡ 9 → ⊥) → (r.kind ≡ 10 → ⊥)
      → (r.kind ≡ 11 → ⊥) → (r.kind ≡ 12 → ⊥) → (r.kind ≡ 13 → ⊥) → (r.kind ≡ 14 → ⊥) → (r.kind ≡ 15 → ⊥) → FA (kind_of r.kind)
  unfolding fits_a
  a_quiet e n2 n3 n4 n5 n9 n10 n11 n12 n13 n14 n15 =
      let k = r.kind in
      elim (dec_lt k 2) [
        | yes q ↦ quiet_low FA e k q
        | no q ↦
            let s : 2 ≤ k = omega arith in
            let u : 6 ≤ k = past 5 k (past 4 k (past 3 k (past 2 k s n2) n3) n4) n5 in
            elim (dec_lt k 9) [
              | yes v ↦ quiet_mid FA e e e e k u v
              | no v ↦
                  let w : 9 ≤ k = omega arith in
                  quiet_past FA e k (past 15 k (past 14 k (past 13 k (past 12 k (past 11 k (past 10 k (past 9 k w n9) n10) n11) n12) n13) n14) n15)
            ]
      ]

  pub b_quiet : t ≡ true → (r.kind ≡ 9 → ⊥) → (r.kind ≡ 12 → ⊥) → (r.kind ≡ 13 → ⊥) → (r.kind ≡ 15 → ⊥) → FB (kind_of r.kind)
  unfolding fits_b
  b_quiet e n9 n12 n13 n15 = but_b FB r.kind (e, e, e, e, e, e, e, e, e, e, e) n9 n12 n13 n15

  pub map_split : r.kind ≡ 9 → t ≡ fits_map true r.b (typed x).marks → t ≡ fits_role (rec r) as_map (typed x)
  unfolding fits_role kind_of
  map_split k e = subst (λ (n : ℕ). FM (kind_of n)) (sym k) e

  pub map_raise : r.kind ≡ 14 → t ≡ fits_map true r.c (typed x).marks → t ≡ fits_role (rec r) as_map (typed x)
  unfolding fits_role kind_of
  map_raise k e = subst (λ (n : ℕ). FM (kind_of n)) (sym k) e

  pub map_other : (r.kind ≡ 9 → ⊥) → (r.kind ≡ 14 → ⊥) → t ≡ fits_map false r.b (typed x).marks → t ≡ fits_role (rec r) as_map (typed x)
  unfolding fits_role
  map_other n9 n14 e = but_marks FM r.kind (e, e, e, e, e, e, e, e, e, e, e, e, e) n9 n14

  pub by_part : (p : ℕ) (o : Option part.Role) → as_role o ≡ role (rec r) p → t ≡ fits_role (rec r) (as_role o) (typed x) → t ≡ fits p (rec r) (typed x)
  by_part p o part e = e ∙ ap (λ (q : Role). fits_role (rec r) q (typed x)) part
