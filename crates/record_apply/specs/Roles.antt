-- A page's part in a record, and which parts a kind has.
use Rattle.std.specs.Prelude.{◌≡◌, ℕ, ◌<◌, ◌≤◌, Bool, ◌&&◌, eqb, Option, Some, None}
use Rattle.std.proofs.Math.Path.{ap, sym, subst}
use Rattle.def_base.specs.Tests.{pick}
use native.Mathlib.Omega.{arith}
use Rattle.std.proofs.Math.Decide.{dec_lt}
use Rattle.std.proofs.Math.ListN.{get_or-eq_default}
use Rattle.def_layout.specs.Records.{Kind, kinds, kind_of, begin, insert, delete, undo_insert, undo_delete, commit, abort_mark, end, link, unlink, merge, redistribute, raise, lower}
use Rattle.law_bytes.specs.Ranges.{Run, in_run, past}
use Rattle.def_model.specs.Change as model
use Rattle.def_model.specs.Change.{Role, as_a, as_b, as_c, as_map, Shape, changes, shape, role}
use Rattle.record_apply.specs.declared.Record.{Record}
use Rattle.record_apply.specs.Pages.{rec}
use Rattle.record_apply.specs.declared.roles.Parts.{Parts}
use Rattle.record_apply.specs.declared.roles.Role as program
use Rattle.record_apply.specs.declared.roles.Role.TheVariants.{A, B, C, Map}

-- A page's part, and none where it has none.
unfoldable pub as_role : Option program.Role → Role
as_role None = model.none
as_role (Some A) = as_a
as_role (Some B) = as_b
as_role (Some C) = as_c
as_role (Some Map) = as_map

-- The parts that a kind has.
abbrev pub as_shape : Parts → Shape
as_shape p = changes p.a p.b p.c p.map

-- ---- kinds by number

-- What holds of the kinds that change no page: 0 and 1, 6 to 8, and what is no kind.
module _ (P : Kind → Type 0) (b : P begin) where
  pub quiet_low : (k : ℕ) → k < 2 → P (kind_of k)
  unfolding kind_of Run
  quiet_low k h = in_run (λ (n : ℕ). P (kind_of n)) 2 0 k (b, (b, tt)) (omega arith) h

  pub quiet_past : (k : ℕ) → 16 ≤ k → P (kind_of k)
  unfolding kind_of
  quiet_past k h = subst P (sym (get_or-eq_default kinds begin {n = k} h)) b

  module _ (c : P commit) (a : P abort_mark) (e : P end) where
    pub quiet_mid : (k : ℕ) → 6 ≤ k → k < 9 → P (kind_of k)
    unfolding kind_of Run
    quiet_mid k h l = in_run (λ (n : ℕ). P (kind_of n)) 3 6 k (c, (a, (e, tt))) h l

-- What holds of all kinds but those that change B, and of all but those that mark a page in the map.
module _ (P : Kind → Type 0) (k : ℕ) where
  pub but_b : P begin × P insert × P delete × P undo_insert × P undo_delete × P commit × P abort_mark × P end × P link × P unlink × P raise
      → (k ≡ 9 → ⊥) → (k ≡ 12 → ⊥) → (k ≡ 13 → ⊥) → (k ≡ 15 → ⊥) → P (kind_of k)
  unfolding kind_of Run
  but_b holds n9 n12 n13 n15 =
      let (a, b, c, d, e, f, g, h, i, j, l) = holds in
      elim (dec_lt k 9) [
        | yes q ↦ in_run (λ (n : ℕ). P (kind_of n)) 9 0 k (a, (a, (b, (c, (d, (e, (f, (g, (h, tt))))))))) (omega arith) q
        | no q ↦
            let s : 9 ≤ k = omega arith in
            elim (dec_lt k 12) [
              | yes u ↦ in_run (λ (n : ℕ). P (kind_of n)) 2 10 k (i, (j, tt)) (past 9 k s n9) u
              | no u ↦
                  let v : 12 ≤ k = omega arith in
                  let w : 14 ≤ k = past 13 k (past 12 k v n12) n13 in
                  elim (dec_lt k 15) [
                    | yes z ↦ in_run (λ (n : ℕ). P (kind_of n)) 1 14 k (l, tt) w z
                    | no z ↦ let t : 15 ≤ k = omega arith in quiet_past P a k (past 15 k t n15)
                  ]
            ]
      ]

  pub but_marks : P begin × P insert × P delete × P undo_insert × P undo_delete × P commit × P abort_mark × P end × P link × P unlink × P merge × P redistribute × P lower
      → (k ≡ 9 → ⊥) → (k ≡ 14 → ⊥) → P (kind_of k)
  unfolding kind_of Run
  but_marks holds n9 n14 =
      let (a, b, c, d, e, f, g, h, i, j, l, m, o) = holds in
      elim (dec_lt k 9) [
        | yes q ↦ in_run (λ (n : ℕ). P (kind_of n)) 9 0 k (a, (a, (b, (c, (d, (e, (f, (g, (h, tt))))))))) (omega arith) q
        | no q ↦
            let s : 9 ≤ k = omega arith in
            elim (dec_lt k 14) [
              | yes u ↦ in_run (λ (n : ℕ). P (kind_of n)) 4 10 k (i, (j, (l, (m, tt)))) (past 9 k s n9) u
              | no u ↦
                  let v : 14 ≤ k = omega arith in
                  elim (dec_lt k 16) [
                    | yes z ↦ in_run (λ (n : ℕ). P (kind_of n)) 1 15 k (o, tt) (past 14 k v n14) z
                    | no z ↦ quiet_past P a k (omega arith)
                  ]
            ]
      ]

-- ---- the part, test by test

abbrev pub first_of : (a b c m : Bool) → Role
first_of a b c m = pick a as_a (pick b as_b (pick c as_c (pick m as_map model.none)))

pub role_is : (r : Record) (p : ℕ) (t : Parts) → as_shape t ≡ shape (kind_of r.kind)
    → role (rec r) p ≡ first_of (t.a && eqb p r.a) (t.b && eqb p r.b) (t.c && eqb p r.c) (t.map && eqb p 0)
unfolding role
role_is r p t e = ap (λ (s : Shape). first_of (s.a && eqb p r.a) (s.b && eqb p r.b) (s.c && eqb p r.c) (s.m && eqb p 0)) (sym e)
