-- 01's table of kinds read by column: for each field of a log record, the kinds that carry it. (A slot that has another field breaks its row: 4.)
use Rattle.std.specs.Prelude.{ℕ, ◌≡◌, refl, ◌↔◌, Bool, true, false, ◌&&◌, List, [], ◌∷◌, length, eqb}
use Rattle.def_base.specs.Tests.{any, clash, and_true, and_both, true_eq, eq_true}
use Rattle.def_layout.specs.Records.{Rec, Kind, kind_number, begin, insert, delete, undo_insert, undo_delete, commit, abort_mark, end, split, link, unlink, merge, redistribute, raise, lower}
use Rattle.def_layout.specs.Rows.{Named, carries, zero_unless, named_only}

abbrev pub among : ℕ → List ℕ → Bool
among n ks = any (eqb n) ks

unfoldable pub by_field : ℕ → Named
by_field n =
    record {
      level = among n (9 ∷ 14 ∷ 15 ∷ []);
      batch = among n (1 ∷ 2 ∷ 3 ∷ 4 ∷ 5 ∷ 6 ∷ 7 ∷ 8 ∷ []);
      previous = among n (2 ∷ 3 ∷ 4 ∷ 5 ∷ 6 ∷ 7 ∷ 8 ∷ []);
      a = among n (2 ∷ 3 ∷ 4 ∷ 5 ∷ 9 ∷ 10 ∷ 11 ∷ 12 ∷ 13 ∷ 14 ∷ 15 ∷ []);
      b = among n (9 ∷ 10 ∷ 11 ∷ 12 ∷ 13 ∷ 14 ∷ 15 ∷ []);
      c = among n (10 ∷ 11 ∷ 14 ∷ []);
      key = among n (2 ∷ 3 ∷ 4 ∷ 5 ∷ 9 ∷ 10 ∷ 11 ∷ 12 ∷ 13 ∷ 14 ∷ []);
      second = among n (2 ∷ 3 ∷ 5 ∷ 9 ∷ 10 ∷ 11 ∷ []);
      right = among n (9 ∷ 12 ∷ []);
      entries = among n (9 ∷ 12 ∷ 13 ∷ 14 ∷ 15 ∷ []);
    }

-- THE TABLE, by row and by column.
pub row_fields : (k : Kind) → carries k ≡ by_field (kind_number k)
unfolding carries by_field kind_number any
row_fields begin = refl
row_fields insert = refl
row_fields delete = refl
row_fields undo_insert = refl
row_fields undo_delete = refl
row_fields commit = refl
row_fields abort_mark = refl
row_fields end = refl
row_fields split = refl
row_fields link = refl
row_fields unlink = refl
row_fields merge = refl
row_fields redistribute = refl
row_fields raise = refl
row_fields lower = refl

-- ---- "Fields not named are zero"

pub record ZeroUnlessNamed (f : Named) (r : Rec) : Type 0 where
  pub level : f.level ≡ false → r.level ≡ 0
  pub batch : f.batch ≡ false → r.batch ≡ 0
  pub previous : f.previous ≡ false → r.previous ≡ 0
  pub a : f.a ≡ false → r.pageA ≡ 0
  pub b : f.b ≡ false → r.pageB ≡ 0
  pub c : f.c ≡ false → r.pageC ≡ 0
  pub key : f.key ≡ false → r.key ≡ 0
  pub second : f.second ≡ false → r.second ≡ 0
  pub right : f.right ≡ false → r.right ≡ 0
  pub entries : f.entries ≡ false → length r.entries ≡ 0

unnamed_zero : (b : Bool) (n : ℕ) → zero_unless b n ≡ true → b ≡ false → n ≡ 0
unnamed_zero true n e h = clash h
unnamed_zero false n e h = true_eq n 0 e

zero_passes : (b : Bool) (n : ℕ) → (b ≡ false → n ≡ 0) → zero_unless b n ≡ true
zero_passes true n h = refl
zero_passes false n h = eq_true n 0 (h refl)

module _ (f : Named) (r : Rec) where
  fields_zero : named_only f r ≡ true → ZeroUnlessNamed f r
  unfolding named_only
  fields_zero e₀ =
      let (t₀, e₁) = and_true (zero_unless f.level r.level) (zero_unless f.batch r.batch && (zero_unless f.previous r.previous && (zero_unless f.a r.pageA && (zero_unless f.b r.pageB && (zero_unless f.c r.pageC && (zero_unless f.key r.key && (zero_unless f.second r.second && (zero_unless f.right r.right && (zero_unless f.entries (length r.entries)))))))))) e₀ in
      let (t₁, e₂) = and_true (zero_unless f.batch r.batch) (zero_unless f.previous r.previous && (zero_unless f.a r.pageA && (zero_unless f.b r.pageB && (zero_unless f.c r.pageC && (zero_unless f.key r.key && (zero_unless f.second r.second && (zero_unless f.right r.right && (zero_unless f.entries (length r.entries))))))))) e₁ in
      let (t₂, e₃) = and_true (zero_unless f.previous r.previous) (zero_unless f.a r.pageA && (zero_unless f.b r.pageB && (zero_unless f.c r.pageC && (zero_unless f.key r.key && (zero_unless f.second r.second && (zero_unless f.right r.right && (zero_unless f.entries (length r.entries)))))))) e₂ in
      let (t₃, e₄) = and_true (zero_unless f.a r.pageA) (zero_unless f.b r.pageB && (zero_unless f.c r.pageC && (zero_unless f.key r.key && (zero_unless f.second r.second && (zero_unless f.right r.right && (zero_unless f.entries (length r.entries))))))) e₃ in
      let (t₄, e₅) = and_true (zero_unless f.b r.pageB) (zero_unless f.c r.pageC && (zero_unless f.key r.key && (zero_unless f.second r.second && (zero_unless f.right r.right && (zero_unless f.entries (length r.entries)))))) e₄ in
      let (t₅, e₆) = and_true (zero_unless f.c r.pageC) (zero_unless f.key r.key && (zero_unless f.second r.second && (zero_unless f.right r.right && (zero_unless f.entries (length r.entries))))) e₅ in
      let (t₆, e₇) = and_true (zero_unless f.key r.key) (zero_unless f.second r.second && (zero_unless f.right r.right && (zero_unless f.entries (length r.entries)))) e₆ in
      let (t₇, e₈) = and_true (zero_unless f.second r.second) (zero_unless f.right r.right && (zero_unless f.entries (length r.entries))) e₇ in
      let (t₈, e₉) = and_true (zero_unless f.right r.right) (zero_unless f.entries (length r.entries)) e₈ in
      record {
        level = unnamed_zero f.level r.level t₀;
        batch = unnamed_zero f.batch r.batch t₁;
        previous = unnamed_zero f.previous r.previous t₂;
        a = unnamed_zero f.a r.pageA t₃;
        b = unnamed_zero f.b r.pageB t₄;
        c = unnamed_zero f.c r.pageC t₅;
        key = unnamed_zero f.key r.key t₆;
        second = unnamed_zero f.second r.second t₇;
        right = unnamed_zero f.right r.right t₈;
        entries = unnamed_zero f.entries (length r.entries) e₉;
      }

  zero_fields : ZeroUnlessNamed f r → named_only f r ≡ true
  unfolding named_only
  zero_fields h =
      and_both (zero_passes f.level r.level h.level) (and_both (zero_passes f.batch r.batch h.batch) (and_both (zero_passes f.previous r.previous h.previous) (and_both (zero_passes f.a r.pageA h.a) (and_both (zero_passes f.b r.pageB h.b) (and_both (zero_passes f.c r.pageC h.c) (and_both (zero_passes f.key r.key h.key) (and_both (zero_passes f.second r.second h.second) (and_both (zero_passes f.right r.right h.right) (zero_passes f.entries (length r.entries) h.entries)))))))))

  -- All ten fields are judged, and nothing else is.
  pub named_only_means : (named_only f r ≡ true) ↔ ZeroUnlessNamed f r
  named_only_means = (fields_zero, zero_fields)
