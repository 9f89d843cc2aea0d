-- What a record does at a page, by the page's part in it; and the parts that each row gives.
use Rattle.std.specs.Prelude.{ℕ, zero, suc, ◌%◌, ◌≤◌, ◌<◌, ◌≡◌, refl, ◌≢◌, Bool, true, false, List, [], ◌∷◌, length, take, eqb}
use Rattle.std.proofs.Common.{ap, ◌∙◌, arith}
use Rattle.def_base.specs.Tests.{pick, lt_true, eq_true, neq_false}
use Rattle.def_layout.specs.declared.Entry.{Entry}
use Rattle.def_layout.specs.Sizes.{room}
use Rattle.def_layout.specs.Pages.{Page, kind_at, at, size}
use Rattle.def_layout.specs.declared.page.PageKind.TheVariants.{Leaf, Index}
use Rattle.def_layout.specs.Records.{Rec, split_row, link_row, unlink_row, merge_row, redistribute_row, raise_row, lower_row}
use Rattle.def_model.specs.Change.{with_lsn, entries_in, cut_to_size, Role, as_a, as_b, as_c, as_map, role, hit, change}
use Rattle.def_model.specs.Change
use Rattle.def_model.specs.Redo.{redo_record}
use Rattle.theory_redo.specs.OnePage.{redo1}
use Rattle.theory_redo.specs.Area.{get_record}

-- Leaves and indexes have room for 14 entries.
pub entries_at : (lev : ℕ) (es : List Entry) → entries_in (kind_at lev) es ≡ take room es
unfolding entries_in
entries_at lev es = by_test (eqb lev 0)
  where
    by_test : (b : Bool) → entries_in (pick b Leaf Index) es ≡ take room es
    by_test true = refl
    by_test false = refl

-- A page of the tree that has room for its entries and bits for its level is not cut.
pub cut_to_size_small : (x : Page) (lev : ℕ) → x.kind ≡ kind_at lev → size x ≤ room → x.level < 16 → cut_to_size x ≡ x
unfolding cut_to_size
cut_to_size_small x lev k s l = λ i. record { kind = x.kind; level = level_same i; right = x.right; high = x.high; lsn = x.lsn; own = x.own; entries = entries_same i; marks = x.marks }
  where
    level_same : x.level % 16 ≡ x.level
    level_same = omega arith

    take_short : (n : ℕ) (es : List Entry) → length es ≤ n → take n es ≡ es
    take_short zero [] h = refl
    take_short zero (e ∷ es) h = absurd (omega arith)
    take_short (suc n) [] h = refl
    take_short (suc n) (e ∷ es) h = ap (e ∷◌) (take_short n es (omega arith))

    entries_same : entries_in x.kind x.entries ≡ x.entries
    entries_same = ap (λ z. entries_in z x.entries) k ∙ entries_at lev x.entries ∙ take_short room x.entries s

-- What a record does at a page, by the page's part.
pub at_part : (n : ℕ) (r : Rec) (pages : List Page) (p : ℕ) (o : Role) → p < length pages → (at pages p).lsn < n → role r p ≡ o → hit o ≡ true
    → at (redo_record n r pages) p ≡ with_lsn n (cut_to_size (change r o (at pages p)))
unfolding redo1
at_part n r pages p o h l e k = get_record n r pages p h ∙ rw (e, k, lt_true _ _ l)

-- The same where the page is not cut.
pub at_role : (n : ℕ) (r : Rec) (pages : List Page) (p : ℕ) (o : Role) → p < length pages → (at pages p).lsn < n → role r p ≡ o → hit o ≡ true
    → (lev : ℕ) → (change r o (at pages p)).kind ≡ kind_at lev → size (change r o (at pages p)) ≤ room → (change r o (at pages p)).level < 16
    → at (redo_record n r pages) p ≡ with_lsn n (change r o (at pages p))
at_role n r pages p o h l e k lev j s d = at_part n r pages p o h l e k ∙ ap (with_lsn n) (cut_to_size_small (change r o (at pages p)) lev j s d)

pub at_none : (n : ℕ) (r : Rec) (pages : List Page) (p : ℕ) → p < length pages → role r p ≡ Change.none → at (redo_record n r pages) p ≡ at pages p
unfolding redo1
at_none n r pages p h e = get_record n r pages p h ∙ rw e

-- ---- the parts that each row gives

pub split_role_a : (level a b key second right : ℕ) (es : List Entry) → role (split_row level a b key second right es) a ≡ as_a
unfolding role
split_role_a level a b key second right es = rw (eq_true a a refl)

pub split_role_b : (level a b key second right : ℕ) (es : List Entry) → b ≢ a → role (split_row level a b key second right es) b ≡ as_b
unfolding role
split_role_b level a b key second right es n = rw (neq_false n, eq_true b b refl)

pub split_role_none : (level a b key second right : ℕ) (es : List Entry) (p : ℕ) → p ≢ a → p ≢ b → p ≢ 0
    → role (split_row level a b key second right es) p ≡ Change.none
unfolding role
split_role_none level a b key second right es p n m z = rw (neq_false n, neq_false m, neq_false z)

pub link_role_a : (a b c key second : ℕ) → role (link_row a b c key second) a ≡ as_a
unfolding role
link_role_a a b c key second = rw (eq_true a a refl)

pub link_role_none : (a b c key second : ℕ) (p : ℕ) → p ≢ a → role (link_row a b c key second) p ≡ Change.none
unfolding role
link_role_none a b c key second p n = rw (neq_false n)

pub unlink_role_a : (a b c key second : ℕ) → role (unlink_row a b c key second) a ≡ as_a
unfolding role
unlink_role_a a b c key second = rw (eq_true a a refl)

pub unlink_role_none : (a b c key second : ℕ) (p : ℕ) → p ≢ a → role (unlink_row a b c key second) p ≡ Change.none
unfolding role
unlink_role_none a b c key second p n = rw (neq_false n)

pub merge_role_a : (a b key right : ℕ) (es : List Entry) → role (merge_row a b key right es) a ≡ as_a
unfolding role
merge_role_a a b key right es = rw (eq_true a a refl)

pub merge_role_none : (a b key right : ℕ) (es : List Entry) (p : ℕ) → p ≢ a → p ≢ b → p ≢ 0 → role (merge_row a b key right es) p ≡ Change.none
unfolding role
merge_role_none a b key right es p n m z = rw (neq_false n, neq_false m, neq_false z)

pub merge_role_b : (a b key right : ℕ) (es : List Entry) → b ≢ a → role (merge_row a b key right es) b ≡ as_b
unfolding role
merge_role_b a b key right es n = rw (neq_false n, eq_true b b refl)

pub redistribute_role_a : (a b key : ℕ) (es : List Entry) → role (redistribute_row a b key es) a ≡ as_a
unfolding role
redistribute_role_a a b key es = rw (eq_true a a refl)

pub redistribute_role_b : (a b key : ℕ) (es : List Entry) → b ≢ a → role (redistribute_row a b key es) b ≡ as_b
unfolding role
redistribute_role_b a b key es n = rw (neq_false n, eq_true b b refl)

pub redistribute_role_none : (a b key : ℕ) (es : List Entry) (p : ℕ) → p ≢ a → p ≢ b → role (redistribute_row a b key es) p ≡ Change.none
unfolding role
redistribute_role_none a b key es p n m = rw (neq_false n, neq_false m)

pub raise_role_a : (level b c key : ℕ) (es : List Entry) → role (raise_row level b c key es) 1 ≡ as_a
unfolding role
raise_role_a level b c key es = refl

pub raise_role_c : (level b c key : ℕ) (es : List Entry) → c ≢ 1 → role (raise_row level b c key es) c ≡ as_c
unfolding role
raise_role_c level b c key es n = rw (neq_false n, eq_true c c refl)

pub raise_role_none : (level b c key : ℕ) (es : List Entry) (p : ℕ) → p ≢ 1 → p ≢ c → p ≢ 0 → role (raise_row level b c key es) p ≡ Change.none
unfolding role
raise_role_none level b c key es p n m z = rw (neq_false n, neq_false m, neq_false z)

pub lower_role_a : (level b : ℕ) (es : List Entry) → role (lower_row level b es) 1 ≡ as_a
unfolding role
lower_role_a level b es = refl

pub lower_role_none : (level b : ℕ) (es : List Entry) (p : ℕ) → p ≢ 1 → p ≢ b → p ≢ 0 → role (lower_row level b es) p ≡ Change.none
unfolding role
lower_role_none level b es p n m z = rw (neq_false n, neq_false m, neq_false z)

pub lower_role_b : (level b : ℕ) (es : List Entry) → b ≢ 1 → role (lower_row level b es) b ≡ as_b
unfolding role
lower_role_b level b es n = rw (neq_false n, eq_true b b refl)

-- ---- the map's part

pub split_map : (level a b key second right : ℕ) (es : List Entry) → 0 < a → 0 < b → role (split_row level a b key second right es) 0 ≡ as_map
unfolding role
split_map level a b key second right es p q = rw (neq_false {a = 0} {b = a} (omega arith), neq_false {a = 0} {b = b} (omega arith))

pub merge_map : (a b key right : ℕ) (es : List Entry) → 0 < a → 0 < b → role (merge_row a b key right es) 0 ≡ as_map
unfolding role
merge_map a b key right es p q = rw (neq_false {a = 0} {b = a} (omega arith), neq_false {a = 0} {b = b} (omega arith))

pub raise_map : (level b c key : ℕ) (es : List Entry) → 0 < c → role (raise_row level b c key es) 0 ≡ as_map
unfolding role
raise_map level b c key es q = rw (neq_false {a = 0} {b = c} (omega arith))

pub lower_map : (level b : ℕ) (es : List Entry) → 0 < b → role (lower_row level b es) 0 ≡ as_map
unfolding role
lower_map level b es q = rw (neq_false {a = 0} {b = b} (omega arith))
