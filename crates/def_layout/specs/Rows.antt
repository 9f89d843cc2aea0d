-- What breaks a record's row (refusal 4): 01's table of kinds and "Fields not named are zero".
use Rattle.std.specs.Prelude.{ℕ, Bool, true, false, ◌&&◌, ◌||◌, List, length, leb, ltb, eqb}
use Rattle.def_base.specs.Tests.{every}
use Rattle.def_layout.specs.declared.Entry.{Entry}
use Rattle.def_layout.specs.Entries.{ten_bits}
use Rattle.def_layout.specs.Sizes.{room}
use Rattle.def_layout.specs.Records.{Rec, Kind, begin, insert, delete, undo_insert, undo_delete, commit, abort_mark, end, split, link, unlink, merge, redistribute, raise, lower}

-- Which fields a kind names.
pub record Named : Type 0 where
  pub level : Bool
  pub batch : Bool
  pub previous : Bool
  pub a : Bool
  pub b : Bool
  pub c : Bool
  pub key : Bool
  pub second : Bool
  pub right : Bool
  pub entries : Bool

abbrev pub fields_named : (level batch previous a b c key second right entries : Bool) → Named
fields_named level batch previous a b c key second right entries =
    record { level = level; batch = batch; previous = previous; a = a; b = b; c = c; key = key; second = second; right = right; entries = entries }

-- 01's table, a row a kind.
unfoldable pub carries : Kind → Named
carries begin = fields_named false true false false false false false false false false
carries insert = fields_named false true true true false false true true false false
carries delete = fields_named false true true true false false true true false false
carries undo_insert = fields_named false true true true false false true false false false
carries undo_delete = fields_named false true true true false false true true false false
carries commit = fields_named false true true false false false false false false false
carries abort_mark = fields_named false true true false false false false false false false
carries end = fields_named false true true false false false false false false false
carries split = fields_named true false false true true false true true true true
carries link = fields_named false false false true true true true true false false
carries unlink = fields_named false false false true true true true true false false
carries merge = fields_named false false false true true false true false true true
carries redistribute = fields_named false false false true true false true false false true
carries raise = fields_named true false false true true true true false false true
carries lower = fields_named true false false true true false false false false true

abbrev pub zero_unless : Bool → ℕ → Bool
zero_unless named n = named || eqb n 0

unfoldable pub named_only : Named → Rec → Bool
named_only f r =
    zero_unless f.level r.level && (zero_unless f.batch r.batch && (zero_unless f.previous r.previous
    && (zero_unless f.a r.pageA && (zero_unless f.b r.pageB && (zero_unless f.c r.pageC
    && (zero_unless f.key r.key && (zero_unless f.second r.second && (zero_unless f.right r.right
    && zero_unless f.entries (length r.entries)))))))))

-- Entries of a level above the leaves' have nothing above the child's ten bits.
abbrev pub level_bits : ℕ → List Entry → Bool
level_bits level es = eqb level 0 || ten_bits es

-- 01: "into A if not above key, else into B": all on one side.
unfoldable pub one_side : ℕ → List Entry → Bool
one_side key es = every (λ e. leb e.key key) es || every (λ e. ltb key e.key) es

-- What a row says within itself: "batch = own number" (1); "A root" (14, 15); a redistribution's side; children of ten bits.
unfoldable pub row_says : Kind → ℕ → Rec → Bool
row_says begin n r = eqb r.batch n
row_says insert n r = true
row_says delete n r = true
row_says undo_insert n r = true
row_says undo_delete n r = true
row_says commit n r = true
row_says abort_mark n r = true
row_says end n r = true
row_says split n r = level_bits r.level r.entries
row_says link n r = true
row_says unlink n r = true
row_says merge n r = true
row_says redistribute n r = one_side r.key r.entries
row_says raise n r = eqb r.pageA 1 && level_bits r.level r.entries
row_says lower n r = eqb r.pageA 1 && level_bits r.level r.entries

-- Record number n keeps its row.
unfoldable pub row : ℕ → Rec → Bool
row n r = named_only (carries r.kind) r && (leb (length r.entries) room && row_says r.kind n r)

-- 01: "names an A, B or C not below the page count".
unfoldable pub names_pages : ℕ → Rec → Bool
names_pages pages r = ltb r.pageA pages && (ltb r.pageB pages && ltb r.pageC pages)
