-- Log records as typed values: 01's table of kinds.
use Rattle.std.specs.Prelude.{ℕ, List, [], ◌∷◌, get_or}
use Rattle.def_layout.specs.declared.Entry.{Entry}

-- (01's "begin" to "lower". An abort mark is 01's kind 7; 8 ends a batch that was undone.)
pub data Kind : Type 0 where
  begin insert delete undo_insert undo_delete commit abort_mark end : Kind
  split link unlink merge redistribute raise lower : Kind

abbrev pub kinds : List Kind
kinds =
    begin ∷ begin ∷ insert ∷ delete ∷ undo_insert ∷ undo_delete ∷ commit ∷ abort_mark ∷ end
    ∷ split ∷ link ∷ unlink ∷ merge ∷ redistribute ∷ raise ∷ lower ∷ []

unfoldable pub kind_of : ℕ → Kind
kind_of n = get_or kinds n begin

unfoldable pub kind_number : Kind → ℕ
kind_number begin = 1
kind_number insert = 2
kind_number delete = 3
kind_number undo_insert = 4
kind_number undo_delete = 5
kind_number commit = 6
kind_number abort_mark = 7
kind_number end = 8
kind_number split = 9
kind_number link = 10
kind_number unlink = 11
kind_number merge = 12
kind_number redistribute = 13
kind_number raise = 14
kind_number lower = 15

-- A record's own log number is its place in the log, and stands beside it. Its count is the length of its entries.
pub record Rec : Type 0 where
  pub kind : Kind
  pub level : ℕ
  pub batch : ℕ
  pub previous : ℕ
  pub pageA : ℕ
  pub pageB : ℕ
  pub pageC : ℕ
  pub key : ℕ
  pub second : ℕ
  pub right : ℕ
  pub entries : List Entry

-- ---- the rows of 01's table, as functions of what they carry

-- 1 begin, 6 commit, 7 abort mark, 8 end
abbrev pub batch_row : Kind → (batch previous : ℕ) → Rec
batch_row kind batch previous =
    record { kind = kind; level = 0; batch = batch; previous = previous; pageA = 0; pageB = 0; pageC = 0; key = 0; second = 0; right = 0; entries = [] }

-- 2 insert, 3 delete, 4 undo-insert, 5 undo-delete
abbrev pub data_row : Kind → (batch previous a key second : ℕ) → Rec
data_row kind batch previous a key second =
    record { kind = kind; level = 0; batch = batch; previous = previous; pageA = a; pageB = 0; pageC = 0; key = key; second = second; right = 0; entries = [] }

-- 9
abbrev pub split_row : (level a b key second right : ℕ) → List Entry → Rec
split_row level a b key second right es =
    record { kind = split; level = level; batch = 0; previous = 0; pageA = a; pageB = b; pageC = 0; key = key; second = second; right = right; entries = es }

-- 10
abbrev pub link_row : (a b c key second : ℕ) → Rec
link_row a b c key second =
    record { kind = link; level = 0; batch = 0; previous = 0; pageA = a; pageB = b; pageC = c; key = key; second = second; right = 0; entries = [] }

-- 11
abbrev pub unlink_row : (a b c key second : ℕ) → Rec
unlink_row a b c key second =
    record { kind = unlink; level = 0; batch = 0; previous = 0; pageA = a; pageB = b; pageC = c; key = key; second = second; right = 0; entries = [] }

-- 12
abbrev pub merge_row : (a b key right : ℕ) → List Entry → Rec
merge_row a b key right es =
    record { kind = merge; level = 0; batch = 0; previous = 0; pageA = a; pageB = b; pageC = 0; key = key; second = 0; right = right; entries = es }

-- 13
abbrev pub redistribute_row : (a b key : ℕ) → List Entry → Rec
redistribute_row a b key es =
    record { kind = redistribute; level = 0; batch = 0; previous = 0; pageA = a; pageB = b; pageC = 0; key = key; second = 0; right = 0; entries = es }

-- 14, of the root
abbrev pub raise_row : (level b c key : ℕ) → List Entry → Rec
raise_row level b c key es =
    record { kind = raise; level = level; batch = 0; previous = 0; pageA = 1; pageB = b; pageC = c; key = key; second = 0; right = 0; entries = es }

-- 15, of the root
abbrev pub lower_row : (level b : ℕ) → List Entry → Rec
lower_row level b es =
    record { kind = lower; level = level; batch = 0; previous = 0; pageA = 1; pageB = b; pageC = 0; key = 0; second = 0; right = 0; entries = es }
