-- The rows of 01's table are narrow where the numbers that they carry are.
use Rattle.std.specs.Prelude.{ℕ, ◌<◌, ◌^◌, List, []}
use Rattle.std.proofs.Common.{arith, lit<}
use Rattle.def_layout.specs.declared.Entry.{Entry}
use Rattle.def_layout.specs.Records.{Rec, Kind, begin, insert, delete, undo_insert, undo_delete, commit, abort_mark, end, split, link, unlink, merge, redistribute, raise, lower, kind_of, batch_row, data_row, split_row, link_row, unlink_row, merge_row, redistribute_row, raise_row, lower_row}
use Rattle.law_bytes.specs.Ranges.{Run, in_run}
use Rattle.law_widths.specs.Each.{Each}
use Rattle.law_widths.specs.Fine.{Fine, fine_at}
use Rattle.law_widths.specs.Acting.{Links, Narrow}

no_fine : Fine []
unfolding Each
no_fine = tt

-- A kind of the batches' records names no page but A.
unfoldable pub Batched : Kind → Type 0
Batched begin = Unit {0}
Batched insert = Unit {0}
Batched delete = Unit {0}
Batched undo_insert = Unit {0}
Batched undo_delete = Unit {0}
Batched commit = Unit {0}
Batched abort_mark = Unit {0}
Batched end = Unit {0}
Batched split = ⊥
Batched link = ⊥
Batched unlink = ⊥
Batched merge = ⊥
Batched redistribute = ⊥
Batched raise = ⊥
Batched lower = ⊥

-- They are numbered 1 to 8.
pub batched_low : (k : ℕ) → k < 9 → Batched (kind_of k)
unfolding kind_of Batched Run
batched_low k h = in_run (λ (n : ℕ). Batched (kind_of n)) 9 0 k (tt, (tt, (tt, (tt, (tt, (tt, (tt, (tt, (tt, tt))))))))) (omega arith) h

batched_links : (k : Kind) (r : Rec) → Batched k → Links k r
unfolding Batched Links
batched_links begin r h = tt
batched_links insert r h = tt
batched_links delete r h = tt
batched_links undo_insert r h = tt
batched_links undo_delete r h = tt
batched_links commit r h = tt
batched_links abort_mark r h = tt
batched_links end r h = tt
batched_links split r h = absurd h
batched_links link r h = tt
batched_links unlink r h = tt
batched_links merge r h = tt
batched_links redistribute r h = tt
batched_links raise r h = absurd h
batched_links lower r h = tt

pub batch_narrow : (k : Kind) (batch previous : ℕ) → Batched k → Narrow (batch_row k batch previous)
batch_narrow k batch previous h =
    record { pageB = lit< tt; pageC = lit< tt; links = batched_links k _ h; right = lit< tt; key = lit< tt; second = lit< tt; entry = fine_at [] no_fine }

pub data_narrow : (k : Kind) (batch previous a key second : ℕ) → Batched k → key < 2 ^ 32 → second < 2 ^ 32 → Narrow (data_row k batch previous a key second)
data_narrow k batch previous a key second h f g =
    record { pageB = lit< tt; pageC = lit< tt; links = batched_links k _ h; right = lit< tt; key = f; second = g; entry = fine_at [] no_fine }

pub split_narrow : (level a b key second right : ℕ) (es : List Entry) → b < 1024 → key < 2 ^ 32 → second < 2 ^ 32 → right < 1024 → Fine es
    → Narrow (split_row level a b key second right es)
unfolding Links
split_narrow level a b key second right es h f g r e =
    record { pageB = omega arith; pageC = lit< tt; links = h; right = r; key = f; second = g; entry = fine_at es e }

pub link_narrow : (a b c key second : ℕ) → b < 2 ^ 32 → c < 2 ^ 32 → key < 2 ^ 32 → second < 2 ^ 32 → Narrow (link_row a b c key second)
unfolding Links
link_narrow a b c key second h i f g = record { pageB = h; pageC = i; links = tt; right = lit< tt; key = f; second = g; entry = fine_at [] no_fine }

pub unlink_narrow : (a b c key second : ℕ) → b < 2 ^ 32 → c < 2 ^ 32 → key < 2 ^ 32 → second < 2 ^ 32 → Narrow (unlink_row a b c key second)
unfolding Links
unlink_narrow a b c key second h i f g = record { pageB = h; pageC = i; links = tt; right = lit< tt; key = f; second = g; entry = fine_at [] no_fine }

pub merge_narrow : (a b key right : ℕ) (es : List Entry) → b < 2 ^ 32 → key < 2 ^ 32 → right < 1024 → Fine es → Narrow (merge_row a b key right es)
unfolding Links
merge_narrow a b key right es h f r e = record { pageB = h; pageC = lit< tt; links = tt; right = r; key = f; second = lit< tt; entry = fine_at es e }

pub redistribute_narrow : (a b key : ℕ) (es : List Entry) → b < 2 ^ 32 → key < 2 ^ 32 → Fine es → Narrow (redistribute_row a b key es)
unfolding Links
redistribute_narrow a b key es h f e = record { pageB = h; pageC = lit< tt; links = tt; right = lit< tt; key = f; second = lit< tt; entry = fine_at es e }

pub raise_narrow : (level b c key : ℕ) (es : List Entry) → b < 1024 → c < 1024 → key < 2 ^ 32 → Fine es → Narrow (raise_row level b c key es)
unfolding Links
raise_narrow level b c key es h i f e =
    record { pageB = omega arith; pageC = omega arith; links = (h, i); right = lit< tt; key = f; second = lit< tt; entry = fine_at es e }

pub lower_narrow : (level b : ℕ) (es : List Entry) → b < 2 ^ 32 → Fine es → Narrow (lower_row level b es)
unfolding Links
lower_narrow level b es h e = record { pageB = h; pageC = lit< tt; links = tt; right = lit< tt; key = lit< tt; second = lit< tt; entry = fine_at es e }
