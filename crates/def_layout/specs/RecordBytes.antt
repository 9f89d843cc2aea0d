-- A log slot's 144 bytes. 01: "kind 4, count 4, level 4, spare 20; own log number 32 (first slot 1); batch 32; previous 32; pages A, B, C of 10
-- each, spare 2; key 32; second 32; right 10, spare 22; 14 entries. An empty slot is all zero."
use Rattle.std.specs.Prelude.{ℕ, ◌+◌, ◌*◌, ◌/◌, ◌%◌, Bool, true, false, List, ◌++◌, length}
use Rattle.def_layout.specs.Sizes.{slot_size}
use Rattle.def_layout.specs.Numbers.{be32, put32, tab, read_entry, entries_bytes, same_bytes, zeros}
use Rattle.def_layout.specs.Records.{Rec, kind_of, kind_number}

-- Record number n. Each field takes its number's last bits.
unfoldable pub record_bytes : ℕ → Rec → List ℕ
record_bytes n r =
    put32 (kind_number r.kind * 268435456 + length r.entries % 16 * 16777216 + r.level % 16 * 1048576)
    ++ put32 n ++ put32 r.batch ++ put32 r.previous
    ++ put32 (r.pageA % 1024 * 4194304 + r.pageB % 1024 * 4096 + r.pageC % 1024 * 4)
    ++ put32 r.key ++ put32 r.second ++ put32 (r.right % 1024 * 4194304)
    ++ entries_bytes r.entries

-- The fields that 144 bytes show.
unfoldable pub record_fields : List ℕ → Rec
record_fields b =
    record {
      kind = kind_of (be32 b 0 / 268435456);
      level = be32 b 0 / 1048576 % 16;
      batch = be32 b 8;
      previous = be32 b 12;
      pageA = be32 b 16 / 4194304;
      pageB = be32 b 16 / 4096 % 1024;
      pageC = be32 b 16 / 4 % 1024;
      key = be32 b 20;
      second = be32 b 24;
      right = be32 b 28 / 4194304;
      entries = tab (be32 b 0 / 16777216 % 16) (read_entry b 32);
    }

-- What stands in a slot: nothing, a record with its own number, or bytes that are no record's.
pub data Slot : Type 0 where
  empty : Slot
  full : ℕ → Rec → Slot
  other : List ℕ → Slot

unfoldable pub full_by : (is_record : Bool) → List ℕ → Slot
full_by true b = full (be32 b 4) (record_fields b)
full_by false b = other b

unfoldable pub slot_by : (is_zero : Bool) → List ℕ → Slot
slot_by true b = empty
slot_by false b = full_by (same_bytes (record_bytes (be32 b 4) (record_fields b)) b) b

unfoldable pub read_slot : List ℕ → Slot
read_slot b = slot_by (same_bytes (zeros slot_size) b) b

unfoldable pub slot_bytes : Slot → List ℕ
slot_bytes empty = zeros slot_size
slot_bytes (full n r) = record_bytes n r
slot_bytes (other b) = b
