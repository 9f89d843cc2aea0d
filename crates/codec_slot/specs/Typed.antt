-- What the program's slot stands for: the typed record, its bytes and the header that bytes show.
use Rattle.std.specs.Prelude.{ℕ, ◌/◌, ◌%◌, Bool, not, ◌&&◌, List, drop, get_or, eqb}
use Rattle.def_layout.specs.declared.Entry.{Entry}
use Rattle.def_layout.specs.Numbers.{be32, put32}
use Rattle.def_layout.specs.Records.{Rec, kind_of}
use Rattle.def_layout.specs.RecordBytes.{Slot, empty, full, other}
use Rattle.law_bytes.specs.EntryBytes.{used}
use Rattle.law_bytes.specs.Blank.{blank}
use Rattle.codec_slot.specs.declared.Header.{Header}
use Rattle.codec_slot.specs.declared.Header.TheVariants.{Full, Empty, Broken}
use Rattle.codec_slot.specs.declared.Slot as program

-- The record of a header's numbers and the entries in use.
abbrev pub rec_of : (kind count level batch previous a b c key second right : ℕ) → List Entry → Rec
rec_of kind count level batch previous a b c key second right es =
    record {
      kind = kind_of kind;
      level = level;
      batch = batch;
      previous = previous;
      pageA = a;
      pageB = b;
      pageC = c;
      key = key;
      second = second;
      right = right;
      entries = used count es;
    }

-- The typed slot of a header and entries; of broken bytes it is the bytes.
unfoldable pub typed_by : List ℕ → Header → List Entry → Slot
typed_by bytes (Full kind count level own batch previous a b c key second right) es = full own (rec_of kind count level batch previous a b c key second right es)
typed_by bytes Empty es = empty
typed_by bytes Broken es = other bytes

abbrev pub typed : List ℕ → program.Slot → Slot
typed bytes s = typed_by bytes s.header s.entries

-- The header that 144 bytes show.
unfoldable pub shown_header : List ℕ → Header
shown_header b =
    Full (be32 b 0 / 268435456) (be32 b 0 / 16777216 % 16) (be32 b 0 / 1048576 % 16) (be32 b 4) (be32 b 8) (be32 b 12)
    (be32 b 16 / 4194304) (be32 b 16 / 4096 % 1024) (be32 b 16 / 4 % 1024) (be32 b 20) (be32 b 24) (be32 b 28 / 4194304)

-- 01: "spare bits and unused entries are zero"; a record has a kind.
unfoldable pub clean : List ℕ → List Entry → Bool
clean b es =
    not (eqb (be32 b 0 / 268435456) 0) && (eqb (be32 b 0 % 1048576) 0 && (eqb (be32 b 16 % 4) 0 && (eqb (be32 b 28 % 4194304) 0
    && blank (drop (be32 b 0 / 16777216 % 16) es))))

-- Word i of an array of words, as bytes.
abbrev pub word_bytes : List ℕ → ℕ → List ℕ
word_bytes words i = put32 (get_or words i 0)
