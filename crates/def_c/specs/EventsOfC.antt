-- What happens to a register that C calls, in the host's bytes; and what the customer grants of it. Beside each name stands the one of
-- def_recovery/Events that it is in bytes.
use Rattle.std.specs.Prelude.{ℕ, ◌≡◌, Bool, true, false, not, ◌&&◌, List, [], ◌∷◌, length, take, leb, eqb}
use Rattle.def_layout.specs.Numbers.{be32}
use Rattle.def_layout.specs.Desks.{read_desk}
use Rattle.def_layout.specs.Sizes.{desk_size}
use Rattle.def_model.specs.declared.Answer.{Answer}
use Rattle.def_model.specs.declared.Answer.TheVariants.{Pair}
use Rattle.def_model.specs.OnBytes.{Call, Start, start, Lent, store_all_bytes}
use Rattle.def_recovery.specs.Book.{Book, new_book, book_cut}
use Rattle.def_recovery.specs.Events.{World, book_after, grow, is_format, is_restart, of_32_bits, first_slides}
use Rattle.def_c.specs.FromC.{Returned, c_call, c_stores}

-- The lent areas, the desk's bytes, the plain book beside them, and whether there was a cut that no restart has followed yet (World).
pub record CWorld : Type 0 where
  pub lent : Lent
  pub desk : List ℕ
  pub book : Book
  pub since_cut : Bool

-- The same with the desk read.
abbrev pub as_world : CWorld → World
as_world w = record { lent = w.lent; desk = read_desk w.desk; book = w.book; since_cut = w.since_cut }

-- What a cut may leave in the working areas and the desk: anything, of any length (Rubble).
pub record CRubble : Type 0 where
  pub work_pages : List ℕ
  pub work_log : List ℕ
  pub desk : List ℕ

-- A call that ends, on the desk as it stands; one that is lent other bytes in the desk's place, of another length; a call that is cut after
-- so many of its stores; zeros added to the four areas. The values are any bytes that the call is lent, of any length (Event).
pub data CEvent : Type 0 where
  ended : Call → (values : List ℕ) → CEvent
  mislent : Call → (desk values : List ℕ) → CEvent
  cut : Call → (values : List ℕ) → ℕ → CRubble → CEvent
  grown : (work_pages stable_pages work_log stable_log : ℕ) → CEvent

-- What the function returns where it stands (result), and whether that is 0 (passes).
abbrev pub returns : Call → List ℕ → CWorld → Returned
returns c values w = c_call c w.lent w.desk values

abbrev pub returns_0 : Call → List ℕ → CWorld → Bool
returns_0 c values w = eqb (returns c values w).reason 0

-- ---- one event

-- The answer as the host reads it: two numbers of 32 bits, most significant byte first.
unfoldable pub read_values : List ℕ → Answer
read_values values = Pair (be32 values 0) (be32 values 4)

-- The world after a call returned: its desk is the one given. The book is fed what the host reads (end-call).
unfoldable pub after_return : CWorld → Call → Returned → (desk : List ℕ) → CWorld
after_return w c r desk =
    record {
      lent = r.areas;
      desk = desk;
      book = book_after (eqb r.reason 0) c (read_values r.values) (read_desk r.desk) w.book;
      since_cut = w.since_cut && not (eqb r.reason 0);
    }

-- A call that was cut (cut-call): it would have returned 0, and all its stores are there (all-stored).
abbrev pub c_all_stored : Call → List ℕ → ℕ → CWorld → Bool
c_all_stored c values budget w = returns_0 c values w && leb (length (c_stores c w.lent w.desk values)) budget

unfoldable pub cut_c_call : Call → List ℕ → ℕ → CRubble → CWorld → CWorld
cut_c_call c values budget left w =
    let s = store_all_bytes (take budget (c_stores c w.lent w.desk values)) w.lent in
    record {
      lent = record { work_pages = left.work_pages; stable_pages = s.stable_pages; work_log = left.work_log; stable_log = s.stable_log };
      desk = left.desk;
      book = book_cut c (c_all_stored c values budget w) w.book;
      since_cut = true;
    }

unfoldable pub c_happen : CEvent → CWorld → CWorld
c_happen (ended c values) w = after_return w c (returns c values w) (returns c values w).desk
c_happen (mislent c desk values) w = after_return w c (c_call c w.lent desk values) w.desk
c_happen (cut c values budget left) w = cut_c_call c values budget left w
c_happen (grown a b c d) w = record { lent = (grow a b c d (as_world w)).lent; desk = w.desk; book = w.book; since_cut = w.since_cut }

unfoldable pub c_happen_all : List CEvent → CWorld → CWorld
c_happen_all [] w = w
c_happen_all (e ∷ es) w = c_happen_all es (c_happen e w)

-- ---- what the customer grants

-- As Granted, by what the function returns.
pub record CGranted (c : Call) (values : List ℕ) (w : CWorld) : Type 0 where
  pub numbers : of_32_bits c ≡ true
  pub no_format : is_format c ≡ true → returns_0 c values w ≡ false
  pub restart_first : w.since_cut ≡ true → returns_0 c values w ≡ true → is_restart c ≡ true

unfoldable pub CAllowed : CEvent → CWorld → Type 0
CAllowed (ended c values) w = CGranted c values w
CAllowed (mislent c desk values) w = eqb (length desk) desk_size ≡ false
CAllowed (cut c values budget left) w = CGranted c values w
CAllowed (grown a b c d) w = Unit {0}

unfoldable pub CAllAllowed : List CEvent → CWorld → Type 0
CAllAllowed [] w = Unit {0}
CAllAllowed (e ∷ es) w = CAllowed e w × CAllAllowed es (c_happen e w)

-- The register right after a formatting or loading that returned 0 (started).
unfoldable pub c_started : Start → Lent → (desk values : List ℕ) → CWorld
c_started s l desk values = let r = c_call (start s) l desk values in record { lent = r.areas; desk = r.desk; book = new_book (first_slides s); since_cut = false }
