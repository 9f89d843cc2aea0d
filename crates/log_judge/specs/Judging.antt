-- The log judged slot by slot: what is known before a slot, the turn over it, and the three ways out.
use Prim.Native.Nat.{ℕ, zero, suc, ◌+◌, ◌*◌, ◌≤◌, ◌<◌}
use Rattle.std.specs.Prelude.{◌≡◌, Bool, ◌&&◌, eqb, Option, Some, None, MatchOption}
use Rattle.std.proofs.Math.Path.{refl, sym, ap, ap₂, subst}
use Rattle.std.proofs.Common.{◌∙◌, add-one, drop_of_length-le, drop-cons}
use Rattle.std.proofs.Math.Bool.{true, false}
use mathlib.Core.List.{List, [], ◌∷◌, ◌++◌, map}
use native.Mathlib.Omega.{arith}
use Rattle.std.proofs.Math.ListN.{length, take, drop, length-append}
use Rattle.std.proofs.lemmas.List.{length-map}
use Rattle.std.proofs.Math.Seq.{take-suc}
use Rattle.def_base.specs.Tests.{every, clash, and_true, true_eq, eq_true}
use Rattle.def_layout.specs.declared.Row.{Row}
use Rattle.def_layout.specs.Numbers.{tab}
use Rattle.def_layout.specs.Desks.{no_row, row_at, eight_rows}
use Rattle.def_layout.specs.Records.{Rec}
use Rattle.def_layout.specs.RecordBytes.{Slot, empty, full, other, read_slot}
use Rattle.def_layout.specs.Sizes.{slot_size}
use Rattle.def_layout.specs.Rows.{row, names_pages}
use Rattle.def_model.specs.Log.{slots_ok, records_of, slots_from, is_empty}
use Rattle.def_model.specs.Batches.{Batch, row_of, tell, told, open_batches, chain_step, chain_ok, pending_count, desk_of}
use Rattle.law_bytes.specs.Words.{part}
use Rattle.law_bytes.specs.Pieces.{read_all_at, read_all_length}
use Rattle.law_bytes.specs.Tables.{getD_tab_of}
use Rattle.law_bytes.specs.LogAreas.{slots_of}
use Rattle.law_bytes.specs.Eights.{eight}
use Rattle.law_bytes.specs.DeskRows.{LowRows}
use Rattle.log_chain.specs.declared.Batches.{Batches}
use Rattle.log_pending.specs.Holding.{Holds, holds_none, holds_step}
use Rattle.log_pending.specs.Reading.{Reads, reads_few}
use Rattle.log_chain.specs.Shown.{Shows, marks_of}
use Rattle.log_judge.specs.declared.Said.{Said}
use Rattle.log_judge.specs.Turns.{Turned, Turns}

-- Whether slots of a register of n pages keep the rules of the log.
abbrev pub log_right : ℕ → List Slot → Bool
log_right n s = slots_ok n 1 s && chain_ok 1 (records_of s) []

-- What slots say that keep them.
pub record Says (s : List Slot) (r : Said) : Type 0 where
  pub desk : (stored : ℕ) → record { rows = r.batches.rows; logged = r.logged; stored = stored } ≡ desk_of (records_of s) stored
  pub marked : r.batches.marked ≡ eight false (marks_of (open_batches (records_of s)))

-- THE JUDGEMENT of the slots s of a register of n pages: refused just where they break the rules, and else what they say.
abbrev pub Judgement : ℕ → List Slot → Option Said → Type 0
Judgement n s r = MatchOption r (log_right n s ≡ false) (λ j. (log_right n s ≡ true) × Says s j)

-- Before slot i: the records so far, the batches that they say, and that what is left to judge is the rest.
pub record Going (n m : ℕ) (b : List ℕ) (i : ℕ) (o : Batches) : Type 0 where
  pub log : List Rec
  pub bs : List Batch
  pub size : length log ≡ i
  pub reads : Reads m b log
  pub holds : Holds log bs
  pub shows : Shows bs o
  pub slots : slots_ok n 1 (slots_of m b) ≡ slots_ok n (suc i) (drop i (slots_of m b))
  pub chain : chain_ok 1 (records_of (slots_of m b)) [] ≡ chain_ok (suc i) (records_of (drop i (slots_of m b))) bs
  pub told_so : told 1 (records_of (slots_of m b)) [] ≡ told (suc i) (records_of (drop i (slots_of m b))) bs
  pub count : length (records_of (slots_of m b)) ≡ i + length (records_of (drop i (slots_of m b)))

pub going_start : (n m : ℕ) (b : List ℕ) (o : Batches) → Shows [] o → Going n m b 0 o
unfolding slots_from
going_start n m b o s =
    record {
      log = [];
      bs = [];
      size = refl;
      reads = refl;
      holds = holds_none;
      shows = s;
      slots = refl;
      chain = refl;
      told_so = refl;
      count = omega arith;
    }

-- The counts in the rows are of records in the log.
pending_at : (bs : List Batch) (i : ℕ) → (row_at (map row_of bs) i).pending ≤ pending_count bs
unfolding pending_count row_of
pending_at [] i = omega arith
pending_at (b ∷ bs) zero = omega arith
pending_at (b ∷ bs) (suc i) = omega (arith, pending_at bs i)

pub rows_low : (m : ℕ) (b : List ℕ) (log : List Rec) (bs : List Batch) → m ≤ 16384 → Reads m b log → Holds log bs → LowRows (eight_rows (map row_of bs))
unfolding eight_rows
rows_low m b log bs h rd hd k =
    let e : row_at (tab 8 (row_at (map row_of bs))) k ≡ row_at (map row_of bs) k =
    getD_tab_of 8 k (map row_of bs) no_row (omega (arith, length-map bs row_of, hd.few)) in
    omega (arith, ap (λ (x : Row). x.pending) e, pending_at bs k, hd.count, reads_few m b log rd, h)

pub going_low : (n m : ℕ) (b : List ℕ) (i : ℕ) (o : Batches) → m ≤ 16384 → Going n m b i o → LowRows o.rows
going_low n m b i o h g = subst LowRows (sym g.shows.rows) (rows_low m b g.log g.bs h g.reads g.holds)

-- ---- the slot itself

from_more : (n : ℕ) (l : List Rec) (x : Rec) → slots_from n (l ++ x ∷ []) ≡ slots_from n l ++ full (n + length l) x ∷ []
unfolding slots_from
from_more n [] x = ap (λ (k : ℕ). full k x ∷ []) (same n)
  where
    same : (n : ℕ) → n ≡ n + 0
    same n = omega arith
from_more n (r ∷ l) x = ap (λ (y : List Slot). full n r ∷ y) (from_more (suc n) l x ∙ ap (λ (k : ℕ). slots_from (suc n) l ++ full k x ∷ []) (same n (length l)))
  where
    same : (n k : ℕ) → suc n + k ≡ n + suc k
    same n k = omega arith

module _ (n m : ℕ) (b : List ℕ) (i : ℕ) (o : Batches) (g : Going n m b i o) (h : i < m) where
  abbrev s : List Slot
  s = slots_of m b

  abbrev slot : Slot
  slot = read_slot (part b (slot_size * i) slot_size)

  here : drop i (slots_of m b) ≡ read_slot (part b (slot_size * i) slot_size) ∷ drop (suc i) (slots_of m b)
  here =
      drop-cons (slots_of m b) i empty (omega (arith, h, read_all_length slot_size read_slot m b))
      ∙ ap (λ (x : Slot). x ∷ drop (suc i) (slots_of m b)) (read_all_at slot_size read_slot m i b empty h)

  -- A slot that is in order: its record is one more.
  next : (own : ℕ) (x : Rec) (r : Batches) → slot ≡ full own x → own ≡ suc i → row (suc i) x ≡ true → names_pages n x ≡ true → chain_step (suc i) x g.bs ≡ true
      → Shows (tell x.kind (suc i) x g.bs) r → Going n m b (suc i) r
  unfolding slots_ok records_of chain_ok told
  next own x r e z w v c sh =
      let d : drop i (slots_of m b) ≡ full (suc i) x ∷ drop (suc i) (slots_of m b) =
      here ∙ ap (λ (y : Slot). y ∷ drop (suc i) (slots_of m b)) (e ∙ ap (λ (k : ℕ). full k x) z) in
      let k : suc (length g.log) ≡ suc i = ap suc g.size in
      let l : length (g.log ++ x ∷ []) ≡ suc i = length-append g.log (x ∷ []) ∙ omega (arith, g.size) in
      record {
        log = g.log ++ x ∷ [];
        bs = tell x.kind (suc i) x g.bs;
        size = l;
        reads =
            ap (λ (y : ℕ). take y (slots_of m b)) l
            ∙ take-suc (slots_of m b) i empty (omega (arith, h, read_all_length slot_size read_slot m b))
            ∙ ap₂ (λ (y : List Slot) (a : Slot). y ++ a ∷ [])
            (ap (λ (y : ℕ). take y (slots_of m b)) (sym g.size) ∙ g.reads)
            (read_all_at slot_size read_slot m i b empty h ∙ e ∙ ap (λ (y : ℕ). full y x) (z ∙ sym (omega_one (length g.log) ∙ k)))
            ∙ sym (from_more 1 g.log x);
        holds =
            subst (λ (y : ℕ). Holds (g.log ++ x ∷ []) (tell x.kind y x g.bs)) k
            (holds_step g.log x g.bs g.holds (subst (λ (y : ℕ). chain_step y x g.bs ≡ true) (sym k) c));
        shows = sh;
        slots = g.slots ∙ ap (slots_ok n (suc i)) d ∙ rw (slots_ok, eq_self (suc i), w, v);
        chain = g.chain ∙ ap (λ (y : List Slot). chain_ok (suc i) (records_of y) g.bs) d ∙ rw (chain_ok, c);
        told_so = g.told_so ∙ ap (λ (y : List Slot). told (suc i) (records_of y) g.bs) d;
        count = g.count ∙ ap (λ (y : List Slot). i + length (records_of y)) d ∙ omega arith;
      }
    where
      omega_one : (k : ℕ) → 1 + k ≡ suc k
      omega_one k = omega arith

      eq_self : (k : ℕ) → eqb k k ≡ true
      eq_self k = eq_true k k refl

  -- The four tests of a slot, and what they leave of the judgement.
  none_of : (a c d e f t : Bool) → a && (c && (d && e)) ≡ false → (a && (c && (d && f))) && (e && t) ≡ false
  none_of false c d e f t h = refl
  none_of true false d e f t h = refl
  none_of true true false e f t h = refl
  none_of true true true true f t h = clash h
  none_of true true true false false t h = refl
  none_of true true true false true t h = refl

  refused_by : (x : Slot) (t : List Slot) → is_empty x ≡ false → Turned n (suc i) x g.bs None
      → slots_ok n (suc i) (x ∷ t) && chain_ok (suc i) (records_of (x ∷ t)) g.bs ≡ false
  unfolding is_empty Turned slots_ok records_of chain_ok
  refused_by empty t q d = clash q
  refused_by (other y) t q d = refl
  refused_by (full own x) t q d =
      none_of (eqb own (suc i)) (row (suc i) x) (names_pages n x) (chain_step (suc i) x g.bs) (slots_ok n (suc (suc i)) t)
      (chain_ok (suc (suc i)) (records_of t) (tell x.kind (suc i) x g.bs)) d

  accepted_by : (x : Slot) (r : Batches) → slot ≡ x → Turned n (suc i) x g.bs (Some r) → Going n m b (suc i) r
  unfolding Turned
  accepted_by empty r q d = clash d
  accepted_by (other y) r q d = clash d
  accepted_by (full own x) r q d =
      let t = and_true (eqb own (suc i)) (row (suc i) x && (names_pages n x && chain_step (suc i) x g.bs)) d.0 in
      let u = and_true (row (suc i) x) (names_pages n x && chain_step (suc i) x g.bs) t.1 in
      let v = and_true (names_pages n x) (chain_step (suc i) x g.bs) u.1 in
      next own x r q (true_eq own (suc i) t.0) u.0 v.0 v.1 d.1

  -- THE TURN: on to the next slot, or out.
  pub going_on : (r : Batches) → Turns n m b i o (Some r) → Going n m b (i + 1) r
  going_on r t =
      subst (λ (k : ℕ). Going n m b k r) (sym (add-one i)) (accepted_by slot r refl (t g.log g.bs g.reads g.size g.holds g.shows))

  pub going_off : is_empty slot ≡ false → Turns n m b i o None → Judgement n (slots_of m b) None
  going_off q t =
      ap₂ (λ (x y : Bool). x && y) (g.slots ∙ ap (slots_ok n (suc i)) here) (g.chain ∙ ap (λ (y : List Slot). chain_ok (suc i) (records_of y) g.bs) here)
      ∙ refused_by slot (drop (suc i) (slots_of m b)) q (t g.log g.bs g.reads g.size g.holds g.shows)

  empty_here : is_empty slot ≡ true → slot ≡ empty
  unfolding is_empty
  empty_here e = go slot e
    where
      go : (x : Slot) → is_empty x ≡ true → x ≡ empty
      go empty e = refl
      go (full own x) e = clash (sym e)
      go (other y) e = clash (sym e)

  -- What the rest says of the judgement: nothing is left, or an empty slot is next.
  rest_empty : is_empty slot ≡ true → (records_of (drop i (slots_of m b)) ≡ []) × (slots_ok n (suc i) (drop i (slots_of m b)) ≡ every is_empty (drop i (slots_of m b)))
  unfolding records_of slots_ok every is_empty
  rest_empty e =
      let d : drop i (slots_of m b) ≡ empty ∷ drop (suc i) (slots_of m b) = here ∙ ap (λ (y : Slot). y ∷ drop (suc i) (slots_of m b)) (empty_here e) in
      (ap records_of d, ap (slots_ok n (suc i)) d ∙ sym (ap (every is_empty) d))

rest_none : (n m : ℕ) (b : List ℕ) (i : ℕ) → m ≤ i
    → (records_of (drop i (slots_of m b)) ≡ []) × (slots_ok n (suc i) (drop i (slots_of m b)) ≡ every is_empty (drop i (slots_of m b)))
unfolding records_of slots_ok every
rest_none n m b i h =
    let d : drop i (slots_of m b) ≡ [] = drop_of_length-le (slots_of m b) {i = i} (omega (arith, h, read_all_length slot_size read_slot m b)) in
    (ap records_of d, ap (slots_ok n (suc i)) d ∙ sym (ap (every is_empty) d))

-- The records end before slot i: refused just where a slot from there on is not empty.
abbrev pub Finished : ℕ → List ℕ → ℕ → Batches → Option Said → Type 0
Finished m b i o r =
    MatchOption r (every is_empty (drop i (slots_of m b)) ≡ false) (λ j. (every is_empty (drop i (slots_of m b)) ≡ true) × (j.batches ≡ o) × (j.logged ≡ i))

-- THE END of the records: right if the rest is empty.
module _ (n m : ℕ) (b : List ℕ) (i : ℕ) (o : Batches) (g : Going n m b i o) where
  module _ (e : (records_of (drop i (slots_of m b)) ≡ []) × (slots_ok n (suc i) (drop i (slots_of m b)) ≡ every is_empty (drop i (slots_of m b)))) where
    ends_as : log_right n (slots_of m b) ≡ every is_empty (drop i (slots_of m b))
    unfolding chain_ok
    ends_as =
        let c : chain_ok 1 (records_of (slots_of m b)) [] ≡ true = g.chain ∙ ap (λ (y : List Rec). chain_ok (suc i) y g.bs) e.0 in
        and_yes (slots_ok n 1 (slots_of m b)) (chain_ok 1 (records_of (slots_of m b)) []) c ∙ g.slots ∙ e.1
      where
        and_yes : (a c : Bool) → c ≡ true → a && c ≡ a
        and_yes true c e = e
        and_yes false c e = refl

    ends_so : (r : Option Said) → Finished m b i o r → Judgement n (slots_of m b) r
    unfolding told open_batches desk_of
    ends_so None f = ends_as ∙ f
    ends_so (Some r) f =
        let t : told 1 (records_of (slots_of m b)) [] ≡ g.bs = g.told_so ∙ ap (λ (y : List Rec). told (suc i) y g.bs) e.0 in
        let l : length (records_of (slots_of m b)) ≡ i = g.count ∙ ap (λ (y : List Rec). i + length y) e.0 ∙ omega arith in (
          ends_as ∙ f.0,
          record {
            desk = λ stored.
                ap₂ (λ (x : List Row) (y : ℕ). record { rows = x; logged = y; stored = stored })
                (ap (λ (y : Batches). y.rows) f.1 ∙ g.shows.rows ∙ ap (λ (y : List Batch). eight_rows (map row_of y)) (sym t)) (f.2 ∙ sym l);
            marked = ap (λ (y : Batches). y.marked) f.1 ∙ g.shows.marks ∙ ap (λ (y : List Batch). eight false (marks_of y)) (sym t);
          },
        )

  pub ends_empty : (r : Option Said) → Finished m b i o r → i < m → is_empty (read_slot (part b (slot_size * i) slot_size)) ≡ true → Judgement n (slots_of m b) r
  ends_empty r f h e = ends_so (rest_empty n m b i o g h e) r f

  pub ends_all : (r : Option Said) → Finished m b m o r → m ≡ i → Judgement n (slots_of m b) r
  ends_all r f h = ends_so (rest_none n m b i (omega arith)) r (subst (λ (k : ℕ). Finished m b k o r) h f)
