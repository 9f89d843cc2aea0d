-- The open batches of a log: pending values are small, and no batch goes on beyond the log. Every record that keeps the chain keeps that.
use Rattle.std.specs.Prelude.{ℕ, suc, ◌≤◌, ◌≡◌, Bool, List, [], ◌∷◌, eqb}
use Rattle.std.proofs.Math.Path.{refl, ap}
use Rattle.std.proofs.Common.{sym, ◌∙◌, subst, arith}
use Rattle.std.proofs.Math.Option.{Option, none, some}
use Rattle.std.proofs.Math.Bool.{true, false, not}
use Rattle.def_base.specs.Tests.{pick, Case, yes!, no!, case, clash, none_some, some_inj, true_eq, and_true}
use Rattle.def_layout.specs.Entries.{top}
use Rattle.def_layout.specs.Records.{Rec, Kind, begin, insert, delete, undo_insert, undo_delete, commit, abort_mark, end, split, link, unlink, merge, redistribute, raise, lower}
use Rattle.def_model.specs.Batches.{Line, Batch, find_batch, change_batch, drop_batch, rest_of, next_undo, written, undone, mark_set, tell, follows, unmarked, undoes_line, newest_is, undoes, nothing_pending, chains}
use Rattle.theory_ledger.specs.Batching.{Falls, Within, within_found, find_number}
use Rattle.law_widths.specs.Each.{Each, each_append, each_map}

-- ---- one batch of a list

pub each_found : (P : Batch → Type 0) (n : ℕ) (bs : List Batch) (b : Batch) → Each P bs → find_batch n bs ≡ some b → P b
unfolding Each find_batch
each_found P n [] b h e = none_some e
each_found P n (a ∷ bs) b h e = go (case (eqb n a.number)) (each_found P n bs b h.1)
  where
    go : Case (eqb n a.number) → (find_batch n bs ≡ some b → P b) → P b
    go (yes! t) i = subst P (some_inj (rw t at e)) h.0
    go (no! t) i = i (rw t at e)

each_change : (P : Batch → Type 0) (n : ℕ) (f : Batch → Batch) (bs : List Batch) → ((b : Batch) → P b → P (f b)) → Each P bs → Each P (change_batch n f bs)
unfolding Each change_batch
each_change P n f [] g h = tt
each_change P n f (b ∷ bs) g h = go (eqb n b.number) (each_change P n f bs g h.1)
  where
    go : (t : Bool) → Each P (change_batch n f bs) → Each P (pick t (f b ∷ bs) (b ∷ change_batch n f bs))
    go true i = (g b h.0, h.1)
    go false i = (h.0, i)

each_dropped : (P : Batch → Type 0) (n : ℕ) (bs : List Batch) → Each P bs → Each P (drop_batch n bs)
unfolding Each drop_batch
each_dropped P n [] h = tt
each_dropped P n (b ∷ bs) h = go (eqb n b.number) (each_dropped P n bs h.1)
  where
    go : (t : Bool) → Each P (drop_batch n bs) → Each P (pick t bs (b ∷ drop_batch n bs))
    go true i = h.1
    go false i = (h.0, i)

each_rest : (P : Line → Type 0) (ls : List Line) → Each P ls → Each P (rest_of ls)
unfolding Each rest_of
each_rest P [] h = tt
each_rest P (l ∷ ls) h = h.1

-- ---- values

-- Every pending value is a value.
abbrev pub Valued : Batch → Type 0
Valued b = Each (λ l. l.value ≤ top) b.lines

-- A record whose value is small keeps them so.
pub values_tell : (k : Kind) (n : ℕ) (r : Rec) (bs : List Batch) → r.second ≤ top → Each Valued bs → Each Valued (tell k n r bs)
unfolding tell written undone mark_set Each
values_tell begin n r bs f h = each_append Valued bs _ h (tt, tt)
values_tell insert n r bs f h = each_change Valued r.batch _ bs (λ b w. (f, w)) h
values_tell delete n r bs f h = each_change Valued r.batch _ bs (λ b w. (f, w)) h
values_tell undo_insert n r bs f h = each_change Valued r.batch _ bs (λ b w. each_rest (λ l. l.value ≤ top) b.lines w) h
values_tell undo_delete n r bs f h = each_change Valued r.batch _ bs (λ b w. each_rest (λ l. l.value ≤ top) b.lines w) h
values_tell commit n r bs f h = each_dropped Valued r.batch bs h
values_tell abort_mark n r bs f h = each_change Valued r.batch _ bs (λ b w. w) h
values_tell end n r bs f h = each_dropped Valued r.batch bs h
values_tell split n r bs f h = h
values_tell link n r bs f h = h
values_tell unlink n r bs f h = h
values_tell merge n r bs f h = h
values_tell redistribute n r bs f h = h
values_tell raise n r bs f h = h
values_tell lower n r bs f h = h

-- ---- numbers

-- A batch's number and its last record's are not above m.
pub record Lasts (m : ℕ) (b : Batch) : Type 0 where
  pub number_within : b.number ≤ m
  pub last_within : b.last ≤ m

lasts_more : (m : ℕ) (bs : List Batch) → Each (Lasts m) bs → Each (Lasts (suc m)) bs
lasts_more m bs h = each_map (Lasts m) (Lasts (suc m)) (λ b w. record { number_within = omega arith; last_within = omega arith }) bs h

pub lasts_tell : (k : Kind) (m : ℕ) (r : Rec) (bs : List Batch) → Each (Lasts m) bs → Each (Lasts (suc m)) (tell k (suc m) r bs)
unfolding tell written undone mark_set Each
lasts_tell begin m r bs h = each_append (Lasts (suc m)) bs _ (lasts_more m bs h) (record { number_within = omega arith; last_within = omega arith }, tt)
lasts_tell insert m r bs h = each_change (Lasts (suc m)) r.batch _ bs (λ b w. record { number_within = w.number_within; last_within = omega arith }) (lasts_more m bs h)
lasts_tell delete m r bs h = each_change (Lasts (suc m)) r.batch _ bs (λ b w. record { number_within = w.number_within; last_within = omega arith }) (lasts_more m bs h)
lasts_tell undo_insert m r bs h = each_change (Lasts (suc m)) r.batch _ bs (λ b w. record { number_within = w.number_within; last_within = omega arith }) (lasts_more m bs h)
lasts_tell undo_delete m r bs h = each_change (Lasts (suc m)) r.batch _ bs (λ b w. record { number_within = w.number_within; last_within = omega arith }) (lasts_more m bs h)
lasts_tell commit m r bs h = each_dropped (Lasts (suc m)) r.batch bs (lasts_more m bs h)
lasts_tell abort_mark m r bs h = each_change (Lasts (suc m)) r.batch _ bs (λ b w. record { number_within = w.number_within; last_within = omega arith }) (lasts_more m bs h)
lasts_tell end m r bs h = each_dropped (Lasts (suc m)) r.batch bs (lasts_more m bs h)
lasts_tell split m r bs h = lasts_more m bs h
lasts_tell link m r bs h = lasts_more m bs h
lasts_tell unlink m r bs h = lasts_more m bs h
lasts_tell merge m r bs h = lasts_more m bs h
lasts_tell redistribute m r bs h = lasts_more m bs h
lasts_tell raise m r bs h = lasts_more m bs h
lasts_tell lower m r bs h = lasts_more m bs h

-- ---- what a record of a batch may say

-- The kinds of a batch's records after its begin.
abbrev pub of_batch : Kind → Bool
of_batch begin = false
of_batch insert = true
of_batch delete = true
of_batch undo_insert = true
of_batch undo_delete = true
of_batch commit = true
of_batch abort_mark = true
of_batch end = true
of_batch split = false
of_batch link = false
of_batch unlink = false
of_batch merge = false
of_batch redistribute = false
of_batch raise = false
of_batch lower = false

-- Its batch and the record before are not above m; what an undo-delete puts back is small.
pub record Says (m : ℕ) (k : Kind) (r : Rec) : Type 0 where
  pub batch_within : r.batch ≤ m
  pub previous_within : r.previous ≤ m
  pub value_small : k ≡ undo_delete → r.second ≤ top

next_falls : (n : ℕ) (ls : List Line) → Falls n ls → next_undo ls ≤ n
unfolding Falls next_undo
next_falls n [] h = omega arith
next_falls n (l ∷ ls) h = let a = h.1 in omega arith

lines_say : (m : ℕ) (r : Rec) (adds : Bool) (ls : List Line) → Falls (suc m) ls → Each (λ l. l.value ≤ top) ls → newest_is adds r.second ls ≡ true → undoes_line r ls ≡ true
    → (r.previous ≤ m) × (adds ≡ false → r.second ≤ top)
unfolding Falls Each newest_is undoes_line
lines_say m r adds [] w v x y = clash (sym y)
lines_say m r true (l ∷ ls) w v x y =
    let p = true_eq r.previous (next_undo ls) (and_true (eqb r.key l.key) (eqb r.previous (next_undo ls)) y).1 in
    let n = next_falls l.number ls w.2 in
    let f = w.1 in
    (omega arith, λ z. clash z)
lines_say m r false (l ∷ ls) w v x y =
    let p = true_eq r.previous (next_undo ls) (and_true (eqb r.key l.key) (eqb r.previous (next_undo ls)) y).1 in
    let n = next_falls l.number ls w.2 in
    let f = w.1 in
    let q = true_eq r.second l.value (and_true (not l.adds) (eqb r.second l.value) x).1 in
    let u = v.0 in
    (omega arith, λ z. omega arith)

abbrev is_undo_delete : Kind → Bool
is_undo_delete begin = false
is_undo_delete insert = false
is_undo_delete delete = false
is_undo_delete undo_insert = false
is_undo_delete undo_delete = true
is_undo_delete commit = false
is_undo_delete abort_mark = false
is_undo_delete end = false
is_undo_delete split = false
is_undo_delete link = false
is_undo_delete unlink = false
is_undo_delete merge = false
is_undo_delete redistribute = false
is_undo_delete raise = false
is_undo_delete lower = false

module _ (m : ℕ) (r : Rec) (bs : List Batch) (within : Within m bs) (lasts : Each (Lasts m) bs) (values : Each Valued bs) where
  -- A record that goes on from its batch's last.
  followed : (k : Kind) (o : Option Batch) → find_batch r.batch bs ≡ o → is_undo_delete k ≡ false → follows r o ≡ true → Says m k r
  unfolding follows
  followed k none e d f = clash (sym f)
  followed k (some b) e d f =
      let n = find_number r.batch bs b e in
      let w = each_found (Lasts m) r.batch bs b lasts e in
      let p = true_eq r.previous b.last f in
      record { batch_within = omega arith; previous_within = omega arith; value_small = λ z. clash (sym (ap is_undo_delete z) ∙ d) }

  -- A record that undoes its batch's newest.
  undone_line : (adds : Bool) (k : Kind) (o : Option Batch) → find_batch r.batch bs ≡ o → is_undo_delete k ≡ not adds → undoes adds r o ≡ true → Says m k r
  unfolding undoes
  undone_line adds k none e d f = clash (sym f)
  undone_line adds k (some b) e d f =
      let n = find_number r.batch bs b e in
      let w = each_found (Lasts m) r.batch bs b lasts e in
      let (x, y) = and_true (newest_is adds r.second b.lines) (undoes_line r b.lines) f in
      let (p, q) = lines_say m r adds b.lines (within_found m r.batch bs b within e) (each_found Valued r.batch bs b values e) x y in
      record { batch_within = omega arith; previous_within = p; value_small = λ z. q (negated adds (sym d ∙ ap is_undo_delete z)) }
    where
      negated : (a : Bool) → not a ≡ true → a ≡ false
      negated true z = clash (sym z)
      negated false z = refl

  -- WHAT THE CHAIN SAYS of a batch's record.
  pub chains_say : (k : Kind) (o : Option Batch) → find_batch r.batch bs ≡ o → of_batch k ≡ true → chains k r o ≡ true → Says m k r
  unfolding chains
  chains_say begin o e t h = clash (sym t)
  chains_say insert o e t h = followed insert o e refl (and_true (unmarked o) (follows r o) h).1
  chains_say delete o e t h = followed delete o e refl (and_true (unmarked o) (follows r o) h).1
  chains_say undo_insert o e t h = undone_line true undo_insert o e refl h
  chains_say undo_delete o e t h = undone_line false undo_delete o e refl h
  chains_say commit o e t h = followed commit o e refl (and_true (unmarked o) (follows r o) h).1
  chains_say abort_mark o e t h = followed abort_mark o e refl (and_true (unmarked o) (follows r o) h).1
  chains_say end o e t h = followed end o e refl (and_true (nothing_pending o) (follows r o) h).1
  chains_say split o e t h = clash (sym t)
  chains_say link o e t h = clash (sym t)
  chains_say unlink o e t h = clash (sym t)
  chains_say merge o e t h = clash (sym t)
  chains_say redistribute o e t h = clash (sym t)
  chains_say raise o e t h = clash (sym t)
  chains_say lower o e t h = clash (sym t)
