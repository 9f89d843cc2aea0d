-- Restart's first round: a 7 for each open batch without one, in order. The rows say what the log says after it.
use Rattle.std.specs.Prelude.{ℕ, suc, ◌+◌, ◌<◌, ◌≤◌, ◌≡◌, Bool, true, Option, Some, None, IsSome, IsNone}
use Rattle.std.proofs.Math.Path.{refl, sym, ap, ap₂, subst}
use Rattle.std.proofs.Common.{◌∙◌, arith, add-one}
use Rattle.std.proofs.Math.Bool.{false}
use mathlib.Core.List.{List, [], ◌∷◌, ◌++◌, map, append_assoc, append-nil}
use Rattle.std.proofs.Math.ListN.{length, get_or, set, length-append}
use Rattle.def_layout.specs.declared.Row.{Row}
use Rattle.def_layout.specs.Desks.{no_row, row_at, eight_rows}
use Rattle.def_layout.specs.Records.{Rec, kind_of, batch_row, abort_mark}
use Rattle.def_model.specs.declared.Refusal.{Refusal}
use Rattle.def_model.specs.Update.{Run, emit}
use Rattle.def_model.specs.Batches.{Batch, row_of, mark_set, open_batches}
use Rattle.def_model.specs.Undo.{mark_by, mark_all}
use Rattle.law_bytes.specs.Pieces.{All}
use Rattle.tree_write.specs.declared.Run as program
use Rattle.tree_write.specs.Shows.{Shows, Stops, stops_not_zero}
use Rattle.log_pending.specs.Below.{Linked}
use Rattle.law_bytes.specs.Eights.{eight}
use Rattle.log_chain.specs.Shown.{marks_of}
use Rattle.call_undo.specs.declared.Turn.{Turn}
use Rattle.call_undo.specs.declared.Round.{Round}
use Rattle.call_undo.specs.Grown.{Grown, grown_none, grown_emit}
use Rattle.call_undo.specs.Rounds.{Emitted, wrote, halted, emitted, open_marked, Leading, eight_here, eight_changed}

-- ---- one row

-- Batch b, among those open, after its turn: marked or not, and with its lines.
pub record MarksRow (n m : ℕ) (wp wl : List ℕ) (x : Turn) (s : Run) (xs : List Batch) (b : Batch) (ys : List Batch) : Type 0 where
  pub run : Shows n m wp wl x.run (mark_by b.marked b s)
  pub batch : Batch
  pub row : x.row ≡ row_of batch
  pub lines : batch.lines ≡ b.lines
  pub opens : open_batches (mark_by b.marked b s).log ≡ xs ++ batch ∷ ys

abbrev pub MarksTurn : (n m : ℕ) (wp wl wp' wl' : List ℕ) (t : program.Run) (row : Row) (marked : Bool) (x : Turn) → Type 0
MarksTurn n m wp wl wp' wl' t row marked x =
    (s : Run) (xs : List Batch) (b : Batch) (ys : List Batch) → Shows n m wp wl t s → open_batches s.log ≡ xs ++ b ∷ ys → row ≡ row_of b → marked ≡ b.marked
    → MarksRow n m wp' wl' x s xs b ys

abbrev mark_of : Batch → Rec
mark_of b = batch_row abort_mark b.number b.last

mark_row_is : (b : Batch) (row : Row) (k j : ℕ) → row ≡ row_of b → j ≡ k
    → record { batch = row.batch; last = j; undo = row.undo; pending = row.pending } ≡ row_of (mark_set k b)
unfolding row_of mark_set
mark_row_is b row k j e q = ap₂ (λ (x : Row) (v : ℕ). record { batch = x.batch; last = v; undo = x.undo; pending = x.pending }) e q

none_stops : (o : Option Refusal) (n : ℕ) → IsNone o → Stops o n → n ≡ 0
none_stops None n e h = h
none_stops (Some why) n e h = cc

mark_lines : (b : Batch) (k : ℕ) → (mark_set k b).lines ≡ b.lines
unfolding mark_set
mark_lines b k = refl

module _ {n m : ℕ} {wp wl : List ℕ} (s : Run) (xs : List Batch) (b : Batch) (ys : List Batch) (row : Row) (o : open_batches s.log ≡ xs ++ b ∷ ys) (e : row ≡ row_of b) where
  pub row_had : {t : program.Run} → Shows n m wp wl t s → b.marked ≡ true → MarksRow n m wp wl (record { run = t; row = row }) s xs b ys
  unfolding mark_by
  row_had {t} h k =
      let q : mark_by b.marked b s ≡ s = rw k in
      record { run = subst (Shows n m wp wl t) (sym q) h; batch = b; row = e; lines = refl; opens = ap (λ (x : Run). open_batches x.log) q ∙ o }

  module _ (k : b.marked ≡ false) {u : program.Run} (r : Rec) (c : r ≡ batch_row (kind_of 7) row.batch row.last) (h : Shows n m wp wl u (emit r s)) where
    is_mark : r ≡ mark_of b
    unfolding kind_of row_of
    is_mark = c ∙ ap (λ (x : Row). batch_row abort_mark x.batch x.last) e

    by_mark : mark_by b.marked b s ≡ emit (mark_of b) s
    unfolding mark_by
    by_mark = rw k

    shown : Shows n m wp wl u (emit (mark_of b) s)
    shown = subst (λ (x : Rec). Shows n m wp wl u (emit x s)) is_mark h

    pub row_halted : IsSome u.stop → MarksRow n m wp wl (record { run = u; row = row }) s xs b ys
    row_halted z = go (emitted (mark_of b) s)
      where
        go : Emitted (mark_of b) s → MarksRow n m wp wl (record { run = u; row = row }) s xs b ys
        go (wrote l w) = absurd (stops_not_zero u.stop _ z shown.stop w)
        go (halted l w) =
            record {
              run = subst (Shows n m wp wl u) (sym by_mark) shown;
              batch = b;
              row = e;
              lines = refl;
              opens = ap (λ (x : Run). open_batches x.log) by_mark ∙ ap open_batches l ∙ o;
            }

    abbrev pub marked_row : Row
    marked_row = record { batch = row.batch; last = u.logged; undo = row.undo; pending = row.pending }

    pub row_marked : IsNone u.stop → MarksRow n m wp wl (record { run = u; row = marked_row }) s xs b ys
    row_marked z = go (emitted (mark_of b) s)
      where
        number : (emit (mark_of b) s).log ≡ s.log ++ mark_of b ∷ [] → u.logged ≡ suc (length s.log)
        number l = sym shown.logged ∙ ap (λ (x : List Rec). length x) l ∙ length-append s.log (mark_of b ∷ []) ∙ add-one (length s.log)

        go : Emitted (mark_of b) s → MarksRow n m wp wl (record { run = u; row = marked_row }) s xs b ys
        go (halted l w) = absurd (w (none_stops u.stop _ z shown.stop))
        go (wrote l w) =
            record {
              run = subst (Shows n m wp wl u) (sym by_mark) shown;
              batch = mark_set (suc (length s.log)) b;
              row = mark_row_is b row (suc (length s.log)) u.logged e (number l);
              lines = mark_lines b (suc (length s.log));
              opens = ap (λ (x : Run). open_batches x.log) by_mark ∙ ap open_batches l ∙ open_marked s xs b ys o b.last;
            }

-- ---- row after row

-- Where the round has come to: i batches have had their turn, and `left` have not.
pub record MarkedTo (n m : ℕ) (wp wl : List ℕ) (t : program.Run) (rows : List Row) (i : ℕ) (s : Run) : Type 0 where
  pub run : Run
  pub past : List Batch
  pub done : List Batch
  pub left : List Batch
  pub whole : open_batches s.log ≡ past ++ left
  pub place : length past ≡ i
  pub size : length done ≡ i
  pub shows : Shows n m wp wl t run
  pub grown : Grown s.log run.log
  pub leading : Leading s.log (done ++ left)
  pub opens : open_batches run.log ≡ done ++ left
  pub says : rows ≡ eight_rows (map row_of (done ++ left))
  pub rest : mark_all left run ≡ mark_all (open_batches s.log) s

-- What the round leaves.
pub record MarkedAll (n m : ℕ) (wp wl : List ℕ) (x : Round) (s : Run) (u : Run) : Type 0 where
  pub shows : Shows n m wp wl x.run u
  pub grown : Grown s.log u.log
  pub leading : Leading s.log (open_batches u.log)
  pub size : length (open_batches u.log) ≡ length (open_batches s.log)
  pub rows : x.rows ≡ eight_rows (map row_of (open_batches u.log))

-- What it starts from: rows and marks of the open batches, `used` of them.
pub record Starts (n m : ℕ) (wp wl : List ℕ) (t : program.Run) (rows : List Row) (marked : List Bool) (used : ℕ) (s : Run) : Type 0 where
  pub shows : Shows n m wp wl t s
  pub leading : Leading s.log (open_batches s.log)
  pub says : rows ≡ eight_rows (map row_of (open_batches s.log))
  pub marks : marked ≡ eight false (marks_of (open_batches s.log))
  pub count : used ≡ length (open_batches s.log)

abbrev pub Marking : (n m : ℕ) (wp₀ wl₀ wp wl : List ℕ) (t₀ t : program.Run) (rows₀ rows : List Row) (marked : List Bool) (used i : ℕ) → Type 0
Marking n m wp₀ wl₀ wp wl t₀ t rows₀ rows marked used i = (s : Run) → Starts n m wp₀ wl₀ t₀ rows₀ marked used s → MarkedTo n m wp wl t rows i s

pub marking_start : {n m : ℕ} {wp wl : List ℕ} {t : program.Run} {rows : List Row} (marked : List Bool) (used : ℕ) → Marking n m wp wl wp wl t t rows rows marked used 0
marking_start marked used s h =
    record {
      run = s;
      past = [];
      done = [];
      left = open_batches s.log;
      whole = refl;
      place = refl;
      size = refl;
      shows = h.shows;
      grown = grown_none s.log;
      leading = h.leading;
      opens = refl;
      says = h.says;
      rest = refl;
    }

-- Of a list of so many linked batches one is another, with the same lines.
leading_change : (l : List Rec) (xs : List Batch) (b c : Batch) (ys : List Batch) → c.lines ≡ b.lines → Leading l (xs ++ b ∷ ys) → Leading l (xs ++ c ∷ ys)
unfolding All
leading_change l [] b c ys e h = (subst (Linked l) (sym e) h.0, h.1)
leading_change l (x ∷ xs) b c ys e h = (h.0, leading_change l xs b c ys e h.1)

grown_mark : (l : List Rec) (k : Bool) (b : Batch) (s : Run) → Grown l s.log → Grown l (mark_by k b s).log
unfolding mark_by
grown_mark l true b s g = g
grown_mark l false b s g = grown_emit l _ s g

module _ {n m : ℕ} {wp₀ wl₀ wp wl : List ℕ} {t₀ t : program.Run} {rows₀ rows : List Row} {marked : List Bool} (used i : ℕ) (w : Marking n m wp₀ wl₀ wp wl t₀ t rows₀ rows marked used i) where
  pub marking_end : used ≤ i → (s : Run) → Starts n m wp₀ wl₀ t₀ rows₀ marked used s → MarkedAll n m wp wl (record { run = t; rows = rows }) s (mark_all (open_batches s.log) s)
  unfolding mark_all eight_rows
  marking_end z s h = go (w s h) (w s h).left refl
    where
      go : (k : MarkedTo n m wp wl t rows i s) (left : List Batch) → k.left ≡ left → MarkedAll n m wp wl (record { run = t; rows = rows }) s (mark_all (open_batches s.log) s)
      go k (b ∷ ys) o =
          absurd (omega (arith, z, h.count, ap (λ (x : List Batch). length x) (k.whole ∙ ap (λ (x : List Batch). k.past ++ x) o), length-append k.past (b ∷ ys), k.place))
      go k [] o =
          let all : k.done ++ k.left ≡ k.done = ap (λ (x : List Batch). k.done ++ x) o ∙ append-nil k.done in
          let same : k.run ≡ mark_all (open_batches s.log) s = sym (ap (λ (x : List Batch). mark_all x k.run) o) ∙ k.rest in
          let before : open_batches s.log ≡ k.past = k.whole ∙ ap (λ (x : List Batch). k.past ++ x) o ∙ append-nil k.past in
          subst (MarkedAll n m wp wl (record { run = t; rows = rows }) s) same
          (record {
            shows = k.shows;
            grown = k.grown;
            leading = subst (Leading s.log) (sym k.opens) k.leading;
            size = ap (λ (x : List Batch). length x) (k.opens ∙ all) ∙ k.size ∙ sym k.place ∙ sym (ap (λ (x : List Batch). length x) before);
            rows = k.says ∙ ap (λ (x : List Batch). eight_rows (map row_of x)) (sym k.opens);
          })

  pub marking_on : {wp' wl' : List ℕ} (x : Turn) → i < used → used ≤ 8 → MarksTurn n m wp wl wp' wl' t (row_at rows i) (get_or marked i false) x
      → Marking n m wp₀ wl₀ wp' wl' t₀ x.run rows₀ (set rows i x.row) marked used (i + 1)
  unfolding mark_all eight_rows
  marking_on {wp'} {wl'} x z few f s h = go (w s h) (w s h).left refl
    where
      go : (k : MarkedTo n m wp wl t rows i s) (left : List Batch) → k.left ≡ left → MarkedTo n m wp' wl' x.run (set rows i x.row) (i + 1) s
      go k [] o =
          absurd (omega (arith, z, h.count, ap (λ (v : List Batch). length v) (k.whole ∙ ap (λ (v : List Batch). k.past ++ v) o ∙ append-nil k.past), k.place))
      go k (b ∷ ys) o =
          let whole : open_batches s.log ≡ k.past ++ b ∷ ys = k.whole ∙ ap (λ (v : List Batch). k.past ++ v) o in
          let all : k.done ++ k.left ≡ k.done ++ b ∷ ys = ap (λ (v : List Batch). k.done ++ v) o in
          let opens : open_batches k.run.log ≡ k.done ++ b ∷ ys = k.opens ∙ all in
          let rows_now : rows ≡ eight_rows (map row_of (k.done ++ b ∷ ys)) = k.says ∙ ap (λ (v : List Batch). eight_rows (map row_of v)) all in
          let size : length (k.done ++ b ∷ ys) ≤ 8 =
          omega (arith, few, h.count, ap (λ (v : List Batch). length v) whole, length-append k.past (b ∷ ys), length-append k.done (b ∷ ys), k.place, k.size) in
          let row : row_at rows i ≡ row_of b = ap (λ (v : List Row). row_at v i) rows_now ∙ eight_here no_row row_of k.done b ys i k.size (omega arith) in
          let mark : get_or marked i false ≡ b.marked =
          ap (λ (v : List Bool). get_or v i false) (h.marks ∙ ap (λ (v : List Batch). eight false (marks_of v)) whole) ∙ eight_here false (λ c. c.marked) k.past b ys i k.place (omega arith) in
          let r = f k.run k.done b ys k.shows opens row mark in
          let join : k.done ++ r.batch ∷ ys ≡ (k.done ++ r.batch ∷ []) ++ ys = sym (append_assoc k.done (r.batch ∷ []) ys) in
          record {
            run = mark_by b.marked b k.run;
            past = k.past ++ b ∷ [];
            done = k.done ++ r.batch ∷ [];
            left = ys;
            whole = whole ∙ sym (append_assoc k.past (b ∷ []) ys);
            place = length-append k.past (b ∷ []) ∙ ap (λ (v : ℕ). v + 1) k.place;
            size = length-append k.done (r.batch ∷ []) ∙ ap (λ (v : ℕ). v + 1) k.size;
            shows = r.run;
            grown = grown_mark s.log b.marked b k.run k.grown;
            leading = subst (Leading s.log) join (leading_change s.log k.done b r.batch ys r.lines (subst (Leading s.log) all k.leading));
            opens = r.opens ∙ join;
            says =
                ap₂ (λ (v : List Row) (y : Row). set v i y) rows_now r.row ∙ eight_changed no_row row_of k.done b ys i k.size r.batch size
                ∙ ap (λ (v : List Batch). eight_rows (map row_of v)) join;
            rest = sym (ap (λ (v : List Batch). mark_all v k.run) o) ∙ k.rest;
          }
