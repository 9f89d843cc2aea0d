-- Restart's undo, line by line: always the largest number due, with an 8 right after a batch's last line; and the three rounds together.
use Rattle.std.specs.Prelude.{ℕ, zero, suc, ◌+◌, ◌-◌, ◌≤◌, ◌≡◌, refl, Bool, true, false, set, replicate, eqb, ltb}
use Rattle.std.proofs.Math.Path.{sym, ap, ap₂, subst}
use Rattle.std.proofs.Common.{◌∙◌, arith}
use Rattle.std.proofs.Math.Option.{Option, none, some}
use mathlib.Core.List.{List, [], ◌∷◌, ◌++◌, map}
use Rattle.std.proofs.Math.ListN.{length}
use Rattle.std.proofs.lemmas.List.{length-map}
use Rattle.def_base.specs.Tests.{pick, Case, yes!, no!, case, none_some, some_inj}
use Rattle.def_layout.specs.declared.Row.{Row}
use Rattle.def_layout.specs.Desks.{no_row, row_at, eight_rows}
use Rattle.def_layout.specs.Records.{Rec}
use Rattle.def_model.specs.Update.{Run}
use Rattle.def_model.specs.Batches as model
use Rattle.def_model.specs.Batches.{Batch, next_undo, rest_of, row_of, change_batch, open_batches}
use Rattle.def_model.specs.Undo.{undo_line, end_batch, mark_all, end_idle, newer, newest_due, with_lines, after_line, undo_newest, without_newest, undo_step, undo_all}
use Rattle.def_model.specs.Restart.{settle}
use Rattle.law_bytes.specs.Pieces.{All, all_map}
use Rattle.law_areas.specs.Logs.{AllFit}
use Rattle.theory_ledger.specs.Held.{Distinct}
use Rattle.theory_ledger.specs.Batching.{distinct_change}
use Rattle.theory_ledger.specs.Telling.{numbered_open}
use Rattle.theory_history.specs.Marking.{change_mid, distinct_mid}
use Rattle.tree_write.specs.declared.Run as program
use Rattle.tree_write.specs.Shows.{Shows}
use Rattle.log_pending.specs.declared.Line.{Line}
use Rattle.log_pending.specs.Below.{Linked}
use Rattle.log_pending.specs.Holding.{linked_rest, Holds}
use Rattle.log_pending.specs.Lines.{shown_line, TellsLine}
use Rattle.law_bytes.specs.DeskRows.{place_of}
use Rattle.law_bytes.specs.Eights.{eight, padded}
use Rattle.log_chain.specs.Shown.{marks_of}
use Rattle.log_judge.specs.Accepted.{total, total_open}
use Rattle.theory_desk.specs.Opened.{open_from_one}
use Rattle.theory_desk.specs.Rows.{rows_used}
use Rattle.call_undo.specs.declared.Turn.{Turn}
use Rattle.call_undo.specs.declared.Round.{Round}
use Rattle.call_undo.specs.Grown.{Grown, grown_emit, grown_line}
use Rattle.call_undo.specs.Lines.{line_read}
use Rattle.call_undo.specs.Marking.{Starts, MarkedAll}
use Rattle.call_undo.specs.Ending.{Thinned, ends_thinned, grown_ends}
use Rattle.call_undo.specs.Due.{Due, due_thinned, Top, due_top, all_idle}

-- ---- one line of the newest batch

pub record UndoesRow (n m : ℕ) (wp wl : List ℕ) (x : Turn) (s : Run) (b : Batch) (ys : List model.Line) : Type 0 where
  pub run : Shows n m wp wl x.run (undo_newest b.lines b.number s)
  pub row : x.row ≡ row_of (with_lines ys b)

abbrev pub UndoesTurn : (n m : ℕ) (wp wl wp' wl' : List ℕ) (t : program.Run) (row : Row) (x : Turn) → Type 0
UndoesTurn n m wp wl wp' wl' t row x =
    (s : Run) (l : List Rec) (b : Batch) (y : model.Line) (ys : List model.Line) → Shows n m wp wl t s → Grown l s.log → AllFit 1 l → row ≡ row_of b → b.lines ≡ y ∷ ys
    → Linked l (y ∷ ys) → UndoesRow n m wp' wl' x s b ys

-- The row after it.
abbrev pub shorter : Row → ℕ → Row
shorter row under = record { batch = row.batch; last = row.last; undo = under; pending = row.pending - 1 }

shorter_is : (row : Row) (b : Batch) (y : model.Line) (ys : List model.Line) (under : ℕ) → row ≡ row_of b → b.lines ≡ y ∷ ys → under ≡ next_undo ys
    → shorter row under ≡ row_of (with_lines ys b)
unfolding row_of with_lines
shorter_is row b y ys under e o u =
    let c : row.pending - 1 ≡ length ys = omega (arith, ap (λ (x : Row). x.pending) e, ap (λ (v : List model.Line). length v) o) in
    let f : row.batch ≡ b.number = ap (λ (x : Row). x.batch) e in
    let g : row.last ≡ b.last = ap (λ (x : Row). x.last) e in
    let all : shorter row under ≡ record { batch = b.number; last = b.last; undo = next_undo ys; pending = length ys } = cc in
    all

busy_after : (zs : List model.Line) (n : ℕ) (s : Run) → (length zs ≡ 0 → ⊥) → s ≡ after_line zs n s
unfolding after_line
busy_after [] n s z = absurd (z refl)
busy_after (y ∷ ys) n s z = refl

last_after : (zs : List model.Line) (n : ℕ) (s : Run) → length zs ≡ 0 → end_batch n s ≡ after_line zs n s
unfolding after_line
last_after [] n s z = refl
last_after (y ∷ ys) n s z = absurd (omega arith)

module _ {n m : ℕ} {wp wl wp₁ wl₁ : List ℕ} {t t₁ : program.Run} (row : Row) (x : Line) (told : TellsLine m wl row.undo x)
    (f : (s : Run) (y : model.Line) (ys : List model.Line) → Shows n m wp wl t s → x ≡ shown_line y ys → Shows n m wp₁ wl₁ t₁ (undo_line row.batch (next_undo ys) y s)) where
  module _ (s : Run) (l : List Rec) (b : Batch) (y : model.Line) (ys : List model.Line) (h : Shows n m wp wl t s) (g : Grown l s.log) (fits : AllFit 1 l) (e : row ≡ row_of b)
      (o : b.lines ≡ y ∷ ys) (k : Linked l (y ∷ ys)) where
    due_is : row.undo ≡ y.number
    unfolding row_of next_undo
    due_is = ap (λ (v : Row). v.undo) e ∙ ap next_undo o

    shown : x ≡ shown_line y ys
    shown = line_read h l g fits row.undo x told y ys k due_is

    undone : Shows n m wp₁ wl₁ t₁ (undo_line b.number (next_undo ys) y s)
    unfolding row_of
    undone = subst (λ (v : ℕ). Shows n m wp₁ wl₁ t₁ (undo_line v (next_undo ys) y s)) (ap (λ (v : Row). v.batch) e) (f s y ys h shown)

    count : row.pending ≡ suc (length ys)
    unfolding row_of
    count = ap (λ (v : Row). v.pending) e ∙ ap (λ (v : List model.Line). length v) o

    new_row : shorter row x.below ≡ row_of (with_lines ys b)
    new_row = shorter_is row b y ys x.below e o (ap (λ (v : Line). v.below) shown)

    newest_by : undo_newest b.lines b.number s ≡ after_line ys b.number (undo_line b.number (next_undo ys) y s)
    unfolding undo_newest
    newest_by = rw o

    pub line_left : (row.pending ≡ 1 → ⊥) → UndoesRow n m wp₁ wl₁ (record { run = t₁; row = shorter row x.below }) s b ys
    line_left z =
        let v : Run = undo_line b.number (next_undo ys) y s in
        record { run = subst (Shows n m wp₁ wl₁ t₁) (busy_after ys b.number v (λ q. z (count ∙ ap suc q)) ∙ sym newest_by) undone; row = new_row }

    pub line_last : {wp₂ wl₂ : List ℕ} {t₂ : program.Run} → row.pending ≡ 1 → ((s : Run) → Shows n m wp₁ wl₁ t₁ s → Shows n m wp₂ wl₂ t₂ (end_batch row.batch s))
        → UndoesRow n m wp₂ wl₂ (record { run = t₂; row = shorter row x.below }) s b ys
    unfolding row_of
    line_last {wp₂} {wl₂} {t₂} z stop =
        let v : Run = undo_line b.number (next_undo ys) y s in
        let w : Shows n m wp₂ wl₂ t₂ (end_batch b.number v) = subst (λ (i : ℕ). Shows n m wp₂ wl₂ t₂ (end_batch i v)) (ap (λ (c : Row). c.batch) e) (stop v undone) in
        record { run = subst (Shows n m wp₂ wl₂ t₂) (last_after ys b.number v (omega (arith, count, z)) ∙ sym newest_by) w; row = new_row }

-- ---- as often as there are pending lines

-- Where it has come to: `left` turns more give what the whole gives.
pub record SettledTo (n m : ℕ) (wp wl : List ℕ) (t : program.Run) (rows : List Row) (left : ℕ) (l : List Rec) (whole : Run) : Type 0 where
  pub run : Run
  pub batches : List Batch
  pub shows : Shows n m wp wl t run
  pub grown : Grown l run.log
  pub due : Due l rows batches
  pub distinct : Distinct batches
  pub rest : undo_all left batches run ≡ whole

abbrev pub Settles : (n m : ℕ) (wp₀ wl₀ wp wl : List ℕ) (t₀ t : program.Run) (rows₀ rows : List Row) (count left : ℕ) → Type 0
Settles n m wp₀ wl₀ wp wl t₀ t rows₀ rows count left =
    (s : Run) (l : List Rec) (cs : List Batch) → Shows n m wp₀ wl₀ t₀ s → Grown l s.log → AllFit 1 l → Due l rows₀ cs → Distinct cs
    → SettledTo n m wp wl t rows left l (undo_all count cs s)

pub settles_start : {n m : ℕ} {wp wl : List ℕ} {t : program.Run} {rows : List Row} (count : ℕ) → Settles n m wp wl wp wl t t rows rows count count
settles_start times s l cs h g f d k = record { run = s; batches = cs; shows = h; grown = g; due = d; distinct = k; rest = refl }

-- Batches that have nothing pending: nothing is undone.
abbrev Idle : List Batch → Type 0
Idle cs = All (λ b. b.lines ≡ []) cs

idle_newer : (b : Batch) (o : Option Batch) → b.lines ≡ [] → ((c : Batch) → o ≡ some c → c.lines ≡ []) → (c : Batch) → newer b o ≡ some c → c.lines ≡ []
unfolding newer
idle_newer b none h f c e = subst (λ (x : Batch). x.lines ≡ []) (some_inj e) h
idle_newer b (some d) h f c e = go (case (ltb (next_undo b.lines) (next_undo d.lines)))
  where
    go : Case (ltb (next_undo b.lines) (next_undo d.lines)) → c.lines ≡ []
    go (yes! t) = subst (λ (x : Batch). x.lines ≡ []) (some_inj (rw t at e)) (f d refl)
    go (no! t) = subst (λ (x : Batch). x.lines ≡ []) (some_inj (rw t at e)) h

idle_newest : (cs : List Batch) → Idle cs → (c : Batch) → newest_due cs ≡ some c → c.lines ≡ []
unfolding newest_due All
idle_newest [] h c e = none_some e
idle_newest (b ∷ cs) h c e = idle_newer b (newest_due cs) h.0 (idle_newest cs h.1) c e

idle_change : (n : ℕ) (f : Batch → Batch) (cs : List Batch) → ((b : Batch) → (f b).lines ≡ []) → Idle cs → Idle (change_batch n f cs)
unfolding change_batch All
idle_change n f [] g h = tt
idle_change n f (b ∷ cs) g h = go (eqb n b.number) (idle_change n f cs g h.1)
  where
    go : (t : Bool) → Idle (change_batch n f cs) → Idle (pick t (f b ∷ cs) (b ∷ change_batch n f cs))
    go true i = (g b, h.1)
    go false i = (h.0, i)

idle_step : (o : Option Batch) (cs : List Batch) (s : Run) → Idle cs → ((c : Batch) → o ≡ some c → c.lines ≡ []) → ((undo_step o cs s).run ≡ s) × Idle (undo_step o cs s).batches
unfolding undo_step undo_newest without_newest with_lines rest_of
idle_step none cs s h f = (refl, h)
idle_step (some b) cs s h f = (rw (f b refl), idle_change b.number (with_lines (rest_of b.lines)) cs (λ c. rw (f b refl)) h)

undo_idle : (k : ℕ) (cs : List Batch) (s : Run) → Idle cs → undo_all k cs s ≡ s
unfolding undo_all
undo_idle zero cs s h = refl
undo_idle (suc k) cs s h =
    let p = idle_step (newest_due cs) cs s h (idle_newest cs h) in
    undo_idle k (undo_step (newest_due cs) cs s).batches (undo_step (newest_due cs) cs s).run p.1 ∙ p.0

-- One turn of the definition.
undo_turn : (k f : ℕ) (cs : List Batch) (s : Run) (b : Batch) → k ≡ suc f → newest_due cs ≡ some b → undo_all k cs s ≡ undo_all f (without_newest b cs) (undo_newest b.lines b.number s)
unfolding undo_all undo_step
undo_turn k f cs s b e o =
    ap (λ (i : ℕ). undo_all i cs s) e ∙ ap (λ (v : Option Batch). undo_all f (undo_step v cs s).batches (undo_step v cs s).run) o

grown_after : (l : List Rec) (zs : List model.Line) (n : ℕ) (s : Run) → Grown l s.log → Grown l (after_line zs n s).log
unfolding after_line end_batch
grown_after l [] n s g = grown_emit l _ s g
grown_after l (y ∷ ys) n s g = g

grown_newest : (l : List Rec) (ls : List model.Line) (n : ℕ) (s : Run) → Grown l s.log → Grown l (undo_newest ls n s).log
unfolding undo_newest
grown_newest l [] n s g = g
grown_newest l (y ∷ ys) n s g = grown_after l ys n (undo_line n (next_undo ys) y s) (grown_line l n (next_undo ys) y s g)

record HasLine (l : List Rec) (ls : List model.Line) : Type 0 where
  first : model.Line
  later : List model.Line
  is : ls ≡ first ∷ later
  linked : Linked l (first ∷ later)

left_lines : (l : List Rec) (ls : List model.Line) → (length ls ≡ 0 → ⊥) → Linked l ls → HasLine l ls
left_lines l [] z k = absurd (z refl)
left_lines l (y ∷ ys) z k = record { first = y; later = ys; is = refl; linked = k }

module _ {n m : ℕ} {wp₀ wl₀ wp wl : List ℕ} {t₀ t : program.Run} {rows₀ rows : List Row} (count left : ℕ) (w : Settles n m wp₀ wl₀ wp wl t₀ t rows₀ rows count left) where
  pub settles_end : left ≡ 0 → (s : Run) (l : List Rec) (cs : List Batch) → Shows n m wp₀ wl₀ t₀ s → Grown l s.log → AllFit 1 l → Due l rows₀ cs → Distinct cs
      → Shows n m wp wl t (undo_all count cs s)
  unfolding undo_all
  settles_end z s l cs h g f d k =
      let i = w s l cs h g f d k in
      subst (Shows n m wp wl t) (sym (ap (λ (v : ℕ). undo_all v i.batches i.run) z) ∙ i.rest) i.shows

  module _ (p : ℕ) (top : Top rows p) where
    pub settles_idle : (row_at rows p).pending ≡ 0 → (s : Run) (l : List Rec) (cs : List Batch) → Shows n m wp₀ wl₀ t₀ s → Grown l s.log → AllFit 1 l → Due l rows₀ cs → Distinct cs
        → Shows n m wp wl t (undo_all count cs s)
    settles_idle z s l cs h g f d k =
        let i = w s l cs h g f d k in
        subst (Shows n m wp wl t) (sym (undo_idle left i.batches i.run (all_idle l rows i.batches i.due p top z)) ∙ i.rest) i.shows

    pub settles_on : {wp' wl' : List ℕ} (x : Turn) (after : ℕ) → left ≡ after + 1 → ((row_at rows p).pending ≡ 0 → ⊥) → UndoesTurn n m wp wl wp' wl' t (row_at rows p) x
        → Settles n m wp₀ wl₀ wp' wl' t₀ x.run rows₀ (set rows p x.row) count after
    unfolding with_lines row_of without_newest rest_of
    settles_on {wp'} {wl'} x after one z turn s l cs h g f d k =
        let i = w s l cs h g f d k in
        let a = due_top l i.due p top z in
        let b : Batch = a.batch in
        let c = left_lines l b.lines (λ q. z (ap (λ (v : Row). v.pending) a.row ∙ q)) a.linked in
        let r = turn i.run l b c.first c.later i.shows i.grown f a.row c.is c.linked in
        let b' : Batch = with_lines c.later b in
        let less : without_newest b i.batches ≡ a.before ++ b' ∷ a.later =
        ap₂ (λ (v : List model.Line) (cs : List Batch). change_batch b.number (with_lines (rest_of v)) cs) c.is a.whole
        ∙ change_mid (with_lines c.later) a.before b a.later (distinct_mid a.before b a.later (subst Distinct a.whole i.distinct)) in
        let step : undo_all left i.batches i.run ≡ undo_all after (without_newest b i.batches) (undo_newest b.lines b.number i.run) =
        undo_turn left after i.batches i.run b (omega (arith, one)) a.is in
        record {
          run = undo_newest b.lines b.number i.run;
          batches = a.before ++ b' ∷ a.later;
          shows = r.run;
          grown = grown_newest l b.lines b.number i.run i.grown;
          due = subst (λ (v : Row). Due l (set rows p v) (a.before ++ b' ∷ a.later)) (sym r.row) (a.change b' (linked_rest l c.first c.later c.linked));
          distinct = subst Distinct less (distinct_change b.number (with_lines (rest_of b.lines)) i.batches (λ v. refl) i.distinct);
          rest = ap (λ (v : List Batch). undo_all after v (undo_newest b.lines b.number i.run)) (sym less) ∙ sym step ∙ i.rest;
        }

-- ---- the three rounds

rows_padded : (us : List Row) → length us ≤ 8 → eight_rows us ≡ us ++ replicate (8 - length us) no_row
unfolding eight_rows
rows_padded us q = padded no_row us q

-- RESTART'S SETTLING, by its parts: each round re-reads the open batches from the log, and the rows say the same.
pub settled : {n m : ℕ} {wp wl wp₁ wl₁ wp₂ wl₂ wp₃ wl₃ : List ℕ} {t t₂ t₃ : program.Run} {s : Run} → Shows n m wp wl t s → (rows : List Row) (marked : List Bool) (used count : ℕ) (x : Round)
    → rows ≡ eight_rows (map row_of (open_batches s.log)) → marked ≡ eight false (marks_of (open_batches s.log)) → Holds s.log (open_batches s.log) → AllFit 1 s.log
    → used ≡ place_of 0 rows → count ≡ total rows
    → ((s : Run) → Starts n m wp wl t rows marked used s → MarkedAll n m wp₁ wl₁ x s (mark_all (open_batches s.log) s))
    → ((s : Run) (bs : List Batch) → Shows n m wp₁ wl₁ x.run s → x.rows ≡ eight_rows (map row_of bs) → used ≡ length bs → Shows n m wp₂ wl₂ t₂ (end_idle bs s))
    → ((s : Run) (l : List Rec) (cs : List Batch) → Shows n m wp₂ wl₂ t₂ s → Grown l s.log → AllFit 1 l → Due l x.rows cs → Distinct cs → Shows n m wp₃ wl₃ t₃ (undo_all count cs s))
    → Shows n m wp₃ wl₃ t₃ (settle s)
unfolding settle
settled {n} {m} {wp₃ = wp₃} {wl₃ = wl₃} {t₃ = t₃} {s = s} h rows marked used count x says marks holds fits eu ec mark finish undo =
    let bs : List Batch = open_batches s.log in
    let size : used ≡ length bs = eu ∙ ap (place_of 0) says ∙ rows_used bs holds.few (open_from_one s.log) in
    let a = mark s (record { shows = h; leading = all_map (λ b w. w.lines) bs holds.sits; says = says; marks = marks; count = size }) in
    let t : Run = mark_all bs s in
    let ts : List Batch = open_batches t.log in
    let u : Run = end_idle ts t in
    let few : length (map row_of ts) ≤ 8 = omega (arith, length-map ts row_of, a.size, holds.few) in
    let left = ends_thinned ts [] t refl in
    let due : Due s.log x.rows (open_batches u.log) =
    subst (λ (v : List Row). Due s.log v (open_batches u.log)) (sym (a.rows ∙ rows_padded (map row_of ts) few))
    (due_thinned s.log (8 - length (map row_of ts)) a.leading (subst (Thinned ts) (sym left.opens) left.thinned)) in
    let shown = finish t ts a.shows a.rows (size ∙ sym a.size) in
    subst (λ (v : ℕ). Shows n m wp₃ wl₃ t₃ (undo_all v (open_batches u.log) u)) (ec ∙ ap total says ∙ total_open bs holds.few)
    (undo u s.log (open_batches u.log) shown (grown_ends s.log ts t a.grown) fits due (numbered_open u.log).distinct)
