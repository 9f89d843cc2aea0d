-- Restart's second round: an 8 for each batch with nothing pending, in order. What is left open are the others, and maybe some of these.
use Rattle.std.specs.Prelude.{ℕ, ◌+◌, ◌<◌, ◌≤◌, ◌≡◌}
use Rattle.std.proofs.Math.Path.{refl, sym, ap, subst}
use Rattle.std.proofs.Common.{◌∙◌, arith}
use mathlib.Core.List.{List, [], ◌∷◌, ◌++◌, map, append_assoc, append-nil}
use Rattle.std.proofs.Math.ListN.{length, length-append}
use Rattle.def_layout.specs.declared.Row.{Row}
use Rattle.def_layout.specs.Desks.{no_row, row_at, eight_rows}
use Rattle.def_layout.specs.Records.{Rec, kind_of, batch_row, end}
use Rattle.def_model.specs.Update.{Run, emit}
use Rattle.def_model.specs.Batches.{Line, Batch, row_of, open_batches}
use Rattle.def_model.specs.Undo.{end_by, end_idle}
use Rattle.tree_write.specs.declared.Run as program
use Rattle.tree_write.specs.Shows.{Shows}
use Rattle.call_undo.specs.Grown.{Grown, grown_emit}
use Rattle.call_undo.specs.Rounds.{Emitted, wrote, halted, emitted, open_ended, eight_here}

-- ---- one row

abbrev pub EndsTurn : (n m : ℕ) (wp wl wp' wl' : List ℕ) (t : program.Run) (row : Row) (u : program.Run) → Type 0
EndsTurn n m wp wl wp' wl' t row u = (s : Run) (b : Batch) → Shows n m wp wl t s → row ≡ row_of b → Shows n m wp' wl' u (end_by b.lines b s)

end_busy : (ls : List Line) (b : Batch) (s : Run) → (length ls ≡ 0 → ⊥) → s ≡ end_by ls b s
unfolding end_by
end_busy [] b s z = absurd (z refl)
end_busy (l ∷ ls) b s z = refl

end_none : (ls : List Line) (b : Batch) (s : Run) → length ls ≡ 0 → emit (batch_row end b.number b.last) s ≡ end_by ls b s
unfolding end_by
end_none [] b s z = refl
end_none (l ∷ ls) b s z = absurd (omega arith)

pub row_count : (b : Batch) (row : Row) → row ≡ row_of b → row.pending ≡ length b.lines
unfolding row_of
row_count b row e = ap (λ (x : Row). x.pending) e

module _ {n m : ℕ} {wp wl : List ℕ} {u : program.Run} (s : Run) (b : Batch) (row : Row) (e : row ≡ row_of b) where
  pub row_busy : (row.pending ≡ 0 → ⊥) → Shows n m wp wl u s → Shows n m wp wl u (end_by b.lines b s)
  row_busy z h = subst (Shows n m wp wl u) (end_busy b.lines b s (λ q. z (row_count b row e ∙ q))) h

  pub row_ended : row.pending ≡ 0 → (r : Rec) → r ≡ batch_row (kind_of 8) row.batch row.last → Shows n m wp wl u (emit r s) → Shows n m wp wl u (end_by b.lines b s)
  unfolding kind_of row_of
  row_ended z r c h =
      subst (Shows n m wp wl u)
      (ap (λ (x : Rec). emit x s) (c ∙ ap (λ (x : Row). batch_row end x.batch x.last) e) ∙ end_none b.lines b s (sym (row_count b row e) ∙ z)) h

-- ---- row after row

pub record EndedTo (n m : ℕ) (wp wl : List ℕ) (t : program.Run) (i : ℕ) (bs : List Batch) (whole : Run) : Type 0 where
  pub run : Run
  pub past : List Batch
  pub left : List Batch
  pub all : bs ≡ past ++ left
  pub place : length past ≡ i
  pub shows : Shows n m wp wl t run
  pub rest : end_idle left run ≡ whole

abbrev pub Ending : (n m : ℕ) (wp₀ wl₀ wp wl : List ℕ) (t₀ t : program.Run) (rows : List Row) (used i : ℕ) → Type 0
Ending n m wp₀ wl₀ wp wl t₀ t rows used i =
    (s : Run) (bs : List Batch) → Shows n m wp₀ wl₀ t₀ s → rows ≡ eight_rows (map row_of bs) → used ≡ length bs → EndedTo n m wp wl t i bs (end_idle bs s)

pub ending_start : {n m : ℕ} {wp wl : List ℕ} {t : program.Run} (rows : List Row) (used : ℕ) → Ending n m wp wl wp wl t t rows used 0
ending_start rows used s bs h e c = record { run = s; past = []; left = bs; all = refl; place = refl; shows = h; rest = refl }

module _ {n m : ℕ} {wp₀ wl₀ wp wl : List ℕ} {t₀ t : program.Run} {rows : List Row} (used i : ℕ) (w : Ending n m wp₀ wl₀ wp wl t₀ t rows used i) where
  pub ending_end : used ≤ i → (s : Run) (bs : List Batch) → Shows n m wp₀ wl₀ t₀ s → rows ≡ eight_rows (map row_of bs) → used ≡ length bs → Shows n m wp wl t (end_idle bs s)
  unfolding end_idle
  ending_end z s bs h e c = go (w s bs h e c) (w s bs h e c).left refl
    where
      go : (k : EndedTo n m wp wl t i bs (end_idle bs s)) (left : List Batch) → k.left ≡ left → Shows n m wp wl t (end_idle bs s)
      go k [] o = subst (Shows n m wp wl t) (sym (ap (λ (x : List Batch). end_idle x k.run) o) ∙ k.rest) k.shows
      go k (b ∷ ys) o =
          absurd (omega (arith, z, c, ap (λ (x : List Batch). length x) (k.all ∙ ap (λ (x : List Batch). k.past ++ x) o), length-append k.past (b ∷ ys), k.place))

  pub ending_on : {wp' wl' : List ℕ} (u : program.Run) → i < used → used ≤ 8 → EndsTurn n m wp wl wp' wl' t (row_at rows i) u → Ending n m wp₀ wl₀ wp' wl' t₀ u rows used (i + 1)
  unfolding end_idle eight_rows
  ending_on {wp'} {wl'} u z few f s bs h e c = go (w s bs h e c) (w s bs h e c).left refl
    where
      go : (k : EndedTo n m wp wl t i bs (end_idle bs s)) (left : List Batch) → k.left ≡ left → EndedTo n m wp' wl' u (i + 1) bs (end_idle bs s)
      go k [] o = absurd (omega (arith, z, c, ap (λ (x : List Batch). length x) (k.all ∙ ap (λ (x : List Batch). k.past ++ x) o ∙ append-nil k.past), k.place))
      go k (b ∷ ys) o =
          let all : bs ≡ k.past ++ b ∷ ys = k.all ∙ ap (λ (x : List Batch). k.past ++ x) o in
          let row : row_at rows i ≡ row_of b =
          ap (λ (v : List Row). row_at v i) (e ∙ ap (λ (v : List Batch). eight_rows (map row_of v)) all) ∙ eight_here no_row row_of k.past b ys i k.place (omega arith) in
          record {
            run = end_by b.lines b k.run;
            past = k.past ++ b ∷ [];
            left = ys;
            all = all ∙ sym (append_assoc k.past (b ∷ []) ys);
            place = length-append k.past (b ∷ []) ∙ ap (λ (v : ℕ). v + 1) k.place;
            shows = f k.run b k.shows row;
            rest = sym (ap (λ (v : List Batch). end_idle v k.run) o) ∙ k.rest;
          }

-- ---- what the log says after it

-- Batches without some that have nothing pending.
pub data Thinned : List Batch → List Batch → Type 0 where
  none : Thinned [] []
  stays : {b : Batch} {cs bs : List Batch} → Thinned cs bs → Thinned (b ∷ cs) (b ∷ bs)
  goes : {b : Batch} {cs bs : List Batch} → b.lines ≡ [] → Thinned cs bs → Thinned (b ∷ cs) bs

pub record Left (xs bs : List Batch) (u : Run) : Type 0 where
  pub batches : List Batch
  pub thinned : Thinned bs batches
  pub opens : open_batches u.log ≡ xs ++ batches

data EndedOne (xs : List Batch) (b : Batch) (ys : List Batch) (u : Run) : Type 0 where
  gone : b.lines ≡ [] → open_batches u.log ≡ xs ++ ys → EndedOne xs b ys u
  still : open_batches u.log ≡ xs ++ b ∷ ys → EndedOne xs b ys u

end_one : (ls : List Line) (xs : List Batch) (b : Batch) (ys : List Batch) (s : Run) → b.lines ≡ ls → open_batches s.log ≡ xs ++ b ∷ ys → EndedOne xs b ys (end_by ls b s)
unfolding end_by
end_one (l ∷ ls) xs b ys s e o = still o
end_one [] xs b ys s e o = go (emitted (batch_row end b.number b.last) s)
  where
    go : Emitted (batch_row end b.number b.last) s → EndedOne xs b ys (emit (batch_row end b.number b.last) s)
    go (wrote l z) = gone e (ap open_batches l ∙ open_ended s xs b ys o b.last)
    go (halted l z) = still (ap open_batches l ∙ o)

thin_one : (xs : List Batch) (b : Batch) (bs : List Batch) (u : Run) → EndedOne xs b bs u → ((ys : List Batch) → open_batches u.log ≡ ys ++ bs → Left ys bs (end_idle bs u))
    → Left xs (b ∷ bs) (end_idle bs u)
thin_one xs b bs u (gone e o) f = let k = f xs o in record { batches = k.batches; thinned = goes e k.thinned; opens = k.opens }
thin_one xs b bs u (still o) f =
    let k = f (xs ++ b ∷ []) (o ∙ sym (append_assoc xs (b ∷ []) bs)) in
    record { batches = b ∷ k.batches; thinned = stays k.thinned; opens = k.opens ∙ append_assoc xs (b ∷ []) k.batches }

pub ends_thinned : (bs xs : List Batch) (s : Run) → open_batches s.log ≡ xs ++ bs → Left xs bs (end_idle bs s)
unfolding end_idle
ends_thinned [] xs s o = record { batches = []; thinned = none; opens = o }
ends_thinned (b ∷ bs) xs s o =
    thin_one xs b bs (end_by b.lines b s) (end_one b.lines xs b bs s refl o) (λ ys q. ends_thinned bs ys (end_by b.lines b s) q)

grown_end : (l : List Rec) (ls : List Line) (b : Batch) (s : Run) → Grown l s.log → Grown l (end_by ls b s).log
unfolding end_by
grown_end l [] b s g = grown_emit l _ s g
grown_end l (x ∷ xs) b s g = g

pub grown_ends : (l : List Rec) (bs : List Batch) (s : Run) → Grown l s.log → Grown l (end_idle bs s).log
unfolding end_idle
grown_ends l [] s g = g
grown_ends l (b ∷ bs) s g = grown_ends l bs (end_by b.lines b s) (grown_end l b.lines b s g)
