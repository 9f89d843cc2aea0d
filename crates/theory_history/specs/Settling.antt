-- Restart's undo as a trail: it ends with no batch open, and the slides are those of the committed batches.
use Prim.Native.Nat.{ℕ, zero, suc, ◌≤◌, ◌<◌}
use Rattle.std.proofs.Math.Path.{◌≡◌, refl, sym, ap, subst}
use Rattle.std.proofs.Common.{◌∙◌}
use Rattle.std.specs.Prelude.{◌≢◌, ltb}
use Rattle.std.proofs.Math.Option.{Option, none, some}
use mathlib.Core.List.{List, [], ◌∷◌, ◌++◌}
use native.Mathlib.Omega.{arith}
use Rattle.std.proofs.Math.ListN.{length}
use Rattle.def_base.specs.Tests.{Case, yes!, no!, case, true_lt, false_lt}
use Rattle.def_layout.specs.declared.Entry.{Entry}
use Rattle.def_layout.specs.Pages.{map_bits}
use Rattle.def_model.specs.Update.{Run}
use Rattle.def_model.specs.Batches.{Line, Batch, undone, rest_of, open_batches, find_batch, change_batch, drop_batch, pending_count, next_undo}
use Rattle.def_model.specs.Undo.{mark_all, end_idle, newer, newest_due, with_lines, without_newest, undo_line, after_line, undo_newest, undo_step, undo_all, end_batch}
use Rattle.def_model.specs.Restart.{settle}
use Rattle.theory_update.specs.Run.Keeps.{Stuck}
use Rattle.theory_ledger.specs.Held.{Distinct}
use Rattle.theory_ledger.specs.Batching.{Falls, Within, distinct_change}
use Rattle.theory_ledger.specs.Telling.{numbered_open}
use Rattle.theory_history.specs.Core.{Core}
use Rattle.theory_history.specs.Trail.{Trail, trail_append, trail_core}
use Rattle.theory_history.specs.Undoing.{went_on, line_stuck, end_stuck, line_undone, end_trail}
use Rattle.theory_history.specs.Marking.{find_mid, change_mid, drop_mid, distinct_mid, open_fresh, pending_append, ends_stuck, Busy, busy_count, marks_trail, ends_trail}

-- ---- a stopped run stays stopped

after_stuck : (ls : List Line) (n : ℕ) (s : Run) → Stuck s → Stuck (after_line ls n s)
unfolding after_line
after_stuck [] n s h = end_stuck n s h
after_stuck (l ∷ ls) n s h = h

newest_stuck : (ls : List Line) (n : ℕ) (s : Run) → Stuck s → Stuck (undo_newest ls n s)
unfolding undo_newest
newest_stuck [] n s h = h
newest_stuck (l ∷ ls) n s h = after_stuck ls n (undo_line n (next_undo ls) l s) (line_stuck n (next_undo ls) l s h)

step_stuck : (o : Option Batch) (bs : List Batch) (s : Run) → Stuck s → Stuck (undo_step o bs s).run
unfolding undo_step
step_stuck none bs s h = h
step_stuck (some b) bs s h = newest_stuck b.lines b.number s h

undo_stuck : (f : ℕ) (bs : List Batch) (s : Run) → Stuck s → Stuck (undo_all f bs s)
unfolding undo_all
undo_stuck zero bs s h = h
undo_stuck (suc f) bs s h = undo_stuck f (undo_step (newest_due bs) bs s).batches (undo_step (newest_due bs) bs s).run (step_stuck (newest_due bs) bs s h)

-- ---- the batch with the largest number due

unfoldable pub AllUpTo : ℕ → List Batch → Type 0
AllUpTo m [] = Unit {0}
AllUpTo m (b ∷ bs) = (next_undo b.lines ≤ m) × AllUpTo m bs

up_to_more : (m k : ℕ) (bs : List Batch) → m ≤ k → AllUpTo m bs → AllUpTo k bs
unfolding AllUpTo
up_to_more m k [] l h = tt
up_to_more m k (b ∷ bs) l h = let a = h.0 in (omega arith, up_to_more m k bs l h.1)

-- It stands somewhere in the list, and no other has a larger one.
pub record Picked (cs : List Batch) : Type 0 where
  pub before : List Batch
  pub batch : Batch
  pub later : List Batch
  pub whole : cs ≡ before ++ batch ∷ later
  pub is : newest_due cs ≡ some batch
  pub largest : AllUpTo (next_undo batch.lines) cs

pick_newest : (c : Batch) (cs : List Batch) → Picked (c ∷ cs)
unfolding newest_due newer AllUpTo
pick_newest c [] = record { before = []; batch = c; later = []; whole = refl; is = refl; largest = (omega arith, tt) }
pick_newest c (d ∷ cs) = go (pick_newest d cs)
  where
    go : Picked (d ∷ cs) → Picked (c ∷ d ∷ cs)
    go p = at (case (ltb (next_undo c.lines) (next_undo p.batch.lines)))
      where
        at : Case (ltb (next_undo c.lines) (next_undo p.batch.lines)) → Picked (c ∷ d ∷ cs)
        at (yes! t) =
            let h = true_lt (next_undo c.lines) (next_undo p.batch.lines) t in
            record { before = c ∷ p.before; batch = p.batch; later = p.later; whole = ap (c ∷◌) p.whole; is = ap (newer c) p.is ∙ rw t; largest = (omega arith, p.largest) }
        at (no! t) =
            let h = false_lt (next_undo c.lines) (next_undo p.batch.lines) t in
            record { before = []; batch = c; later = d ∷ cs; whole = refl; is = ap (newer c) p.is ∙ rw t; largest = (omega arith, up_to_more _ _ (d ∷ cs) h p.largest) }

-- Lines are numbered from 1.
unfoldable pub PositiveLines : List Line → Type 0
PositiveLines [] = Unit {0}
PositiveLines (l ∷ ls) = (0 < l.number) × PositiveLines ls

unfoldable pub Positive : List Batch → Type 0
Positive [] = Unit {0}
Positive (b ∷ bs) = PositiveLines b.lines × Positive bs

falls_positive : (n : ℕ) (ls : List Line) → Falls n ls → PositiveLines ls
unfolding Falls PositiveLines
falls_positive n [] h = tt
falls_positive n (l ∷ ls) h = (h.0, falls_positive l.number ls h.2)

within_positive : (m : ℕ) (bs : List Batch) → Within m bs → Positive bs
unfolding Within Positive
within_positive m [] h = tt
within_positive m (b ∷ bs) h = (falls_positive (suc m) b.lines h.1, within_positive m bs h.2)

none_due : (ls : List Line) → PositiveLines ls → next_undo ls ≤ 0 → length ls ≡ 0
unfolding PositiveLines next_undo
none_due [] h k = refl
none_due (l ∷ ls) h k = let a = h.0 in absurd (omega arith)

nothing_due : (bs : List Batch) → Positive bs → AllUpTo 0 bs → pending_count bs ≡ 0
unfolding Positive AllUpTo pending_count
nothing_due [] h k = refl
nothing_due (b ∷ bs) h k = let x = none_due b.lines h.0 k.0 in let y = nothing_due bs h.1 k.1 in omega arith

due_none : (b : Batch) → b.lines ≡ [] → next_undo b.lines ≡ 0
unfolding next_undo
due_none b e = ap next_undo e

-- Where something is pending, it has a line.
pub picked_line : (cs : List Batch) → Positive cs → 0 < pending_count cs → (p : Picked cs) × (l : Line) × (ls : List Line) × (p.batch.lines ≡ l ∷ ls)
unfolding pending_count
picked_line [] h k = absurd (omega arith)
picked_line (c ∷ cs) h k = go (pick_newest c cs) (pick_newest c cs).batch.lines refl
  where
    go : (p : Picked (c ∷ cs)) (ls : List Line) → p.batch.lines ≡ ls → (p : Picked (c ∷ cs)) × (l : Line) × (ls : List Line) × (p.batch.lines ≡ l ∷ ls)
    go p (l ∷ ls) e = (p, l, ls, e)
    go p [] e = let z = nothing_due (c ∷ cs) h (subst (λ m. AllUpTo m (c ∷ cs)) (due_none p.batch e) p.largest) in absurd (omega arith)

-- ---- the list that is carried, and the open batches

-- Of the carried batches those with lines are open; the others have been ended.
pub data Carried : List Batch → List Batch → Type 0 where
  none! : Carried [] []
  gone : {c : Batch} {cs as' : List Batch} → c.lines ≡ [] → Carried cs as' → Carried (c ∷ cs) as'
  kept : {c a : Batch} {cs as' : List Batch} → c.number ≡ a.number → c.lines ≡ a.lines → c.lines ≢ [] → Carried cs as' → Carried (c ∷ cs) (a ∷ as')

busy_carried : (bs : List Batch) → Busy bs → Carried bs bs
unfolding Busy
busy_carried [] h = none!
busy_carried (b ∷ bs) h = kept refl refl h.0 (busy_carried bs h.1)

pub record CarriedAt (xs : List Batch) (b : Batch) (ys as' : List Batch) : Type 0 where
  pub before : List Batch
  pub batch : Batch
  pub later : List Batch
  pub whole : as' ≡ before ++ batch ∷ later
  pub left : Carried xs before
  pub right : Carried ys later
  pub number : b.number ≡ batch.number
  pub lines : b.lines ≡ batch.lines

pub carried_at : (xs : List Batch) (b : Batch) (ys : List Batch) {as' : List Batch} → b.lines ≢ [] → Carried (xs ++ b ∷ ys) as' → CarriedAt xs b ys as'
carried_at [] b ys h (gone e c) = absurd (h e)
carried_at [] b ys h (kept {a = a} {as' = as'} n l q c) = record { before = []; batch = a; later = as'; whole = refl; left = none!; right = c; number = n; lines = l }
carried_at (x ∷ xs) b ys h (gone e c) =
    let r = carried_at xs b ys h c in
    record { before = r.before; batch = r.batch; later = r.later; whole = r.whole; left = gone e r.left; right = r.right; number = r.number; lines = r.lines }
carried_at (x ∷ xs) b ys h (kept {a = a} n l q c) =
    let r = carried_at xs b ys h c in
    record { before = a ∷ r.before; batch = r.batch; later = r.later; whole = ap (a ∷◌) r.whole; left = kept n l q r.left; right = r.right; number = r.number; lines = r.lines }

carried_append : {xs us ys vs : List Batch} → Carried xs us → Carried ys vs → Carried (xs ++ ys) (us ++ vs)
carried_append none! d = d
carried_append (gone e c) d = gone e (carried_append c d)
carried_append (kept n l q c) d = kept n l q (carried_append c d)

carried_none : {cs as' : List Batch} → pending_count cs ≡ 0 → Carried cs as' → as' ≡ []
unfolding pending_count
carried_none z none! = refl
carried_none z (gone {c = c} e d) = let y = ap length e in carried_none (omega arith) d
carried_none z (kept {c = c} n l q d) = absurd (q (no_lines c.lines (omega arith)))
  where
    no_lines : (ls : List Line) → length ls ≡ 0 → ls ≡ []
    no_lines [] e = refl
    no_lines (x ∷ ls) e = absurd (omega arith)

positive_rest : (l : Line) (ls : List Line) → PositiveLines (l ∷ ls) → PositiveLines ls
unfolding PositiveLines
positive_rest l ls h = h.1

positive_mid : (xs : List Batch) (b c : Batch) (ys : List Batch) → (PositiveLines b.lines → PositiveLines c.lines) → Positive (xs ++ b ∷ ys) → Positive (xs ++ c ∷ ys)
unfolding Positive
positive_mid [] b c ys f h = (f h.0, h.1)
positive_mid (x ∷ xs) b c ys f h = (h.0, positive_mid xs b c ys f h.1)

nothing_pending_in : pending_count [] ≡ 0
unfolding pending_count
nothing_pending_in = refl

-- Restart's run after the abort marks, and after the ends of idle batches.
abbrev pub all_marked : Run → Run
all_marked s = mark_all (open_batches s.log) s

abbrev pub idle_ended : Run → Run
idle_ended s = end_idle (open_batches (all_marked s).log) (all_marked s)

module _ (n : ℕ) (most : n ≤ map_bits) where
  -- One line undone, with an 8 right after the batch's last.
  pub record Stepped (s : Run) (sl : List Entry) (t : Run) (us : List Batch) (a : Batch) (vs : List Batch) (ls : List Line) : Type 0 where
    pub trail : Trail s sl t sl
    pub others : (ls ≡ []) → open_batches t.log ≡ us ++ vs
    pub still : (ls ≢ []) → (a' : Batch) × (a'.number ≡ a.number) × (a'.lines ≡ ls) × (open_batches t.log ≡ us ++ a' ∷ vs)

  stepped : (ls : List Line) (s : Run) (sl : List Entry) (us : List Batch) (a : Batch) (vs : List Batch) (l : Line) → Core n s sl → open_batches s.log ≡ us ++ a ∷ vs → a.lines ≡ l ∷ ls
      → (after_line ls a.number (undo_line a.number (next_undo ls) l s)).stop ≡ 0 → Stepped s sl (after_line ls a.number (undo_line a.number (next_undo ls) l s)) us a vs ls
  unfolding after_line undone rest_of
  stepped [] s sl us a vs l c o w z =
      let f = open_fresh s us a vs o in
      let t = undo_line a.number (next_undo []) l s in
      let zt : t.stop ≡ 0 = went_on (end_batch a.number) (end_stuck a.number) t z in
      let u = line_undone n most s sl a.number a l [] c (ap (find_batch a.number) o ∙ find_mid us a vs f) w zt in
      let o₁ : open_batches t.log ≡ us ++ undone u.number a ∷ vs = u.opens ∙ ap (change_batch a.number (undone u.number)) o ∙ change_mid (undone u.number) us a vs f in
      let (p, o₂) = end_trail n most t sl a.number (undone u.number a) (trail_core most u.trail c) (ap (find_batch a.number) o₁ ∙ find_mid us (undone u.number a) vs f) (ap rest_of w) u.due z in
      record { trail = trail_append u.trail p; others = λ q. o₂ ∙ ap (drop_batch a.number) o₁ ∙ drop_mid us (undone u.number a) vs f; still = λ q. absurd (q refl) }
  stepped (m ∷ ms) s sl us a vs l c o w z =
      let f = open_fresh s us a vs o in
      let u = line_undone n most s sl a.number a l (m ∷ ms) c (ap (find_batch a.number) o ∙ find_mid us a vs f) w z in
      record {
        trail = u.trail;
        others = λ q. let y : ◌≡◌ {A = ℕ} 0 1 = cc in absurd (omega arith);
        still = λ q. (undone u.number a, refl, ap rest_of w, u.opens ∙ ap (change_batch a.number (undone u.number)) o ∙ change_mid (undone u.number) us a vs f);
      }

  -- What is left to do after the batch in the middle had its newest line undone.
  pub record Left (s : Run) (sl : List Entry) (cs : List Batch) (t : Run) (f : ℕ) : Type 0 where
    pub trail : Trail s sl t sl
    pub due : f ≡ pending_count cs
    pub distinct : Distinct cs
    pub positive : Positive cs
    pub carried : Carried cs (open_batches t.log)

  pub left_after : (f : ℕ) (cs : List Batch) (s : Run) (sl : List Entry) (xs : List Batch) (b : Batch) (ys : List Batch) (l : Line) (ls : List Line) → cs ≡ xs ++ b ∷ ys → b.lines ≡ l ∷ ls → suc f ≡ pending_count cs
      → Distinct cs → Positive cs → Core n s sl → Carried cs (open_batches s.log) → (undo_newest b.lines b.number s).stop ≡ 0 → Left s sl (without_newest b cs) (undo_newest b.lines b.number s) f
  unfolding undo_newest without_newest with_lines pending_count rest_of
  left_after f cs s sl xs b ys l ls o w e d g c r z =
      let some_line : b.lines ≢ [] = λ q. let y : ◌≡◌ {A = ℕ} 0 1 = let u : l ∷ ls ≡ [] = sym w ∙ q in cc in omega arith in
      let x = carried_at xs b ys some_line (subst (λ v. Carried v (open_batches s.log)) o r) in
      let b' = with_lines (rest_of b.lines) b in
      let fresh = distinct_mid xs b ys (subst Distinct o d) in
      let eq : change_batch b.number (with_lines (rest_of b.lines)) cs ≡ xs ++ b' ∷ ys = ap (change_batch b.number (with_lines (rest_of b.lines))) o ∙ change_mid (with_lines (rest_of b.lines)) xs b ys fresh in
      let run : undo_newest b.lines b.number s ≡ after_line ls x.batch.number (undo_line x.batch.number (next_undo ls) l s) = λ i. undo_newest (w i) (x.number i) s in
      let y = stepped ls s sl x.before x.batch x.later l c x.whole (sym x.lines ∙ w) (subst (λ t. t.stop ≡ 0) run z) in
      let rest : b'.lines ≡ ls = ap rest_of w in
      let p₁ = ap pending_count o ∙ pending_append xs (b ∷ ys) in
      let p₂ = ap pending_count eq ∙ pending_append xs (b' ∷ ys) in
      let l₁ = ap length w in
      let l₂ = ap length rest in
      record {
        trail = subst (λ t. Trail s sl t sl) (sym run) y.trail;
        due = sym (p₂ ∙ omega arith);
        distinct = distinct_change b.number (with_lines (rest_of b.lines)) cs (λ a. refl) d;
        positive = subst Positive (sym eq) (positive_mid xs b b' ys (λ h. subst PositiveLines (sym rest) (positive_rest l ls (subst PositiveLines w h))) (subst Positive o g));
        carried = subst (λ v. Carried v (open_batches (undo_newest b.lines b.number s).log)) (sym eq) (subst (λ t. Carried (xs ++ b' ∷ ys) (open_batches t.log)) (sym run) (carry ls x b' rest x.number y refl));
      }
    where
      carry : (ms : List Line) (x : CarriedAt xs b ys (open_batches s.log)) (b' : Batch) → b'.lines ≡ ms → b'.number ≡ x.batch.number → {t : Run} → Stepped s sl t x.before x.batch x.later ms → ms ≡ ms
          → Carried (xs ++ b' ∷ ys) (open_batches t.log)
      carry [] x b' q k {t} y u = subst (Carried (xs ++ b' ∷ ys)) (sym (y.others refl)) (carried_append x.left (gone q x.right))
      carry (m ∷ ms) x b' q k {t} y u =
          let some_line : b'.lines ≢ [] = λ v. let i : ◌≡◌ {A = ℕ} 0 1 = let j : m ∷ ms ≡ [] = sym q ∙ v in cc in omega arith in
          let (a', na, la, oa) = y.still (λ v. let i : ◌≡◌ {A = ℕ} 0 1 = cc in omega arith) in
          subst (Carried (xs ++ b' ∷ ys)) (sym oa) (carried_append x.left (kept (k ∙ sym na) (q ∙ sym la) some_line x.right))

  pub undo_trail : (f : ℕ) (cs : List Batch) (s : Run) (sl : List Entry) → f ≡ pending_count cs → Distinct cs → Positive cs → Core n s sl → Carried cs (open_batches s.log) → (undo_all f cs s).stop ≡ 0
      → Trail s sl (undo_all f cs s) sl × (open_batches (undo_all f cs s).log ≡ [])
  unfolding undo_all undo_step
  undo_trail zero cs s sl e d g c r z = (Trail.stay, carried_none (sym e) r)
  undo_trail (suc f) cs s sl e d g c r z =
      let (p, l, ls, w) = picked_line cs g (omega arith) in
      let b = p.batch in
      let z' : (undo_all f (without_newest b cs) (undo_newest b.lines b.number s)).stop ≡ 0 = subst (λ o. (undo_all f (undo_step o cs s).batches (undo_step o cs s).run).stop ≡ 0) p.is z in
      let zt = went_on (undo_all f (without_newest b cs)) (undo_stuck f (without_newest b cs)) (undo_newest b.lines b.number s) z' in
      let x = left_after f cs s sl p.before b p.later l ls p.whole w e d g c r zt in
      let (q, o) = undo_trail f (without_newest b cs) (undo_newest b.lines b.number s) sl x.due x.distinct x.positive (trail_core most x.trail c) x.carried z' in
      subst (λ o. Trail s sl (undo_all f (undo_step o cs s).batches (undo_step o cs s).run) sl × (open_batches (undo_all f (undo_step o cs s).batches (undo_step o cs s).run).log ≡ [])) (sym p.is)
      (trail_append x.trail q, o)

  -- Marks end no batch.
  pub marked_count : (s : Run) (sl : List Entry) → Core n s sl → (all_marked s).stop ≡ 0 → length (open_batches (all_marked s).log) ≡ length (open_batches s.log)
  marked_count s sl c z = (marks_trail n most (open_batches s.log) [] s sl c refl z).count ∙ omega arith

  -- What undo starts from; the batches open then are those that had something pending.
  pub record Begun (s : Run) (sl : List Entry) : Type 0 where
    pub left : Left s sl (open_batches (idle_ended s).log) (idle_ended s) (pending_count (open_batches s.log))
    pub busy : length (open_batches (idle_ended s).log) ≡ busy_count (open_batches (all_marked s).log)

  pub begun : (s : Run) (sl : List Entry) → Core n s sl → (idle_ended s).stop ≡ 0 → Begun s sl
  unfolding Busy
  begun s sl c z =
      let bs = open_batches s.log in
      let t = all_marked s in
      let ts = open_batches t.log in
      let u = idle_ended s in
      let us = open_batches u.log in
      let zt : t.stop ≡ 0 = went_on (end_idle ts) (ends_stuck ts) t z in
      let x = marks_trail n most bs [] s sl c refl zt in
      let (y, busy) = ends_trail n most ts [] t sl (trail_core most x.trail c) refl tt z in
      let e₁ = x.same in
      let e₂ = y.same in
      let k = y.count in
      let none_pending : pending_count [] ≡ 0 = nothing_pending_in in
      let num = numbered_open u.log in
      record {
        left =
            record {
              trail = trail_append x.trail y.trail;
              due = omega arith;
              distinct = num.distinct;
              positive = within_positive (length u.log) us num.within;
              carried = busy_carried us busy;
            };
        busy = omega arith;
      }

  -- RESTART'S RUN, where it does not stop, is a trail that leaves no batch open.
  pub settle_trail : (s : Run) (sl : List Entry) → Core n s sl → (settle s).stop ≡ 0 → Trail s sl (settle s) sl × (open_batches (settle s).log ≡ [])
  unfolding settle
  settle_trail s sl c z =
      let u = idle_ended s in
      let us = open_batches u.log in
      let f = pending_count (open_batches s.log) in
      let x = (begun s sl c (went_on (undo_all f us) (undo_stuck f us) u z)).left in
      let (q, o) = undo_trail f us u sl x.due x.distinct x.positive (trail_core most x.trail c) x.carried z in
      (trail_append x.trail q, o)
