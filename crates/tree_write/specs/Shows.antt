-- The working areas show a run of updates: its pages, its log, and where it stands.
use Rattle.std.specs.Prelude.{◌≡◌, refl, ℕ, suc, ◌+◌, ◌-◌, ◌*◌, ◌<◌, ◌≤◌, ◌⊎◌, Bool, true, false, List, [], ◌∷◌, ◌++◌, length, ltb, Option, Some, None, IsSome}
use Rattle.std.proofs.Common.{ap, sym, ◌∙◌, subst₂, add-one, arith, append-nil, length-append, inl, inr}
use Rattle.std.proofs.Math.Path.{subst}
use Rattle.def_base.specs.Tests.{eq_true, neq_false, lt_true, lt_false}
use Rattle.def_layout.specs.Pages.{Page}
use Rattle.def_layout.specs.Records.{Rec, Kind, batch_row}
use Rattle.def_layout.specs.RecordBytes.{record_bytes, slot_bytes}
use Rattle.def_layout.specs.Sizes.{slot_size}
use Rattle.def_model.specs.declared.Refusal.{Refusal}
use Rattle.def_model.specs.declared.Refusal.TheVariants.{Lengths, SlotsShort}
use Rattle.def_model.specs.Answers.{refusal_number}
use Rattle.def_model.specs.Log.{slots_from}
use Rattle.def_model.specs.Change.{changes, shape}
use Rattle.def_model.specs.Redo.{when_named, places, redo_places, redo_record, redo_lefts}
use Rattle.def_model.specs.Update.{Run, going, stopped, logged, emit_by, emit}
use Rattle.def_model.specs.OnBytes.{joined, log_bytes, put_part}
use Rattle.law_bytes.specs.Patch.{patch}
use Rattle.law_bytes.specs.Slices.{Slice}
use Rattle.law_areas.specs.Held.{put_is}
use Rattle.law_areas.specs.Logs.{HoldsLog, log_put}
use Rattle.law_widths.specs.Acting.{Narrow, act_fits}
use Rattle.record_pages.specs.Pages.{Pages}
use Rattle.record_pages.specs.Records.{Keeps}
use Rattle.tree_write.specs.declared.Run as program

-- What a program's run says of why it stopped, and the number that the definition's run has for it.
abbrev pub Stops : Option Refusal → ℕ → Type 0
Stops None n = n ≡ 0
Stops (Some why) n = n ≡ refusal_number why

pub record Shows (n m : ℕ) (wp wl : List ℕ) (t : program.Run) (s : Run) : Type 0 where
  pub pages : Pages n wp s.pages s.lefts
  pub log : HoldsLog wl s.log
  pub size : length wl ≡ slot_size * m
  pub logged : length s.log ≡ t.logged
  pub due : s.due ≡ suc t.logged
  pub room : s.room ≡ m - t.logged
  pub stop : Stops t.stop s.stop

-- What most contracts of code that changes the working areas say: from every run that they showed, it went on to what f makes of that run.
abbrev pub Does : (n m : ℕ) (wp wl : Slice) (t u : program.Run) (f : Run → Run) → Type 0
Does n m wp wl t u f = (s : Run) → Shows n m wp.entry.now wl.entry.now t s → Shows n m wp.exit.now wl.exit.now u (f s)

abbrev pub at_stop : program.Run → Refusal → program.Run
at_stop t why = record { logged = t.logged; stop = Some why }

-- A run that writes no further record: it had stopped, or it stops because there is no slot for one.
abbrev pub Halted : ℕ → program.Run → program.Run → Type 0
Halted m t u = (u ≡ t) ⊎ ((t.stop ≡ None) × (m ≤ t.logged) × (u ≡ at_stop t SlotsShort))

-- No refusal has number 0.
number_positive : (why : Refusal) → 0 < refusal_number why
unfolding refusal_number
number_positive Lengths = omega arith
number_positive _ = omega arith

pub stops_not_zero : (o : Option Refusal) (n : ℕ) → IsSome o → Stops o n → n ≡ 0 → ⊥
stops_not_zero None n e h z = cc
stops_not_zero (Some why) n e h z = omega (arith, number_positive why, h, z)

module _ {n m : ℕ} {wp wl : List ℕ} {t : program.Run} {s : Run} (h : Shows n m wp wl t s) where
  pub shows_going : t.stop ≡ None → going s ≡ true
  shows_going e = eq_true s.stop 0 (subst (λ (o : Option Refusal). Stops o s.stop) e h.stop)

  pub shows_stuck : IsSome t.stop → going s ≡ false
  shows_stuck e = neq_false (stops_not_zero t.stop s.stop e h.stop)

  pub shows_slot : t.logged < m → ltb 0 s.room ≡ true
  shows_slot l = lt_true 0 s.room (omega (arith, h.room))

  pub shows_full : m ≤ t.logged → ltb 0 s.room ≡ false
  shows_full l = lt_false 0 s.room (omega (arith, h.room))

  pub shows_stopped : (why : Refusal) → Shows n m wp wl (at_stop t why) (stopped (refusal_number why) s)
  shows_stopped why =
      record { pages = h.pages; log = h.log; size = h.size; logged = h.logged; due = h.due; room = h.room; stop = refl }

  -- A run that has stopped writes nothing more.
  pub emit_stuck : (r : Rec) → IsSome t.stop → Shows n m wp wl t (emit r s)
  unfolding emit emit_by
  emit_stuck r e = subst (Shows n m wp wl t) (sym (rw (shows_stuck e))) h

  -- There is no slot for it.
  pub emit_full : (r : Rec) → t.stop ≡ None → m ≤ t.logged → Shows n m wp wl (at_stop t SlotsShort) (emit r s)
  unfolding emit emit_by refusal_number
  emit_full r e l = subst (Shows n m wp wl (at_stop t SlotsShort)) (sym (rw (shows_going e, shows_full l))) (shows_stopped SlotsShort)

  -- One or the other.
  pub emit_halted : (u : program.Run) (r : Rec) → IsSome u.stop → Halted m t u → Shows n m wp wl u (emit r s)
  emit_halted u r e (inl q) = subst (λ (v : program.Run). Shows n m wp wl v (emit r s)) (sym q) (emit_stuck r (subst (λ (v : program.Run). IsSome v.stop) q e))
  emit_halted u r e (inr q) = subst (λ (v : program.Run). Shows n m wp wl v (emit r s)) (sym q.2) (emit_full r q.0 q.1)

-- The record that a run would log next keeps pages within their widths, if there is a slot for it.
abbrev pub Keeping : ℕ → program.Run → Rec → Type 0
Keeping m t r = t.logged < m → Keeps (suc t.logged) r

-- So does one whose own numbers are narrow.
pub narrow_keeping : {m : ℕ} (t : program.Run) (r : Rec) → m ≤ 16384 → Narrow r → Keeping m t r
narrow_keeping t r few narrow l p x f = act_fits p _ r x (omega arith) narrow f

-- A record is written into its slot.
slot_written : (n : ℕ) (r : Rec) → log_bytes (slots_from n (r ∷ [])) ≡ record_bytes n r
unfolding log_bytes slots_from joined slot_bytes
slot_written n r = append-nil (record_bytes n r)

pub log_written : {wl wl' : List ℕ} (log : List Rec) (r : Rec) (k : ℕ) → length log ≡ k → wl' ≡ patch wl (slot_size * k) (record_bytes (suc k) r) → HoldsLog wl log → HoldsLog wl' (log ++ r ∷ [])
log_written {wl} {wl'} log r k e w h =
    subst (λ (b : List ℕ). HoldsLog b (log ++ r ∷ []))
    (ap (λ (v : List ℕ). put_part (slot_size * length log) v wl) (slot_written (suc (length log)) r) ∙ put_is (slot_size * length log) (record_bytes (suc (length log)) r) wl
    ∙ ap (λ (i : ℕ). patch wl (slot_size * i) (record_bytes (suc i) r)) e ∙ sym w)
    (log_put log (r ∷ []) h)

-- What the program numbers i + 1 is number suc i.
pub slot_record : (i : ℕ) (b b' : List ℕ) (r : Rec) → b' ≡ patch b (slot_size * i) (record_bytes (i + 1) r) → b' ≡ patch b (slot_size * i) (record_bytes (suc i) r)
slot_record i b b' r e = e ∙ ap (λ (k : ℕ). patch b (slot_size * i) (record_bytes k r)) (add-one i)

-- It is logged and applied.
pub emit_logs : {n m : ℕ} {wp wp' wl wl' : List ℕ} {t : program.Run} {s : Run} (h : Shows n m wp wl t s) (r : Rec) (k : ℕ) → t.stop ≡ None → t.logged < m → k ≡ suc t.logged
    → wl' ≡ patch wl (slot_size * t.logged) (record_bytes (suc t.logged) r) → length wl' ≡ length wl → Pages n wp' (redo_record k r s.pages) (redo_lefts k r (places r) s.pages s.lefts)
    → Shows n m wp' wl' (record { logged = k; stop = None }) (emit r s)
unfolding emit emit_by logged
emit_logs {n} {m} {wp} {wp'} {wl} {wl'} {t} {s} h r k e l d w z p =
    let q : emit r s ≡ logged r s = rw (shows_going h e, shows_slot h l) in
    subst (Shows n m wp' wl' (record { logged = k; stop = None })) (sym q)
    (record {
      pages = subst (λ (i : ℕ). Pages n wp' (redo_record i r s.pages) (redo_lefts i r (places r) s.pages s.lefts)) (d ∙ sym h.due) p;
      log = log_written s.log r t.logged h.logged w h.log;
      size = z ∙ h.size;
      logged = length-append s.log (r ∷ []) ∙ omega (arith, h.logged, d);
      due = omega (arith, h.due, d);
      room = omega (arith, h.room, d);
      stop = refl;
    })

-- A record that changes no page leaves them as they are.
quiet_pages : (kind : Kind) (batch previous k : ℕ) (xs : List Page) → shape kind ≡ changes false false false false → redo_record k (batch_row kind batch previous) xs ≡ xs
unfolding redo_record places when_named redo_places
quiet_pages kind batch previous k xs e = rw e

quiet_lefts : (kind : Kind) (batch previous k : ℕ) (xs : List Page) (ls : List ℕ) → shape kind ≡ changes false false false false → redo_lefts k (batch_row kind batch previous) (places (batch_row kind batch previous)) xs ls ≡ ls
unfolding places when_named redo_lefts
quiet_lefts kind batch previous k xs ls e = rw e

-- Whether it is written or not.
pub quiet_emit : (kind : Kind) (batch previous : ℕ) (s : Run) → shape kind ≡ changes false false false false
    → ((emit (batch_row kind batch previous) s).pages ≡ s.pages) × ((emit (batch_row kind batch previous) s).lefts ≡ s.lefts)
unfolding emit emit_by logged
quiet_emit kind batch previous s e = go (going s) (ltb 0 s.room)
  where
    go : (x y : Bool) → ((emit_by x y (batch_row kind batch previous) s).pages ≡ s.pages) × ((emit_by x y (batch_row kind batch previous) s).lefts ≡ s.lefts)
    go true true = (quiet_pages kind batch previous s.due s.pages e, quiet_lefts kind batch previous s.due s.pages s.lefts e)
    go true false = (refl, refl)
    go false y = (refl, refl)

pub emit_notes : {n m : ℕ} {wp wl wl' : List ℕ} {t : program.Run} {s : Run} (h : Shows n m wp wl t s) (kind : Kind) (batch previous : ℕ) (r : Rec) (k : ℕ)
    → shape kind ≡ changes false false false false → t.stop ≡ None → t.logged < m → k ≡ suc t.logged → r ≡ batch_row kind batch previous
    → wl' ≡ patch wl (slot_size * t.logged) (record_bytes (suc t.logged) r) → length wl' ≡ length wl
    → Shows n m wp wl' (record { logged = k; stop = None }) (emit (batch_row kind batch previous) s)
emit_notes {n} {m} {wp} {wl} {wl'} {t} {s} h kind batch previous r k q e l d i w z =
    emit_logs h (batch_row kind batch previous) k e l d (w ∙ ap (λ (x : Rec). patch wl (slot_size * t.logged) (record_bytes (suc t.logged) x)) i) z
    (subst₂ (Pages n wp) (sym (quiet_pages kind batch previous k s.pages q)) (sym (quiet_lefts kind batch previous k s.pages s.lefts q)) h.pages)
