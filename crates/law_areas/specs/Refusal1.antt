-- REFUSAL 1 at both sides of each of its limits.
use Rattle.std.specs.Prelude.{ℕ, ◌+◌, ◌*◌, ◌≡◌, true, false, length}
use Rattle.std.proofs.Common.{ap}
use Rattle.def_layout.specs.declared.Desk.{Desk}
use Rattle.def_layout.specs.Sizes.{page_size, slot_size}
use Rattle.def_model.specs.declared.Refusal.TheVariants.{Lengths}
use Rattle.def_model.specs.declared.Answer.TheVariants.{Done, Refused}
use Rattle.def_model.specs.Answers.{first_broken}
use Rattle.def_model.specs.Calls.{format_areas}
use Rattle.def_model.specs.OnBytes.{Call, start, format, checks, start_checks, does, start_does, outcome_by, outcome, Lent, call, call_by, measures, lengths_ok}

-- Areas of so many bytes: working pages, stable pages, working log, stable log.
abbrev pub Sized : ℕ → ℕ → ℕ → ℕ → Lent → Type 0
Sized a b c d l = (length l.work_pages ≡ a) × (length l.stable_pages ≡ b) × (length l.work_log ≡ c) × (length l.stable_log ≡ d)

-- So many pages and slots, lent twice.
abbrev pub Of : ℕ → ℕ → Lent → Type 0
Of n m = Sized (page_size * n) (page_size * n) (slot_size * m) (slot_size * m)

-- Areas of these lengths pass, or not, whatever stands in them.
abbrev pub Pass : (Lent → Type 0) → Type 0
Pass P = (l : Lent) → P l → lengths_ok l ≡ true

abbrev pub Shut : (Lent → Type 0) → Type 0
Shut P = (l : Lent) → P l → lengths_ok l ≡ false

pub least_passes : Pass (Of 16 64)
unfolding lengths_ok measures
least_passes l (a, b, c, d) = rw (a, b, c, d)

pub most_passes : Pass (Of 896 16384)
unfolding lengths_ok measures
most_passes l (a, b, c, d) = rw (a, b, c, d)

pub page_less : Shut (Of 15 64)
unfolding lengths_ok measures
page_less l (a, b, c, d) = rw a

pub page_more : Shut (Of 897 16384)
unfolding lengths_ok measures
page_more l (a, b, c, d) = rw a

pub slot_less : Shut (Of 16 63)
unfolding lengths_ok measures
slot_less l (a, b, c, d) = rw (a, b, c)

pub slot_more : Shut (Of 896 16385)
unfolding lengths_ok measures
slot_more l (a, b, c, d) = rw (a, b, c)

-- A byte more than whole pages, or slots.
pub pages_broken : Shut (Sized (page_size * 16 + 1) (page_size * 16 + 1) (slot_size * 64) (slot_size * 64))
unfolding lengths_ok measures
pages_broken l (a, b, c, d) = rw a

pub slots_broken : Shut (Sized (page_size * 16) (page_size * 16) (slot_size * 64 + 1) (slot_size * 64 + 1))
unfolding lengths_ok measures
slots_broken l (a, b, c, d) = rw (a, b, c)

-- A page, or a slot, more in one of two areas.
pub pages_unequal : Shut (Sized (page_size * 16) (page_size * 17) (slot_size * 64) (slot_size * 64)) × Shut (Sized (page_size * 17) (page_size * 16) (slot_size * 64) (slot_size * 64))
unfolding lengths_ok measures
pages_unequal = (λ l (a, b, c, d). rw (a, b), λ l (a, b, c, d). rw (a, b))

pub logs_unequal : Shut (Sized (page_size * 16) (page_size * 16) (slot_size * 64) (slot_size * 65)) × Shut (Sized (page_size * 16) (page_size * 16) (slot_size * 65) (slot_size * 64))
unfolding lengths_ok measures
logs_unequal = (λ l (a, b, c, d). rw (a, b, c, d), λ l (a, b, c, d). rw (a, b, c, d))

-- ---- what is answered

-- Every call on areas that do not pass answers 1; a formatting of others is done.
pub answers_1 : (l : Lent) → lengths_ok l ≡ false → (c : Call) (d : Desk) → (call c l d).answer ≡ Refused Lengths
unfolding call call_by
answers_1 l e c d = ap (λ b. (call_by b c l d).answer) e

pub formats : (l : Lent) → lengths_ok l ≡ true → (d : Desk) → (call (start format) l d).answer ≡ Done
unfolding call call_by outcome outcome_by checks start_checks does start_does format_areas first_broken
formats l e d = ap (λ b. (call_by b (start format) l d).answer) e
