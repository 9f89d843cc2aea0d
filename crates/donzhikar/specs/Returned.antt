-- The functions for C, and what they return and leave: laws that their proofs cite.
use Rattle.std.specs.Prelude.{◌≡◌, ◌≢◌, refl, ℕ, Bool, true, false, ◌&&◌, List, ◌++◌, length, eqb}
use Rattle.std.proofs.Common.{ap, ap₂, sym, ◌∙◌, arith}
use Rattle.def_base.specs.Tests.{eq_true, neq_false}
use Rattle.def_layout.specs.declared.Desk.{Desk}
use Rattle.def_layout.specs.Numbers.{put32, zeros}
use Rattle.def_layout.specs.Desks.{empty_desk, desk_bytes, read_desk}
use Rattle.def_model.specs.declared.Answer.{Answer}
use Rattle.def_model.specs.Answers.{answer_numbers}
use Rattle.def_model.specs.OnBytes.{Lent, Call, call}
use Rattle.def_c.specs.FromC.{returned, value_bytes, areas_left, answered, sizes_ok, refused_desk_bytes, refused_values, returned_by, c_call}
use Rattle.law_bytes.specs.Words.{Bytes, put32_length}
use Rattle.law_bytes.specs.Patch.{patch, then_patch, patch_whole}
use Rattle.law_c.specs.RefusedByC.{empties, wrong_desk, desk_emptied, desk_kept, values_zeroed}
use Rattle.call_reply.specs.declared.Reply.{Reply}
use Rattle.call_reply.specs.Replies.{RepliesWhole}

-- ---- the lengths of desk and values

-- What they say of every call, where both are right.
pub record Asked (desk values : List ℕ) (d : Desk) : Type 0 where
  pub sizes : (length desk ≡ 136) × (length values ≡ 8)
  pub asks : (c : Call) (l : Lent) → answered (call c l d) l ≡ c_call c l desk values

both_false : (b : Bool) → b && false ≡ false
both_false true = refl
both_false false = refl

pub wrong_desk_length : (desk values : List ℕ) → length desk ≢ 136 → sizes_ok desk values ≡ false
unfolding sizes_ok
wrong_desk_length desk values e = rw (sizes_ok, neq_false e)

pub wrong_values_length : (desk values : List ℕ) → length values ≢ 8 → sizes_ok desk values ≡ false
unfolding sizes_ok
wrong_values_length desk values e = rw (sizes_ok, neq_false e) (both_false (eqb (length desk) 136))

pub right_lengths : (desk values : List ℕ) (d : Desk) → length desk ≡ 136 → length values ≡ 8 → d ≡ read_desk desk → Asked desk values d
unfolding sizes_ok c_call returned_by
right_lengths desk values d e f is =
    record { sizes = (e, f); asks = λ c l. rw (c_call, sizes_ok, eq_true (length desk) 136 e, eq_true (length values) 8 f, is) }

-- ---- a refusal for one of them

-- What is left of the desk by a call that empties it, or by another.
abbrev pub DeskLeft : Bool → List ℕ → List ℕ → Type 0
DeskLeft e desk after = (c : Call) → empties c ≡ e → after ≡ refused_desk_bytes c desk

pub other_desk : (e : Bool) (desk : List ℕ) → eqb (length desk) 136 ≡ false → DeskLeft e desk desk
other_desk e desk n c p = sym (wrong_desk c desk n)

pub same_desk : (e : Bool) (desk : List ℕ) → e ≡ false → Bytes desk → DeskLeft e desk desk
same_desk e desk t w c p = sym (desk_kept c desk (p ∙ t) w)

pub new_desk : (e : Bool) (desk after : List ℕ) (d : Desk) → e ≡ true → length desk ≡ 136 → d ≡ empty_desk → after ≡ desk_bytes d → DeskLeft e desk after
new_desk e desk after d t h k a c p = a ∙ ap desk_bytes k ∙ sym (desk_emptied c desk (p ∙ t) h)

pub zero_values : (values after : List ℕ) → length values ≡ 8 → after ≡ zeros (length values) → after ≡ refused_values values
zero_values values after h a = a ∙ ap zeros h ∙ sym (values_zeroed values h)

-- What a refusal makes of the desk and the values.
abbrev pub Refuses : Bool → (desk values : List ℕ) → ℕ → (desk' values' : List ℕ) → Type 0
Refuses e desk values r desk' values' = (c : Call) (l : Lent) → empties c ≡ e → sizes_ok desk values ≡ false → returned r desk' values' l ≡ c_call c l desk values

pub refuses : (e : Bool) (desk values desk' values' : List ℕ) → DeskLeft e desk desk' → values' ≡ refused_values values → Refuses e desk values 1 desk' values'
unfolding c_call returned_by
refuses e desk values desk' values' f g c l p s = rw (c_call, s, f c p, g)

-- ---- a reply

-- What a reply makes of the desk and the values.
abbrev pub Gives : Reply → ℕ → List ℕ → List ℕ → Type 0
Gives y r desk values =
    (c : Call) (l after : Lent) (d : Desk) → RepliesWhole c l d y after → returned r desk values after ≡ answered (call c l d) l

-- The values' bytes, as two numbers are written.
pub values_written : (b s t : List ℕ) (a : Answer) (x y : ℕ) → length b ≡ 8 → x ≡ (answer_numbers a).first → y ≡ (answer_numbers a).second
    → s ≡ patch b 0 (put32 x) → t ≡ patch s 4 (put32 y) → t ≡ value_bytes a
unfolding value_bytes put32
values_written b s t a x y h ex ey e f =
    then_patch b s t 0 4 (put32 x) (put32 y) e f (sym (put32_length x)) (omega (arith, put32_length x, h))
    ∙ ap₂ (λ (u v : ℕ). patch b 0 (put32 u ++ put32 v)) ex ey
    ∙ patch_whole b (put32 (answer_numbers a).first ++ put32 (answer_numbers a).second) (sym h)

pub given : {y : Reply} {r : ℕ} {desk values : List ℕ} → r ≡ (answer_numbers y.answer).reason → desk ≡ desk_bytes y.desk → values ≡ value_bytes y.answer
    → Gives y r desk values
unfolding answered areas_left
given er ed ev c l after d p = rw (er, ed, ev, p.answer, p.desk, p.areas)
