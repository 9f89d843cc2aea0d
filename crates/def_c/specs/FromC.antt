-- The calls as C makes them: the desk is 136 bytes, the answer's values are 8, and the reason is returned.
use Rattle.std.specs.Prelude.{ℕ, Bool, true, false, ◌&&◌, List, [], ◌++◌, length, eqb}
use Rattle.def_base.specs.Tests.{pick}
use Rattle.def_layout.specs.Numbers.{put32}
use Rattle.def_layout.specs.Desks.{desk_bytes, read_desk}
use Rattle.def_layout.specs.Sizes.{desk_size}
use Rattle.def_model.specs.declared.Refusal.TheVariants.{Lengths}
use Rattle.def_model.specs.declared.Answer.{Answer}
use Rattle.def_model.specs.declared.Answer.TheVariants.{Refused}
use Rattle.def_model.specs.Areas.{Store}
use Rattle.def_model.specs.Answers.{answer_numbers}
use Rattle.def_model.specs.OnBytes.{Lent, Call, Result, call, refused_desk, lent_after}

-- What a call from C returns and leaves.
pub record Returned : Type 0 where
  pub reason : ℕ
  pub desk : List ℕ
  pub values : List ℕ
  pub areas : Lent

abbrev pub returned : ℕ → List ℕ → List ℕ → Lent → Returned
returned r desk values areas = record { reason = r; desk = desk; values = values; areas = areas }

-- Two values of 32 bits.
abbrev pub values_size : ℕ
values_size = 8

-- The answer's values, zeros where there are none.
unfoldable pub value_bytes : Answer → List ℕ
value_bytes a = put32 (answer_numbers a).first ++ put32 (answer_numbers a).second

-- All of a call's stores carried out: "the call's own being its whole list".
unfoldable pub areas_left : Result → Lent → Lent
areas_left r l = lent_after (length r.stores) r l

unfoldable pub answered : Result → Lent → Returned
answered r l = returned (answer_numbers r.answer).reason (desk_bytes r.desk) (value_bytes r.answer) (areas_left r l)

-- ---- a desk or values of another length

-- The desk and the values have their lengths.
unfoldable pub sizes_ok : (desk values : List ℕ) → Bool
sizes_ok desk values = eqb (length desk) desk_size && eqb (length values) values_size

-- The desk after a refusal by 1, where it has its 136 bytes; else it stays.
unfoldable pub refused_desk_bytes : Call → List ℕ → List ℕ
refused_desk_bytes c desk = pick (eqb (length desk) desk_size) (desk_bytes (refused_desk c (read_desk desk))) desk

-- The values after a refusal, where they have their 8 bytes; else they stay. 01: "A refusal gives zeros for other answers".
unfoldable pub refused_values : List ℕ → List ℕ
refused_values values = pick (eqb (length values) values_size) (value_bytes (Refused Lengths)) values

-- ---- the call

unfoldable pub returned_by : (sizes_right : Bool) → Call → Lent → (desk values : List ℕ) → Returned
returned_by false c l desk values = returned 1 (refused_desk_bytes c desk) (refused_values values) l
returned_by true c l desk values = answered (call c l (read_desk desk)) l

-- A CALL FROM C. A desk or values of another length are refused as an area is, by 1, and the four areas stay.
unfoldable pub c_call : Call → Lent → (desk values : List ℕ) → Returned
c_call c l desk values = returned_by (sizes_ok desk values) c l desk values

-- Its stores, in order.
unfoldable pub c_stores_by : (sizes_right : Bool) → Call → Lent → (desk : List ℕ) → List Store
c_stores_by false c l desk = []
c_stores_by true c l desk = (call c l (read_desk desk)).stores

unfoldable pub c_stores : Call → Lent → (desk values : List ℕ) → List Store
c_stores c l desk values = c_stores_by (sizes_ok desk values) c l desk
