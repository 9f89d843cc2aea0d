-- `put_answer`: by the answer's variants.
use native.Mathlib.Omega.{arith}
use Rattle.face_text.specs.Puts.{puts_done, puts_refused, puts_value, puts_pair}
use Rattle.face_text.proofs.put_answer.Goals as goal

pub returns-in-Done : goal.returns-in-Done
returns-in-Done c =
    let a = c.args in
    let p = c.put_number-m in
    (omega arith, puts_done a.out.now a.n p.new.out p.result a.a c.from.result.reason c.from.ensures.0 p.ensures.1 c.in-Done.is)

pub returns-in-Number : goal.returns-in-Number
returns-in-Number c =
    let a = c.args in
    let p = c.put_number-m in
    let q = c.put_number in
    (omega arith, puts_value a.out.now a.n p.new.out p.result a.a c.from.result.reason c.from.ensures.0 p.ensures.1 q.new.out q.result c.in-Number.is q.ensures.1)

pub returns-in-Pair : goal.returns-in-Pair
returns-in-Pair c =
    let a = c.args in
    let p = c.put_number-m in
    let q = c.put_number-k in
    let r = c.put_number-in-Pair in
    (omega arith, puts_pair a.out.now a.n p.new.out p.result a.a c.from.result.reason c.from.ensures.0 p.ensures.1 q.new.out q.result r.new.out r.result c.in-Pair.is q.ensures.1 r.ensures.1)

pub returns-in-Refused : goal.returns-in-Refused
returns-in-Refused c =
    let a = c.args in
    let p = c.put_number-m in
    (omega arith, puts_refused a.out.now a.n p.new.out p.result a.a c.from.result.reason c.from.ensures.0 p.ensures.1 c.in-Refused.is)
