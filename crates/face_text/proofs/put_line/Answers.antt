-- `put_line`: by the letter.
use native.Mathlib.Omega.{arith}
use Rattle.face_text.specs.Puts.{puts_other, puts_known}
use Rattle.face_text.proofs.put_line.Goals as goal

pub returns-then-x-eq63 : goal.returns-then-x-eq63
returns-then-x-eq63 c =
    let a = c.args in
    let p = c.put-m in
    let q = c.put in
    (omega arith, puts_other a.out.now a.n p.new.out p.result a.c a.a c.letter_of-x.result c.letter_of-x.ensures p.ensures.1 q.new.out q.result c.if-x-eq63.true q.ensures.1)

pub returns : goal.returns
returns c =
    let a = c.args in
    let p = c.put-m in
    let q = c.put_answer-k in
    let r = c.put-2 in
    (omega arith, puts_known a.out.now a.n p.new.out p.result a.c a.a c.letter_of-x.result c.letter_of-x.ensures p.ensures.1 q.new.out q.result r.new.out r.result c.if-x-eq63.false q.ensures.1 r.ensures.1)
