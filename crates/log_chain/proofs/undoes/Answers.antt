-- `undoes`: by the tests in turn.
use mathlib.Core.Path.{sym, ◌∙◌}
use borrow.Author.Tests.{eq-eqb, ne_eqb}
use Rattle.log_chain.specs.Undos.{other_key, other_left, insert_undone, delete_undone}
use Rattle.log_chain.proofs.undoes.Goals as goal

pub returns-then-t-line : goal.returns-then-t-line
returns-then-t-line c = let a = c.args in sym (other_key a.t a.line (ne_eqb _ _ c.if-t-line.true))

pub returns-then-t-line-2 : goal.returns-then-t-line-2
returns-then-t-line-2 c =
    let a = c.args in
    sym (other_left a.t a.line (eq-eqb _ _ c.if-t-line.false) (ne_eqb _ _ c.if-t-line-2.true))

pub returns-then-t-eq4 : goal.returns-then-t-eq4
returns-then-t-eq4 c =
    let a = c.args in
    sym (insert_undone a.t a.line (eq-eqb _ _ c.if-t-line.false) (eq-eqb _ _ c.if-t-line-2.false) (eq-eqb _ _ c.if-t-eq4.true))

pub returns-then-line : goal.returns-then-line
returns-then-line c =
    let a = c.args in
    sym (delete_undone a.t a.line (eq-eqb _ _ c.if-t-line.false) (eq-eqb _ _ c.if-t-line-2.false) (ne_eqb _ _ c.if-t-eq4.false) ∙ rw c.if-line.true)

pub returns : goal.returns
returns c =
    let a = c.args in
    sym (delete_undone a.t a.line (eq-eqb _ _ c.if-t-line.false) (eq-eqb _ _ c.if-t-line-2.false) (ne_eqb _ _ c.if-t-eq4.false) ∙ rw c.if-line.false)
