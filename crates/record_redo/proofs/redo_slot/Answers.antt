-- `redo_slot`: no page, at once, or the long way.
use mathlib.Core.Bool.{false}
use mathlib.Core.Path.{◌≡◌, ap}
use Prim.Native.Nat.{ℕ, ◌/◌}
use Rattle.def_layout.specs.Records.{kind_of}
use Rattle.def_layout.specs.Sizes.{slot_size}
use Rattle.def_model.specs.Change.{changes, shape}
use Rattle.record_redo.specs.AtOnce.{as_part, no_page}
use Rattle.record_redo.specs.Logs.{long_way}
use Rattle.record_redo.proofs.redo_slot.Goals.{then-kind-eq-BEGIN-via-then-kind-eq-BEGIN, then-kind-eq-BEGIN-via-else-kind-eq-BEGIN+then-kind-eq-COMMIT}
use Rattle.record_redo.proofs.redo_slot.Goals as goal

pub returns-then-kind-eq-BEGIN-clause-answer : goal.returns-then-kind-eq-BEGIN-clause-answer
unfolding kind_of
returns-then-kind-eq-BEGIN-clause-answer c xs own q shows stands few keeps =
    let a = c.args in
    let none : shape (kind_of (c.get32-kind.result / 268435456)) ≡ changes false false false false =
    elim c.then-kind-eq-BEGIN.branch [
      | then-kind-eq-BEGIN-via-then-kind-eq-BEGIN w ↦ ap (λ (k : ℕ). shape (kind_of k)) w.if-kind-eq-BEGIN.true
      | then-kind-eq-BEGIN-via-else-kind-eq-BEGIN+then-kind-eq-COMMIT w ↦ ap (λ (k : ℕ). shape (kind_of k)) w.if-kind-eq-COMMIT.true
    ]
    in
    no_page a.n a.m a.i _ a.pages.now a.log.now c.requires.1 (as_part slot_size a.i a.log.now 0 c.get32-kind.ensures) none xs own q shows stands keeps

pub returns-in-Some-clause-answer : goal.returns-in-Some-clause-answer
returns-in-Some-clause-answer c xs own q shows stands few keeps = c.in-Some.ensures.cases xs own q shows stands keeps

pub returns-clause-answer : goal.returns-clause-answer
returns-clause-answer c =
    let a = c.args in
    let r = c.record_at-r in
    let d = c.redo_places in
    long_way _ a.m a.i a.log.now r.result d.result r.ensures.1 c.in_default.ensures.cases d.ensures.answer
