-- `carried`: the bits of each kind's row, arm by arm.
use Rattle.std.proofs.Common.{arith}
use mathlib.Core.Path.{◌≡◌, refl}
use Prim.Native.Nat.{ℕ}
use Rattle.def_layout.specs.Records.{kind_of}
use Rattle.def_layout.specs.Rows.{carries}
use Rattle.law_bytes.specs.Ranges.{Run, in_run}
use Rattle.record_check.specs.Kept.{mask}
use Rattle.record_check.proofs.carried.Goals as goal

pub returns-in-1 : goal.returns-in-1
unfolding mask carries kind_of
returns-in-1 c = rw c.in-1.is

pub returns-in-4 : goal.returns-in-4
unfolding mask carries kind_of
returns-in-4 c = rw c.in-4.is

pub returns-in-5 : goal.returns-in-5
unfolding mask carries kind_of
returns-in-5 c = rw c.in-5.is

pub returns-in-9 : goal.returns-in-9
unfolding mask carries kind_of
returns-in-9 c = rw c.in-9.is

pub returns-in-12 : goal.returns-in-12
unfolding mask carries kind_of
returns-in-12 c = rw c.in-12.is

pub returns-in-13 : goal.returns-in-13
unfolding mask carries kind_of
returns-in-13 c = rw c.in-13.is

pub returns-in-14 : goal.returns-in-14
unfolding mask carries kind_of
returns-in-14 c = rw c.in-14.is

pub returns-in-2-to-3 : goal.returns-in-2-to-3
unfolding mask carries kind_of Run
returns-in-2-to-3 c =
    let k = c.args.kind in
    in_run (λ (k : ℕ). 460 ≡ mask (carries (kind_of k))) 2 2 k (refl, (refl, tt)) (omega arith) (omega arith)

pub returns-in-6-to-8 : goal.returns-in-6-to-8
unfolding mask carries kind_of Run
returns-in-6-to-8 c =
    let k = c.args.kind in
    in_run (λ (k : ℕ). 384 ≡ mask (carries (kind_of k))) 3 6 k (refl, (refl, (refl, tt)))
    (omega arith) (omega arith)

pub returns-in-10-to-11 : goal.returns-in-10-to-11
unfolding mask carries kind_of Run
returns-in-10-to-11 c =
    let k = c.args.kind in
    in_run (λ (k : ℕ). 124 ≡ mask (carries (kind_of k))) 2 10 k (refl, (refl, tt)) (omega arith) (omega arith)

pub returns-in_default-2 : goal.returns-in_default-2
unfolding mask carries kind_of Run
returns-in_default-2 c =
    let a = c in
    let k = a.args.kind in
    in_run (λ (k : ℕ). 609 ≡ mask (carries (kind_of k))) 1 15 k (refl, tt)
    (omega arith) a.requires.1
