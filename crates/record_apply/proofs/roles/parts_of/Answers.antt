-- `parts_of`: the parts of each kind, arm by arm.
use Rattle.std.proofs.Common.{arith}
use mathlib.Core.Bool.{true, false}
use mathlib.Core.Path.{◌≡◌, refl}
use Prim.Native.Nat.{ℕ}
use Rattle.def_layout.specs.Records.{Kind, kind_of}
use Rattle.def_model.specs.Change.{changes, shape}
use Rattle.law_bytes.specs.Ranges.{Run, in_run}
use Rattle.record_apply.specs.Roles.{quiet_low, quiet_mid, quiet_past}
use Rattle.record_apply.proofs.roles.parts_of.Goals as goal

pub returns-in-9 : goal.returns-in-9
unfolding kind_of
returns-in-9 c =
    let none = c.default-none.ensures in
    rw (c.in-9.is, none.1.1.0)

pub returns-in-12 : goal.returns-in-12
unfolding kind_of
returns-in-12 c =
    let none = c.default-none.ensures in
    rw (c.in-12.is, none.1.1.0)

pub returns-in-13 : goal.returns-in-13
unfolding kind_of
returns-in-13 c =
    let none = c.default-none.ensures in
    rw (c.in-13.is, none.1.1.0, none.1.1.1)

pub returns-in-14 : goal.returns-in-14
unfolding kind_of
returns-in-14 c =
    let none = c.default-none.ensures in
    rw (c.in-14.is, none.1.0)

pub returns-in-15 : goal.returns-in-15
unfolding kind_of
returns-in-15 c =
    let none = c.default-none.ensures in
    rw (c.in-15.is, none.1.1.0)

pub returns-in-2-to-5 : goal.returns-in-2-to-5
unfolding kind_of Run
returns-in-2-to-5 c =
    let none = c.default-none.ensures in
    rw (none.1.0, none.1.1.0, none.1.1.1) (in_run (λ (k : ℕ). changes true false false false ≡ shape (kind_of k)) 4 2 c.args.kind (refl, (refl, (refl, (refl, tt)))) (omega arith) (omega arith))

pub returns-in-10-to-11 : goal.returns-in-10-to-11
unfolding kind_of Run
returns-in-10-to-11 c =
    let none = c.default-none.ensures in
    rw (none.1.0, none.1.1.0, none.1.1.1) (in_run (λ (k : ℕ). changes true false false false ≡ shape (kind_of k)) 2 10 c.args.kind (refl, (refl, tt)) (omega arith) (omega arith))

pub returns-in_default : goal.returns-in_default
returns-in_default c =
    let none = c.default-none.ensures in
    rw (none.0, none.1.0, none.1.1.0, none.1.1.1) (quiet_low (λ (k : Kind). changes false false false false ≡ shape k) refl c.args.kind (omega arith))

pub returns-in_default-2 : goal.returns-in_default-2
returns-in_default-2 c =
    let none = c.default-none.ensures in
    rw (none.0, none.1.0, none.1.1.0, none.1.1.1) (quiet_mid (λ (k : Kind). changes false false false false ≡ shape k) refl refl refl refl c.args.kind (omega arith) (omega arith))

pub returns-in_default-3 : goal.returns-in_default-3
returns-in_default-3 c =
    let none = c.default-none.ensures in
    rw (none.0, none.1.0, none.1.1.0, none.1.1.1) (quiet_past (λ (k : Kind). changes false false false false ≡ shape k) refl c.args.kind (omega arith))
