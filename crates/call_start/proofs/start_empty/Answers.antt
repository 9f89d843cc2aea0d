-- `start_empty`: the pages that were stored show no links, and keep the rules.
use native.Mathlib.Omega.{arith}
use mathlib.Core.Path.{◌≡◌, ap}
use Prim.Native.Nat.{ℕ, ◌/◌}
use lib.ListN.{length}
use Rattle.call_start.specs.Linking.{none_linked}
use Rattle.call_start.proofs.start_empty.Goals as goal

pub relink-requires : goal.relink-requires
relink-requires c =
    let p = c.requires in
    let k = c.format.auto.wp in
    let e : length c.format.new.wp / 128 ≡ length c.args.wp.now / 128 = ap (λ (i : ℕ). i / 128) k in
    (omega (arith, p.0, k, e), omega (arith, p.2, e))

pub returns : goal.returns
returns c =
    let a = c.args in
    let p = c.requires in
    let k = c.format.auto.wp in
    let e : length c.format.new.wp / 128 ≡ length a.wp.now / 128 = ap (λ (i : ℕ). i / 128) k in
    none_linked (length c.format.new.wp / 128) (omega (arith, p.1, e)) (omega (arith, p.2, e)) a.budget _ _ _ (omega (arith, e)) c.format.ensures c.relink.ensures
