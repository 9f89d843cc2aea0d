-- `start_loaded`: the pages that were stored show no links, and keep the rules.
use native.Mathlib.Omega.{arith}
use mathlib.Core.Path.{◌≡◌, ap}
use Prim.Native.Nat.{ℕ, ◌/◌}
use lib.ListN.{length}
use Rattle.call_start.specs.Linking.{columns_linked}
use Rattle.call_start.proofs.start_loaded.Goals as goal

pub relink-requires : goal.relink-requires
relink-requires c =
    let p = c.requires in
    let k = c.load.auto.wp in
    let e : length c.load.new.wp / 128 ≡ length c.args.wp.now / 128 = ap (λ (i : ℕ). i / 128) k in
    (omega (arith, p.0.0, k, e), omega (arith, p.0.2, e))

pub returns : goal.returns
returns c =
    let a = c.args in
    let p = c.requires in
    let k = c.load.auto.wp in
    let e : length c.load.new.wp / 128 ≡ length a.wp.now / 128 = ap (λ (i : ℕ). i / 128) k in
    columns_linked a.keys.now a.values.now (length c.load.new.wp / 128) p.1.same p.3 (λ i. let f = (c.shared_slice_known-1.given i).fits in omega (arith, f)) (λ i. let f = (c.shared_slice_known-2-1.given i).fits in omega (arith, f))
    (omega (arith, p.2, e)) (omega (arith, p.0.2, e)) a.budget _ _ _ (omega (arith, e)) c.load.ensures c.relink.ensures
