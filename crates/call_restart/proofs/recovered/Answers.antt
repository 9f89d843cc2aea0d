-- `recovered`: the image is refused, or settled; the settling stops, or is stored.
use borrow.Author.Rules.{rules}
use mathlib.Core.Path.{refl, ◌∙◌}
use native.Mathlib.Omega.{arith}
use Rattle.std.specs.Prelude.{Ok, Err}
use Rattle.std.proofs.lemmas.Result.{err_from_is_err_and}
use Rattle.call_restart.specs.Redoing.{copy_redone}
use Rattle.call_restart.specs.Settled.{settled_longer, settled_within, stop_refuse}
use Rattle.call_restart.specs.Recovered.{done_so}
use Rattle.call_restart.proofs.recovered.Goals as goal

pub returns-in_err-said : goal.returns-in_err-said
returns-in_err-said c =
    let p = err_from_is_err_and c.from_residual.result c.from_residual.ensures.1 in
    rw (p.1, p.2) (c.in_err-said.ensures, refl)

pub redone-requires : goal.redone-requires
redone-requires c =
    let q = c.requires in
    ((c.copy.auto.dst ∙ q.0.0, q.0.1, q.1.2, q.1.3), (q.0.2, q.0.3), c.in_ok-said.ensures.within)

pub returns-in_err-count : goal.returns-in_err-count
returns-in_err-count c =
    let p = err_from_is_err_and c.from_residual-in_err-count.result c.from_residual-in_err-count.ensures.1 in
    rw (p.1, p.2) (copy_redone c.redone.new.wp (Err c.in_err-count.field-0.0) c.copy.ensures c.in_ok-said.ensures c.in_err-count.ensures.pages, refl)

pub settle-u-requires : goal.settle-u-requires
settle-u-requires c =
    let q = c.requires in
    ((c.redone.auto.wp ∙ c.copy.auto.dst ∙ q.0.0, q.0.1, c.redone.auto.wl ∙ q.0.2, q.0.3), c.in_ok-said.ensures.low)

pub returns-in-Some : goal.returns-in-Some
returns-in-Some c =
    let k = c.in_ok-said.ensures in
    let y = copy_redone _ (Ok c.in_ok-count.count) c.copy.ensures k c.in_ok-count.ensures.pages in
    (stop_refuse k y c.in_ok-count.ensures.log _ c.at.ensures c.settle-u.ensures _ (search rules), refl)

pub relink-requires : goal.relink-requires
relink-requires c = let q = c.requires in (c.settle-u.auto.wp ∙ c.redone.auto.wp ∙ c.copy.auto.dst ∙ q.0.0, q.0.1)

pub store_slots-requires : goal.store_slots-requires
store_slots-requires c =
    let q = c.requires in
    let u = c.settle-u in
    let k = c.in_ok-said.ensures in
    let y = copy_redone _ (Ok c.in_ok-count.count) c.copy.ensures k c.in_ok-count.ensures.pages in
    let l = settled_longer k y c.in_ok-count.ensures.log _ c.at.ensures u.ensures in
    let w = settled_within k y c.in_ok-count.ensures.log _ c.at.ensures u.ensures in
    (l, omega (arith, w, q.0.3), omega (arith, w, q.1.2), omega (arith, w, u.auto.wl, c.redone.auto.wl, q.0.2))

pub returns : goal.returns
returns c =
    let k = c.in_ok-said.ensures in
    let y = copy_redone _ (Ok c.in_ok-count.count) c.copy.ensures k c.in_ok-count.ensures.pages in
    done_so k y c.in_ok-count.ensures.log _ c.at.ensures c.settle-u.ensures c.relink.ensures _ (search rules) c.used_rows-ended.ensures.0 c.store_slots.ensures refl c.idle_desk.ensures
