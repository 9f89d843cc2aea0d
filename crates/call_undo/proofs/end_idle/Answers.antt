-- `end_idle`: row after row.
use mathlib.Core.Path.{◌∙◌, subst}
use Prim.Native.Nat.{◌<◌}
use native.Mathlib.Omega.{arith}
use Rattle.std.proofs.lemmas.List.{length-take, get_or-take}
use Rattle.def_layout.specs.declared.Row.{Row}
use Rattle.def_layout.specs.Desks.{no_row}
use Rattle.call_undo.specs.Ending.{EndsTurn, ending_on, ending_end}
use Rattle.call_undo.proofs.end_idle.Goals as goal

pub loop-row-preserved : goal.loop-row-preserved
loop-row-preserved c =
    let a = c.args in
    let l = c.loop-row in
    let u = c.end_row-run in
    let i : l.row-index < a.used = omega (arith, c.loop-row-test.true, length-take a.used a.rows) in (
      u.auto.wp ∙ l.invariant.0,
      u.auto.wl ∙ l.invariant.1,
      ending_on a.used l.row-index l.invariant.2 u.result i c.requires.1
          (subst (λ (r : Row). EndsTurn a.n a.m l.wp l.wl u.new.wp u.new.wl l.run r u.result) (get_or-take a.used a.rows l.row-index no_row i) u.ensures),
    )

pub returns : goal.returns
returns c s bs h e q =
    let l = c.loop-row in
    ending_end c.args.used l.row-index l.invariant.2 (omega (arith, c.loop-row-test.false, length-take c.args.used c.args.rows)) s bs h e q
