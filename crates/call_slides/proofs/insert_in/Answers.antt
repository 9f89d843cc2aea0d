-- `insert_in`: refused by a check, or done.
use mathlib.Core.Path.{◌∙◌, sym, ap, refl}
use native.Mathlib.Omega.{arith}
use Rattle.def_layout.specs.Records.{kind_of}
use Rattle.def_model.specs.Fit.{found}
use Rattle.def_model.specs.Calls.{run_of}
use Rattle.call_slides.specs.Given.{areas, run_shown}
use Rattle.call_slides.specs.Questions.{fetched_read}
use Rattle.call_slides.specs.Changes.{insert_barred, insert_0}
use Rattle.call_slides.proofs.Options.{found_by}
use Rattle.call_slides.proofs.insert_in.Goals as goal

pub returns-in-Err : goal.returns-in-Err
returns-in-Err c budget sp sl g =
    let f = c.fetched-f in
    insert_barred g _ _ _ _ _ c.requires.4 (c.is_some.ensures ∙ found_by f.result ∙ ap found (sym (fetched_read g _ _ f.ensures))) (c.in-Err.ensures.bars _ _ sp sl g) budget _ c.refused.ensures

pub relink-requires : goal.relink-requires
relink-requires c = let q = c.requires.0 in (c.put_record-u.auto.wp ∙ q.0, q.1)

pub updated-requires : goal.updated-requires
updated-requires c = (c.in-Ok.ensures.low, c.requires.3 c.in-Ok.i)

pub returns : goal.returns
unfolding kind_of
returns c budget sp sl g =
    let f = c.fetched-f in
    let p = c.put_record-u in
    insert_0 g _ _ _ _ budget p.result _ (omega (arith, c.ranges.k.fits)) (omega (arith, c.ranges.b.fits)) c.relink.ensures refl c.updated.ensures _ (omega (arith, c.ranges.v.fits)) c.requires.4
    (c.is_some.ensures ∙ found_by f.result ∙ ap found (sym (fetched_read g _ _ f.ensures))) (c.in-Ok.ensures.bars _ _ sp sl g) (p.ensures (run_of (areas g)) (run_shown g _ c.at-t.ensures))
