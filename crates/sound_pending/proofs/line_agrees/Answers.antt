-- `line_agrees`: a newer one on its key, or its own say.
use Rattle.law_bytes.specs.PageAreas.{pages_of}
use Rattle.sound_pending.specs.Agreeing.{line_newer, line_newest}
use Rattle.sound_pending.proofs.line_agrees.Goals as goal

pub returns-then-has_key : goal.returns-then-has_key
returns-then-has_key c =
    let a = c.args in
    line_newer (pages_of a.n a.pages.now) a.m a.log.now a.from a.newer a.x _ c.has_key.ensures c.if-has_key.true

pub returns : goal.returns
returns c =
    let a = c.args in
    line_newest (pages_of a.n a.pages.now) a.m a.log.now a.from a.newer a.x _ c.has_key.ensures c.if-has_key.false _ c.agrees.ensures
