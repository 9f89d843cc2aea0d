-- `renew`: the map, or a page that has entries, with others.
use Rattle.record_apply.specs.Lists.{listed}
use Rattle.record_apply.specs.Pages.{renew_typed, renew_map}
use Rattle.record_apply.proofs.pages.renew.Goals as goal

pub returns-in-Map : goal.returns-in-Map
returns-in-Map c = let a = c.args in renew_map a.x a.right a.high (listed a.l) c.in-Map.is

pub returns-in_default : goal.returns-in_default
returns-in_default c = let a = c.args in renew_typed a.x a.right a.high a.l.count a.l.entries c.in_default.not-Map c.requires
