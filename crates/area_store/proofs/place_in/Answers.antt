-- `place_in`: a page's place, or a slot's.
use Rattle.area_store.specs.Steps.{page_place, slot_place}
use Rattle.area_store.proofs.place_in.Goals as goal

pub returns-in-Pages : goal.returns-in-Pages
returns-in-Pages c = page_place _ _ c.in-Pages.is

pub returns-in-Slots : goal.returns-in-Slots
returns-in-Slots c = slot_place _ _ c.in-Slots.is
