-- `store_slots`: the pages that are lent, none, make no difference.
use Prim.Native.Nat.{suc, ◌-◌}
use Rattle.area_store.specs.Parts.{slots_list}
use Rattle.area_store.specs.Beside.{any_pages}
use Rattle.area_store.proofs.store_slots.Goals as goal

pub returns : goal.returns
returns c wp sp xs e h =
    let a = c.args in
    any_pages (suc a.from) a.budget xs wp sp _ _ a.wl.now a.sl.now _
    (c.store_first.ensures _ (slots_list _ a.wl.now a.from (a.to - a.from) xs e h))
