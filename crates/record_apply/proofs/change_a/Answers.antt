-- `change_a`: arm by arm, each by the entries that its step yields.
use Rattle.record_apply.proofs.change_a.Goals.{in_default-via-then-r-lt2, in_default-via-else-r-lt2+else-r-lt5}
use Rattle.std.proofs.Common.{arith, ap, ◌∙◌, List, ◌++◌, take}
use Rattle.def_layout.specs.declared.Entry.{Entry}
use Rattle.law_bytes.specs.EntryBytes.{used}
use Rattle.record_apply.specs.Changes.{a_insert, a_delete, a_undo_delete, a_split, a_link, a_unlink, a_merge, a_share, a_raise, a_lower, a_low, a_other}
use Rattle.record_apply.proofs.change_a.Goals as goal

pub returns-in-2 : goal.returns-in-2
returns-in-2 c =
    let a = c.args in
    a_insert a.r a.x _ _ c.in-2.is c.insert_key.ensures.0 c.with_list.ensures

pub returns-in-5 : goal.returns-in-5
returns-in-5 c =
    let a = c.args in
    a_undo_delete a.r a.x _ _ c.in-5.is c.insert_key-in-5.ensures.0 c.with_list-in-5.ensures

pub returns-in-9 : goal.returns-in-9
returns-in-9 c =
    let a = c.args in
    a_split a.r a.x _ c.without_last.result.count c.without_last.result.entries c.in-9.is c.without_last.ensures.1 c.without_last.ensures.0 c.renew.ensures

pub returns-in-10 : goal.returns-in-10
returns-in-10 c =
    let a = c.args in
    a_link a.r a.x _ _ c.in-10.is c.link_in.ensures.0 c.with_list-in-10.ensures

pub returns-in-11 : goal.returns-in-11
returns-in-11 c =
    let a = c.args in
    a_unlink a.r a.x _ _ c.in-11.is c.unlink_in.ensures.0 c.with_list-in-11.ensures

pub returns-in-12 : goal.returns-in-12
returns-in-12 c =
    let a = c.args in
    a_merge a.r a.x _ _ c.in-12.is (c.join.ensures.0 ∙ ap (λ (l : List Entry). take 14 (used a.x.count a.x.entries ++ l)) c.carried.ensures.0) c.renew-in-12.ensures

pub returns-in-13 : goal.returns-in-13
returns-in-13 c =
    let a = c.args in
    a_share a.r a.x _ _ c.in-13.is c.share_a.ensures.0 c.renew-in-13.ensures

pub returns-in-14 : goal.returns-in-14
returns-in-14 c = let a = c.args in a_raise a.r a.x _ c.in-14.is c.raised.ensures

pub returns-in-15 : goal.returns-in-15
returns-in-15 c = let a = c.args in a_lower a.r a.x _ c.in-15.is c.filled.ensures

pub returns-in-3-to-4 : goal.returns-in-3-to-4
returns-in-3-to-4 c =
    let a = c.args in
    a_delete a.r a.x _ _ (omega arith) (omega arith) c.remove_key.ensures.0 c.with_list-in-3-to-4.ensures

pub returns-in_default : goal.returns-in_default
returns-in_default c =
    let a = c.args in
    elim c.in_default.branch [
      | in_default-via-then-r-lt2 w ↦ a_low a.r a.x _ (omega arith) c.cut.ensures
      | in_default-via-else-r-lt2+else-r-lt5 w ↦ a_other a.r a.x _ (omega arith) (omega arith) (omega arith) (omega arith) (omega arith) (omega arith) (omega arith) (omega arith) (omega arith) c.cut.ensures
    ]
