-- THE ONE CLAIM over forged logs: each is answered 4, and its twin finishes.
use Rattle.std.specs.Prelude.{◌≡◌, refl, true}
use Rattle.def_base.specs.Tests.{every, and_both}
use Rattle.def_sessions.specs.Play.{comes_true}
use Rattle.def_sessions.specs.Compute.{computed}
use Rattle.def_sessions.specs.ForgedLogs.{forged_logs, split_batch, raise_root, lower_root, both_sides, fifteen_moved, delete_after_mark, commit_after_mark, second_mark, undo_of_delete, undo_other_value, end_of_other, ninth_closed}

split_batch_holds : every comes_true split_batch ≡ true
unfolding computed
split_batch_holds = refl

raise_root_holds : every comes_true raise_root ≡ true
unfolding computed
raise_root_holds = refl

lower_root_holds : every comes_true lower_root ≡ true
unfolding computed
lower_root_holds = refl

both_sides_holds : every comes_true both_sides ≡ true
unfolding computed
both_sides_holds = refl

fifteen_moved_holds : every comes_true fifteen_moved ≡ true
unfolding computed
fifteen_moved_holds = refl

delete_after_mark_holds : every comes_true delete_after_mark ≡ true
unfolding computed
delete_after_mark_holds = refl

commit_after_mark_holds : every comes_true commit_after_mark ≡ true
unfolding computed
commit_after_mark_holds = refl

second_mark_holds : every comes_true second_mark ≡ true
unfolding computed
second_mark_holds = refl

undo_of_delete_holds : every comes_true undo_of_delete ≡ true
unfolding computed
undo_of_delete_holds = refl

undo_other_value_holds : every comes_true undo_other_value ≡ true
unfolding computed
undo_other_value_holds = refl

end_of_other_holds : every comes_true end_of_other ≡ true
unfolding computed
end_of_other_holds = refl

ninth_closed_holds : every comes_true ninth_closed ≡ true
unfolding computed
ninth_closed_holds = refl

pub forged_logs_hold : every (every comes_true) forged_logs ≡ true
unfolding every
forged_logs_hold =
    and_both split_batch_holds (and_both raise_root_holds (and_both lower_root_holds (and_both both_sides_holds (and_both fifteen_moved_holds (and_both delete_after_mark_holds (and_both commit_after_mark_holds (and_both second_mark_holds (and_both undo_of_delete_holds (and_both undo_other_value_holds (and_both end_of_other_holds (and_both ninth_closed_holds refl)))))))))))
