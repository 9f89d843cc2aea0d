-- THE ONE CLAIM over the forged images: each is told as written, and its twin is not.
use Rattle.std.specs.Prelude.{◌≡◌, refl, true}
use Rattle.def_base.specs.Tests.{every, and_both}
use Rattle.def_sessions.specs.Play.{comes_true}
use Rattle.def_sessions.specs.Compute.{computed}
use Rattle.def_sessions.specs.Damage.{damage, no_page, own_number, used_number, second_map, index_level, leaf_level, leaf_count, index_child, free_link, stored_left, spare_bit, slot_number, slot_row, slot_chain, after_mark, after_commit, end_pending, undo_older, slot_page, ninth_open, after_empty, page_ahead, insert_there, delete_absent, delete_other, undo_absent, undo_there, split_link, page_taken, no_tree, pending_value, pending_batches, pending_twice, pending_deleted}

no_page_holds : every comes_true no_page ≡ true
unfolding computed
no_page_holds = refl

own_number_holds : every comes_true own_number ≡ true
unfolding computed
own_number_holds = refl

used_number_holds : every comes_true used_number ≡ true
unfolding computed
used_number_holds = refl

leaf_level_holds : every comes_true leaf_level ≡ true
unfolding computed
leaf_level_holds = refl

second_map_holds : every comes_true second_map ≡ true
unfolding computed
second_map_holds = refl

index_level_holds : every comes_true index_level ≡ true
unfolding computed
index_level_holds = refl

leaf_count_holds : every comes_true leaf_count ≡ true
unfolding computed
leaf_count_holds = refl

index_child_holds : every comes_true index_child ≡ true
unfolding computed
index_child_holds = refl

free_link_holds : every comes_true free_link ≡ true
unfolding computed
free_link_holds = refl

stored_left_holds : every comes_true stored_left ≡ true
unfolding computed
stored_left_holds = refl

spare_bit_holds : every comes_true spare_bit ≡ true
unfolding computed
spare_bit_holds = refl

slot_number_holds : every comes_true slot_number ≡ true
unfolding computed
slot_number_holds = refl

slot_row_holds : every comes_true slot_row ≡ true
unfolding computed
slot_row_holds = refl

slot_chain_holds : every comes_true slot_chain ≡ true
unfolding computed
slot_chain_holds = refl

after_mark_holds : every comes_true after_mark ≡ true
unfolding computed
after_mark_holds = refl

after_commit_holds : every comes_true after_commit ≡ true
unfolding computed
after_commit_holds = refl

end_pending_holds : every comes_true end_pending ≡ true
unfolding computed
end_pending_holds = refl

undo_older_holds : every comes_true undo_older ≡ true
unfolding computed
undo_older_holds = refl

slot_page_holds : every comes_true slot_page ≡ true
unfolding computed
slot_page_holds = refl

ninth_open_holds : every comes_true ninth_open ≡ true
unfolding computed
ninth_open_holds = refl

after_empty_holds : every comes_true after_empty ≡ true
unfolding computed
after_empty_holds = refl

page_ahead_holds : every comes_true page_ahead ≡ true
unfolding computed
page_ahead_holds = refl

insert_there_holds : every comes_true insert_there ≡ true
unfolding computed
insert_there_holds = refl

delete_absent_holds : every comes_true delete_absent ≡ true
unfolding computed
delete_absent_holds = refl

delete_other_holds : every comes_true delete_other ≡ true
unfolding computed
delete_other_holds = refl

undo_absent_holds : every comes_true undo_absent ≡ true
unfolding computed
undo_absent_holds = refl

undo_there_holds : every comes_true undo_there ≡ true
unfolding computed
undo_there_holds = refl

split_link_holds : every comes_true split_link ≡ true
unfolding computed
split_link_holds = refl

page_taken_holds : every comes_true page_taken ≡ true
unfolding computed
page_taken_holds = refl

no_tree_holds : every comes_true no_tree ≡ true
unfolding computed
no_tree_holds = refl

pending_value_holds : every comes_true pending_value ≡ true
unfolding computed
pending_value_holds = refl

pending_batches_holds : every comes_true pending_batches ≡ true
unfolding computed
pending_batches_holds = refl

pending_twice_holds : every comes_true pending_twice ≡ true
unfolding computed
pending_twice_holds = refl

pending_deleted_holds : every comes_true pending_deleted ≡ true
unfolding computed
pending_deleted_holds = refl

pub damage_holds : every (every comes_true) damage ≡ true
unfolding every
damage_holds =
    and_both no_page_holds (and_both own_number_holds (and_both used_number_holds (and_both second_map_holds (and_both index_level_holds (and_both leaf_level_holds (and_both leaf_count_holds
    (and_both index_child_holds (and_both free_link_holds (and_both stored_left_holds (and_both spare_bit_holds (and_both slot_number_holds (and_both slot_row_holds
    (and_both slot_chain_holds (and_both after_mark_holds (and_both after_commit_holds (and_both end_pending_holds (and_both
    undo_older_holds (and_both slot_page_holds (and_both ninth_open_holds (and_both after_empty_holds (and_both page_ahead_holds (and_both
    insert_there_holds (and_both delete_absent_holds (and_both delete_other_holds (and_both undo_absent_holds (and_both undo_there_holds
    (and_both split_link_holds (and_both page_taken_holds (and_both no_tree_holds (and_both pending_value_holds (and_both
    pending_batches_holds (and_both pending_twice_holds (and_both pending_deleted_holds refl)))))))))))))))))))))))))))))))))
