-- THE ONE CLAIM over unsound registers: each is answered 11, and its twin is sound.
use Rattle.std.specs.Prelude.{◌≡◌, refl, true}
use Rattle.def_base.specs.Tests.{every, and_both}
use Rattle.def_sessions.specs.Play.{comes_true}
use Rattle.def_sessions.specs.Compute.{computed}
use Rattle.def_sessions.specs.Unsound.{unsound, work_layout, work_number, work_row, work_chain, work_ahead, work_tree, work_pending, desk_last, desk_undo, desk_pending, desk_logged, desk_stored, stored_other, reserve_slots, reserve_pages}

work_layout_holds : every comes_true work_layout ≡ true
unfolding computed
work_layout_holds = refl

work_number_holds : every comes_true work_number ≡ true
unfolding computed
work_number_holds = refl

work_row_holds : every comes_true work_row ≡ true
unfolding computed
work_row_holds = refl

work_chain_holds : every comes_true work_chain ≡ true
unfolding computed
work_chain_holds = refl

work_ahead_holds : every comes_true work_ahead ≡ true
unfolding computed
work_ahead_holds = refl

work_tree_holds : every comes_true work_tree ≡ true
unfolding computed
work_tree_holds = refl

work_pending_holds : every comes_true work_pending ≡ true
unfolding computed
work_pending_holds = refl

desk_last_holds : every comes_true desk_last ≡ true
unfolding computed
desk_last_holds = refl

desk_undo_holds : every comes_true desk_undo ≡ true
unfolding computed
desk_undo_holds = refl

desk_pending_holds : every comes_true desk_pending ≡ true
unfolding computed
desk_pending_holds = refl

desk_logged_holds : every comes_true desk_logged ≡ true
unfolding computed
desk_logged_holds = refl

desk_stored_holds : every comes_true desk_stored ≡ true
unfolding computed
desk_stored_holds = refl

stored_other_holds : every comes_true stored_other ≡ true
unfolding computed
stored_other_holds = refl

reserve_slots_holds : every comes_true reserve_slots ≡ true
unfolding computed
reserve_slots_holds = refl

reserve_pages_holds : every comes_true reserve_pages ≡ true
unfolding computed
reserve_pages_holds = refl

pub unsound_hold : every (every comes_true) unsound ≡ true
unfolding every
unsound_hold =
    and_both work_layout_holds (and_both work_number_holds (and_both work_row_holds (and_both work_chain_holds (and_both work_ahead_holds (and_both work_tree_holds (and_both work_pending_holds (and_both desk_last_holds (and_both desk_undo_holds (and_both desk_pending_holds (and_both desk_logged_holds (and_both desk_stored_holds (and_both stored_other_holds (and_both reserve_slots_holds (and_both reserve_pages_holds refl))))))))))))))
