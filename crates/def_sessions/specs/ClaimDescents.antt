-- THE ONE CLAIM over the sessions on the way down: each writes the records and leaves the pages told.
use Rattle.std.specs.Prelude.{◌≡◌, refl, true}
use Rattle.def_base.specs.Tests.{every, and_both}
use Rattle.def_sessions.specs.Play.{comes_true}
use Rattle.def_sessions.specs.Compute.{computed}
use Rattle.def_sessions.specs.Descents.{descents, raised, linked_right, linked_left, linked_removing, split_to_link, full_adding, full_removing, lowered_linked, split_to_join, linked_after, linked_before, linked_joined, joined_indexes, joined_14, shared_15}

raised_holds : comes_true raised ≡ true
unfolding computed
raised_holds = refl

linked_right_holds : comes_true linked_right ≡ true
unfolding computed
linked_right_holds = refl

linked_left_holds : comes_true linked_left ≡ true
unfolding computed
linked_left_holds = refl

linked_removing_holds : comes_true linked_removing ≡ true
unfolding computed
linked_removing_holds = refl

split_to_link_holds : comes_true split_to_link ≡ true
unfolding computed
split_to_link_holds = refl

full_adding_holds : comes_true full_adding ≡ true
unfolding computed
full_adding_holds = refl

full_removing_holds : comes_true full_removing ≡ true
unfolding computed
full_removing_holds = refl

lowered_linked_holds : comes_true lowered_linked ≡ true
unfolding computed
lowered_linked_holds = refl

split_to_join_holds : comes_true split_to_join ≡ true
unfolding computed
split_to_join_holds = refl

linked_after_holds : comes_true linked_after ≡ true
unfolding computed
linked_after_holds = refl

linked_before_holds : comes_true linked_before ≡ true
unfolding computed
linked_before_holds = refl

linked_joined_holds : comes_true linked_joined ≡ true
unfolding computed
linked_joined_holds = refl

joined_indexes_holds : comes_true joined_indexes ≡ true
unfolding computed
joined_indexes_holds = refl

joined_14_holds : comes_true joined_14 ≡ true
unfolding computed
joined_14_holds = refl

shared_15_holds : comes_true shared_15 ≡ true
unfolding computed
shared_15_holds = refl

pub descents_hold : every comes_true descents ≡ true
unfolding every
descents_hold =
    and_both raised_holds (and_both linked_right_holds (and_both linked_left_holds (and_both linked_removing_holds (and_both
    split_to_link_holds (and_both full_adding_holds (and_both full_removing_holds (and_both lowered_linked_holds (and_both
    split_to_join_holds (and_both linked_after_holds (and_both linked_before_holds (and_both linked_joined_holds (and_both
    joined_indexes_holds (and_both joined_14_holds (and_both shared_15_holds refl))))))))))))))
