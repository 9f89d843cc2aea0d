-- THE ONE CLAIM over stepping backwards.
use Rattle.std.specs.Prelude.{◌≡◌, refl, true}
use Rattle.def_base.specs.Tests.{every, and_both}
use Rattle.def_model.specs.CallNames.{abort, return_to}
use Rattle.def_sessions.specs.Play.{comes_true}
use Rattle.def_sessions.specs.Compute.{computed}
use Rattle.def_sessions.specs.Backwards.{backwards, stepping, held_below, links_split, links_root, links_raised, links_merged, links_lowered, links_taken_back, links_loaded, links_three_levels, links_stored, links_restarted, links_forged, links_spare}

stepping_holds : comes_true stepping ≡ true
unfolding computed
stepping_holds = refl

held_below_holds : comes_true held_below ≡ true
unfolding computed
held_below_holds = refl

links_split_holds : comes_true links_split ≡ true
unfolding computed
links_split_holds = refl

links_root_holds : comes_true links_root ≡ true
unfolding computed
links_root_holds = refl

links_raised_holds : comes_true links_raised ≡ true
unfolding computed
links_raised_holds = refl

links_merged_holds : comes_true links_merged ≡ true
unfolding computed
links_merged_holds = refl

links_lowered_holds : comes_true links_lowered ≡ true
unfolding computed
links_lowered_holds = refl

links_aborted_holds : comes_true (links_taken_back (abort 1)) ≡ true
unfolding computed
links_aborted_holds = refl

links_returned_holds : comes_true (links_taken_back (return_to 1 1)) ≡ true
unfolding computed
links_returned_holds = refl

links_loaded_holds : comes_true links_loaded ≡ true
unfolding computed
links_loaded_holds = refl

links_three_levels_holds : comes_true links_three_levels ≡ true
unfolding computed
links_three_levels_holds = refl

links_stored_holds : comes_true links_stored ≡ true
unfolding computed
links_stored_holds = refl

links_restarted_holds : comes_true links_restarted ≡ true
unfolding computed
links_restarted_holds = refl

links_forged_holds : comes_true links_forged ≡ true
unfolding computed
links_forged_holds = refl

links_spare_holds : comes_true links_spare ≡ true
unfolding computed
links_spare_holds = refl

pub backwards_hold : every comes_true backwards ≡ true
unfolding every
backwards_hold =
    and_both stepping_holds (and_both held_below_holds (and_both links_split_holds (and_both links_root_holds (and_both links_raised_holds (and_both links_merged_holds (and_both links_lowered_holds (and_both links_aborted_holds (and_both links_returned_holds (and_both links_loaded_holds (and_both links_three_levels_holds (and_both links_stored_holds (and_both links_restarted_holds (and_both links_forged_holds (and_both links_spare_holds refl))))))))))))))
