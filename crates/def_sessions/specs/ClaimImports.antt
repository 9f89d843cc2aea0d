-- THE ONE CLAIM over the registers imported.
use Rattle.std.specs.Prelude.{◌≡◌, refl, true}
use Rattle.def_base.specs.Tests.{every, and_both}
use Rattle.def_sessions.specs.Play.{comes_true}
use Rattle.def_sessions.specs.Compute.{computed}
use Rattle.def_sessions.specs.Imports.{imports, one_leaf, two_leaves, three_leaves, full_root, three_levels, index_shares, too_few, no_records, load_refusals, used, cut_loading}

one_leaf_holds : comes_true one_leaf ≡ true
unfolding computed
one_leaf_holds = refl

two_leaves_holds : comes_true two_leaves ≡ true
unfolding computed
two_leaves_holds = refl

no_third_holds : comes_true (three_leaves 20 10 0) ≡ true
unfolding computed
no_third_holds = refl

least_shared_holds : comes_true (three_leaves 21 6 5) ≡ true
unfolding computed
least_shared_holds = refl

evenly_shared_holds : comes_true (three_leaves 22 6 6) ≡ true
unfolding computed
evenly_shared_holds = refl

most_shared_holds : comes_true (three_leaves 23 7 6) ≡ true
unfolding computed
most_shared_holds = refl

four_alone_holds : comes_true (three_leaves 24 10 4) ≡ true
unfolding computed
four_alone_holds = refl

full_root_holds : comes_true full_root ≡ true
unfolding computed
full_root_holds = refl

three_levels_holds : comes_true three_levels ≡ true
unfolding computed
three_levels_holds = refl

index_shares_holds : comes_true index_shares ≡ true
unfolding computed
index_shares_holds = refl

too_few_holds : comes_true too_few ≡ true
unfolding computed
too_few_holds = refl

no_records_holds : comes_true no_records ≡ true
unfolding computed
no_records_holds = refl

load_refusals_holds : comes_true load_refusals ≡ true
unfolding computed
load_refusals_holds = refl

used_holds : comes_true used ≡ true
unfolding computed
used_holds = refl

cut_loading_holds : comes_true cut_loading ≡ true
unfolding computed
cut_loading_holds = refl

pub imports_hold : every comes_true imports ≡ true
unfolding every
imports_hold = and_both one_leaf_holds (and_both two_leaves_holds (and_both no_third_holds (and_both least_shared_holds (and_both evenly_shared_holds (and_both most_shared_holds (and_both four_alone_holds (and_both full_root_holds (and_both three_levels_holds (and_both index_shares_holds (and_both too_few_holds (and_both no_records_holds (and_both load_refusals_holds (and_both used_holds (and_both cut_loading_holds refl))))))))))))))
