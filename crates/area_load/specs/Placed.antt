-- The place of a page: found from the leaves up, for all records of that number at once.
use Rattle.std.specs.Prelude.{ℕ, suc, ◌+◌, ◌-◌, ◌≤◌, ◌<◌, ◌≡◌, refl, Bool, true, false, List, length, replicate, eqb}
use Rattle.std.proofs.Common.{ap, ◌∙◌, subst, arith}
use Rattle.std.proofs.lemmas.List.{length-replicate}
use Rattle.def_base.specs.Tests.{clash}
use Rattle.def_layout.specs.declared.Entry.{Entry}
use Rattle.def_layout.specs.Entries.{no_entry}
use Rattle.def_layout.specs.Sizes.{room}
use Rattle.def_layout.specs.Pages.{at}
use Rattle.def_model.specs.Loading.{group_count, levels_pages, loaded_levels, loaded_count}
use Rattle.theory_load.specs.Places.{group_end, group_start, end_fits}
use Rattle.theory_load.specs.Rungs.{count_up, placed, Rung, rung_start, rung_up, rung_page, rung_root, rung_below, rung_top}
use Rattle.area_load.specs.declared.Place.{Place}

-- Its entries are of its height's, no more than a page's room.
pub record Within (n : ℕ) (x : Place) : Type 0 where
  pub few : x.size ≤ room
  pub inside : x.from + x.size ≤ count_up x.height n
  pub wide : x.below ≤ suc (loaded_count n)

pub record Placed (n p : ℕ) (x : Place) : Type 0 where
  pub page : (es : List Entry) → length es ≡ n → at (levels_pages (loaded_levels es)) (p - 1) ≡ placed es p x.height x.below x.from x.size x.ends
  pub within : Within n x
  pub some : x.ends ≡ false → 0 < x.size
  pub low : x.height ≤ n

-- The levels from height h down are passed.
pub record Rungs (n h count end : ℕ) : Type 0 where
  pub rungs : (es : List Entry) → length es ≡ n → Rung es h count end
  pub counted : count ≡ count_up h n
  pub low : h + count ≤ n
  pub wide : end ≤ suc (loaded_count n)

pub rungs_start : (n : ℕ) → Rungs n 0 n (suc (loaded_count n))
unfolding count_up
rungs_start n = record { rungs = λ es e. subst (λ k. Rung es 0 k (suc (loaded_count k))) e (rung_start es); counted = refl; low = omega arith; wide = omega arith }

-- A level's pages come before its end.
pub rungs_below : (n h count end : ℕ) → room < count → Rungs n h count end → group_count count < end
rungs_below n h count end b r = rung_below (replicate n no_entry) h count end b (r.rungs (replicate n no_entry) (length-replicate n no_entry))

pub rungs_up : (n h count end : ℕ) → room < count → Rungs n h count end → Rungs n (h + 1) (group_count count) (end - group_count count)
unfolding count_up
rungs_up n h count end b r =
    let c = r.counted in
    let l = r.low in
    let w = r.wide in
    let s : suc h ≡ h + 1 = omega arith in
    record {
      rungs = λ es e. subst (λ k. Rung es k (group_count count) (end - group_count count)) s (rung_up es h count end b (r.rungs es e));
      counted = subst (λ k. group_count count ≡ count_up k n) s (ap group_count c);
      low = omega arith;
      wide = omega arith;
    }

pub page_placed : (n h count end p first from size : ℕ) (ends : Bool) → room < count → Rungs n h count end → first ≡ end - group_count count → first ≤ p → p < end
    → from ≡ group_start count (p - first) → size ≡ group_end count (p - first) - from → ends ≡ eqb (suc (p - first)) (group_count count)
    → Placed n p (record { height = h; below = end; from = from; size = size; ends = ends })
page_placed n h count end p first from size ends b r ef a l e₁ e₂ e₃ =
    let below = rungs_below n h count end b r in
    let (s, t, u) = end_fits count (p - first) (omega arith) in
    let c = r.counted in
    let w = r.low in
    record {
      page = λ es e. rung_page es h count end b (r.rungs es e) p (p - first) (omega arith) (omega arith) ∙ parts es;
      within = record { few = omega arith; inside = omega arith; wide = r.wide };
      some = λ x. omega arith;
      low = omega arith;
    }
  where
    parts : (es : List Entry) → placed es p h end (group_start count (p - first)) (group_end count (p - first) - group_start count (p - first)) (eqb (suc (p - first)) (group_count count)) ≡ placed es p h end from size ends
    parts es = rw (e₁, e₂, e₃) (rw e₁ refl)

pub rungs_top : (n h count end : ℕ) → count ≤ room → Rungs n h count end → end ≡ 2
rungs_top n h count end b r = rung_top (replicate n no_entry) h count end b (r.rungs (replicate n no_entry) (length-replicate n no_entry))

pub root_placed : (n h count end p : ℕ) → count ≤ room → Rungs n h count end → 0 < p → p < end → Placed n p (record { height = h; below = end; from = 0; size = count; ends = true })
root_placed n h count end p b r a l =
    let c = r.counted in
    let w = r.low in
    let one : end ≡ 2 = rungs_top n h count end b r in
    let q : p ≡ 1 = omega arith in
    record {
      page = λ es e. rw q (rung_root es h count end b (r.rungs es e));
      within = record { few = b; inside = omega arith; wide = r.wide };
      some = λ x. clash x;
      low = omega arith;
    }
