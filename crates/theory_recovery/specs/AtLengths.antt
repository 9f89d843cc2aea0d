-- Areas of right lengths, as a call reads them: n pages and m slots, zeros read as pages never used and empty slots.
use Rattle.std.specs.Prelude.{ℕ, ◌-◌, ◌*◌, ◌≤◌, ◌≡◌, replicate}
use Rattle.std.proofs.Math.Path.{sym, ap}
use Rattle.std.proofs.Common.{◌∙◌, subst₂, arith}
use mathlib.Core.List.{List, [], ◌++◌, map}
use Rattle.std.proofs.Math.ListN.{length}
use Rattle.std.proofs.lemmas.List.{length-replicate}
use Rattle.def_layout.specs.Numbers.{zeros}
use Rattle.def_layout.specs.Pages.{zero_page, map_bits}
use Rattle.def_layout.specs.PageBytes.{page}
use Rattle.def_layout.specs.Sizes.{page_size, slot_size}
use Rattle.def_layout.specs.Records.{Rec}
use Rattle.def_model.specs.Links.{relinked}
use Rattle.def_model.specs.Areas.{zero_side}
use Rattle.def_model.specs.OnBytes.{Lent, read_work, read_lefts, read_log, read_areas}
use Rattle.theory_redo.specs.Current.{Behind}
use Rattle.theory_redo.specs.Grown.{zeros_extend, zeros_beyond, behind_grow}
use Rattle.theory_history.specs.Origin.{Origin, two_pages}
use Rattle.theory_history.specs.Start.{pages_after, length_after}
use Rattle.theory_history.specs.History.{history_now}
use Rattle.theory_history.specs.Growing.{history_grow}
use Rattle.theory_history.specs.Linking.{history_linked, links_longer}
use Rattle.theory_tree.specs.Shape.LeftLinks.{relinked_length}
use Rattle.theory_history.specs.Redoing.{Image}
use Rattle.theory_ranges.specs.Histories.{RangedHistory, ranged_now, behind_fits}
use Rattle.theory_ranges.specs.Growing.{after_longer, ranged_history_grow}
use Rattle.law_areas.specs.Lengths.{Lengths}
use Rattle.law_areas.specs.Pages.{filled, filled_length, filled_whole, pages_fit, pages_read, holds_zero_pages}
use Rattle.law_areas.specs.Working.{HoldsWork, all_links, work_whole, holds_zero_work, zero_work_read, zero_lefts_read}
use Rattle.law_areas.specs.Logs.{AllFit, log_fits, log_read, empty_log_read}
use Rattle.theory_calls.specs.LiveAreas.{Holds}
use Rattle.theory_recovery.specs.Invariant.{Sure, Live}

history_fits : (o : Origin) (n : ℕ) (log : List Rec) → RangedHistory o n log → AllFit 1 log
history_fits o n log h = (ranged_now o n log h).records

module _ (o : Origin) (n m k : ℕ) (l : Lent) (z : Lengths l n m) where
  most_bits : n ≤ map_bits
  most_bits = z.most_pages

  -- ---- the stable areas

  module _ (log : List Rec) (s : Sure o k l log) where
    pub more_pages : k ≤ n
    more_pages = let f = pages_fit n s.pages s.stored z.stable_pages in let e = s.count in omega arith

    filled_behind : Behind 1 o.base log (filled n s.pages)
    filled_behind =
        let e = s.count in
        let t = s.least in
        let u = two_pages o in
        behind_grow 1 o.base log s.pages (filled n s.pages) (zeros_extend s.pages (n - length s.pages) (omega arith)) (zeros_beyond s.pages (n - length s.pages)) (λ p h. o.beyond p (omega arith)) s.behind

    -- The same in n pages.
    pub sure_now : Sure o n l log
    sure_now =
        let g = s.least in
        let h = more_pages in
        record {
          least = omega arith;
          most = most_bits;
          pages = filled n s.pages;
          count = filled_length n s.pages (let c = s.count in omega arith);
          stored = holds_zero_pages n s.pages s.stored z.stable_pages;
          logged = s.logged;
          history = history_grow o k n s.least more_pages most_bits log s.history;
          ranged = ranged_history_grow o k n s.least more_pages log s.history s.ranged;
          behind = filled_behind;
        }

  -- ---- the working areas

  module _ (stable log : List Rec) (least : o.least ≤ k) (more : k ≤ n) (s : Live o k l stable log) where
    longer_pages : filled n (pages_after o k log) ≡ pages_after o n log
    longer_pages =
        let e = length_after o k log in
        ap (λ q. pages_after o k log ++ replicate (n - q) zero_page) e ∙ sym (after_longer o k n least more log (history_now o k log s.history).names)

    longer_links : relinked (pages_after o k log) [] ++ replicate (n - length (pages_after o k log)) 0 ≡ relinked (pages_after o n log) []
    longer_links =
        let e = length_after o k log in
        ap (λ q. relinked (pages_after o k log) [] ++ replicate (n - q) 0) e
        ∙ sym (links_longer o k n least more most_bits log s.history (after_longer o k n least more log (history_now o k log s.history).names))

    pub live_now : Live o n l stable log
    live_now =
        record {
          pages = subst₂ (HoldsWork l.work_pages) longer_pages longer_links (holds_zero_work n (pages_after o k log) (relinked (pages_after o k log) []) s.pages z.work_pages (relinked_length (pages_after o k log) []));
          logged = s.logged;
          history = history_grow o k n least more most_bits log s.history;
          ranged = ranged_history_grow o k n least more log s.history s.ranged;
          rest = s.rest;
          longer = s.longer;
          fixed = s.fixed;
        }

module _ (o : Origin) (n m : ℕ) (l : Lent) (z : Lengths l n m) where
  -- The stable areas as read are the image of the history.
  pub image : (log : List Rec) (s : Sure o n l log) → Image o n m log (read_areas l).stable
  unfolding read_areas
  image log s =
      let fit = behind_fits o n log s.pages (let e = s.count in omega arith) s.ranged s.behind in
      record {
        pages = s.pages;
        count = s.count;
        stored = pages_read n s.pages s.stored z.stable_pages fit ∙ ap (map page) (filled_whole n s.pages s.count);
        behind = s.behind;
        logged = log_read m log s.logged z.stable_log (history_fits o n log s.ranged);
        fits = log_fits m log s.logged z.stable_log;
      }

  -- The working areas as read hold the log.
  pub holding : (stable log : List Rec) (s : Live o n l stable log) → Holds o n m log (read_areas l).work
  unfolding read_areas
  holding stable log s =
      let xs = pages_after o n log in
      let ls = relinked xs [] in
      let e = length_after o n log in
      let w = relinked_length xs [] in
      let fit = all_links xs ls w (λ p h. history_linked o n z.most_pages log s.history p) (ranged_now o n log s.ranged).pages in
      let (p, f) = work_whole n xs ls s.pages z.work_pages e w fit in
      let q = log_read m log s.logged z.work_log (history_fits o n log s.ranged) in
      record { is = λ i. record { pages = p i; lefts = f i; log = q i }; fits = log_fits m log s.logged z.work_log }

module _ (n m : ℕ) (l : Lent) (z : Lengths l n m) where
  -- Zeros are read as zeros.
  pub zeros_read : (j k : ℕ) → l.work_pages ≡ zeros j → l.work_log ≡ zeros k → (read_areas l).work ≡ zero_side n m
  unfolding read_areas
  zeros_read j k a b =
      let c : j ≡ page_size * n = sym (length-replicate j 0) ∙ ap length (sym a) ∙ z.work_pages in
      let d : k ≡ slot_size * m = sym (length-replicate k 0) ∙ ap length (sym b) ∙ z.work_log in
      λ i. record { pages = (ap read_work (a ∙ ap zeros c) ∙ zero_work_read n) i; lefts = (ap read_lefts (a ∙ ap zeros c) ∙ zero_lefts_read n) i; log = (ap read_log (b ∙ ap zeros d) ∙ empty_log_read m) i }
