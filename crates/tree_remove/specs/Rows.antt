-- The rows that a join writes, from the pages that the program read: which run they lead to, and that pages keep their widths.
use Rattle.std.specs.Prelude.{◌≡◌, ℕ, ◌+◌, ◌<◌, ◌≤◌, ◌^◌, Bool, List, ◌++◌, length, take}
use Rattle.std.proofs.Math.Path.{ap, ap₂, sym}
use Rattle.std.proofs.Common.{◌∙◌, subst}
use Rattle.std.proofs.Math.Bool.{true, false}
use Rattle.std.proofs.Math.Dec.{leb}
use Rattle.def_base.specs.Tests.{le_true, le_false}
use Rattle.def_layout.specs.declared.Entry.{Entry}
use Rattle.def_layout.specs.Sizes.{room}
use Rattle.def_layout.specs.Pages.{at, size}
use Rattle.def_layout.specs.Records.{Rec, unlink_row, merge_row, redistribute_row, lower_row}
use Rattle.def_model.specs.Update.{Run, emit, share, moved_by, link_child, join_by, join, unlink_join, lower_root}
use Rattle.codec_page.specs.declared.Page as program
use Rattle.law_bytes.specs.PageBytes.{Fits}
use Rattle.law_bytes.specs.EntryBytes.{used, EntryFits}
use Rattle.law_widths.specs.Each.{each_append, each_take, each_drop}
use Rattle.law_widths.specs.Fine.{Fine, fine_at}
use Rattle.law_widths.specs.Acting.{fits_fine}
use Rattle.law_widths.specs.Rows.{unlink_narrow, merge_narrow, redistribute_narrow, lower_narrow}
use Rattle.record_pages.specs.Pages.{Reads, reads_count}
use Rattle.tree_write.specs.declared.Run as run
use Rattle.tree_write.specs.Shows.{Shows, Keeping, narrow_keeping}
use Rattle.tree_add.specs.Rooms.{high_is, right_is, level_is}
use Rattle.tree_add.specs.Rows.{shows_fits}
use Rattle.tree_remove.specs.Shares.{moved_of, shared_key}

fine_moved : (t : Bool) (a b : List Entry) → Fine a → Fine b → Fine (moved_by t a b)
unfolding moved_by
fine_moved true a b f g = each_drop EntryFits (length a) (take (share a b) (a ++ b)) (each_take EntryFits (share a b) (a ++ b) (each_append EntryFits a b f g))
fine_moved false a b f g = each_drop EntryFits (share a b) a f

module _ {n m : ℕ} {wp wl : List ℕ} {t : run.Run} {s : Run} (h : Shows n m wp wl t s) (few : m ≤ 16384) where
  -- The pages l and r that are joined.
  module _ (p l r : ℕ) (x y : program.Page) (a : Reads x (at s.pages l)) (b : Reads y (at s.pages r)) (row : Rec) where
    sum_is : x.count + y.count ≡ size (at s.pages l) + size (at s.pages r)
    sum_is = ap₂ (λ (i j : ℕ). i + j) (reads_count a) (reads_count b)

    -- A merge's.
    module _ (es : List Entry) (e : es ≡ used y.count y.entries) (g : row ≡ merge_row l r y.high y.right es) where
      merge_shown : row ≡ merge_row l r (at s.pages r).high (at s.pages r).right (at s.pages r).entries
      merge_shown = g ∙ rw (high_is b, right_is b, e, b.list)

      pub merge_is : (w : ℕ) → x.count + y.count ≤ 14 → emit row s ≡ join p l r w s
      unfolding join join_by
      merge_is w c =
          let z : leb (size (at s.pages l) + size (at s.pages r)) room ≡ true = le_true _ _ (subst (λ (i : ℕ). i ≤ 14) sum_is c) in
          ap (λ (q : Rec). emit q s) merge_shown ∙ sym (rw z)

      pub merge_keeping : r < 2 ^ 32 → Keeping m t row
      merge_keeping q =
          let f : Fits (at s.pages r) = shows_fits h r in
          subst (Keeping m t) (sym merge_shown) (narrow_keeping t _ few (merge_narrow l r _ _ _ q f.high f.right (fits_fine (at s.pages r) f)))

    -- A redistribution's, and the link that comes after it.
    module _ (k : ℕ) (es : List Entry) (i : k ≡ shared_key (used x.count x.entries) (used y.count y.entries))
        (e : es ≡ moved_of (used x.count x.entries) (used y.count y.entries)) (g : row ≡ redistribute_row l r k es) where
      abbrev left : List Entry
      left = (at s.pages l).entries

      abbrev right : List Entry
      right = (at s.pages r).entries

      redistribute_shown : row ≡ redistribute_row l r (shared_key left right) (moved_of left right)
      redistribute_shown = g ∙ rw (i, e, a.list, b.list)

      pub redistribute_is : (w : ℕ) → 14 < x.count + y.count → link_child p l w (emit row s) ≡ join p l r w s
      unfolding join join_by
      redistribute_is w c =
          let z : leb (size (at s.pages l) + size (at s.pages r)) room ≡ false = le_false _ _ (subst (λ (i : ℕ). 14 < i) sum_is c) in
          ap (λ (q : Rec). link_child p l w (emit q s)) redistribute_shown ∙ sym (rw z)

      pub redistribute_keeping : r < 2 ^ 32 → Keeping m t row
      redistribute_keeping q =
          let f : Fine left = fits_fine (at s.pages l) (shows_fits h l) in
          let d : Fine right = fits_fine (at s.pages r) (shows_fits h r) in
          subst (Keeping m t) (sym redistribute_shown)
          (narrow_keeping t _ few (redistribute_narrow l r _ _ q (fine_at (left ++ right) (each_append EntryFits left right f d) _).0 (fine_moved _ left right f d)))

    -- An unlink's, and the join that comes after it.
    module _ (g : row ≡ unlink_row p l r x.high y.high) where
      unlink_shown : row ≡ unlink_row p l r (at s.pages l).high (at s.pages r).high
      unlink_shown = g ∙ rw (high_is a, high_is b)

      pub unlink_is : join p l r y.high (emit row s) ≡ unlink_join p l r s
      unfolding unlink_join
      unlink_is = ap₂ (λ (w : ℕ) (q : Rec). join p l r w (emit q s)) (high_is b) unlink_shown

      pub unlink_keeping : l < 2 ^ 32 → r < 2 ^ 32 → Keeping m t row
      unlink_keeping i j =
          subst (Keeping m t) (sym unlink_shown) (narrow_keeping t _ few (unlink_narrow p l r _ _ i j (shows_fits h l).high (shows_fits h r).high))

  -- A lower's.
  module _ (q : ℕ) (x : program.Page) (a : Reads x (at s.pages q)) (es : List Entry) (e : es ≡ used x.count x.entries) (row : Rec) (g : row ≡ lower_row x.level q es) where
    lower_shown : row ≡ lower_row (at s.pages q).level q (at s.pages q).entries
    lower_shown = g ∙ rw (level_is a, e, a.list)

    pub lower_is : emit row s ≡ lower_root q s
    unfolding lower_root
    lower_is = ap (λ (z : Rec). emit z s) lower_shown

    pub lower_keeping : q < 2 ^ 32 → Keeping m t row
    lower_keeping i =
        subst (Keeping m t) (sym lower_shown) (narrow_keeping t _ few (lower_narrow _ q _ i (fits_fine (at s.pages q) (shows_fits h q))))
