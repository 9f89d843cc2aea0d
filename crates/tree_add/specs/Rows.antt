-- The rows that a descent writes, from the pages that the program read.
use Rattle.std.specs.Prelude.{◌≡◌, ℕ, ◌<◌, ◌≤◌, ◌^◌, List, drop}
use Rattle.std.proofs.Math.Path.{refl, ap, sym}
use Rattle.std.proofs.Common.{◌∙◌, subst, arith}
use Rattle.def_base.specs.Tests.{neq_false}
use Rattle.def_layout.specs.declared.Entry.{Entry}
use Rattle.def_layout.specs.Entries.{key_at}
use Rattle.def_layout.specs.Pages.{Page, at}
use Rattle.def_layout.specs.Records.{Rec, kind_of, data_row, split_row, link_row, raise_row}
use Rattle.def_model.specs.Update.{Run, emit, emit_taking, split_page, link_child, raise_by, raise_root}
use Rattle.codec_page.specs.declared.Page as program
use Rattle.law_bytes.specs.PageBytes.{Fits}
use Rattle.law_areas.specs.Pages.{fits_past}
use Rattle.law_widths.specs.Each.{each_drop}
use Rattle.law_widths.specs.Fine.{Fine, fine_at}
use Rattle.law_bytes.specs.EntryBytes.{used, EntryFits}
use Rattle.law_widths.specs.Acting.{fits_fine}
use Rattle.law_widths.specs.Rows.{batched_low, data_narrow, split_narrow, link_narrow, raise_narrow}
use Rattle.record_pages.specs.Pages.{Reads}
use Rattle.tree_write.specs.declared.Run as run
use Rattle.tree_write.specs.Shows.{Shows, Keeping, narrow_keeping}
use Rattle.tree_add.specs.Rooms.{high_is, right_is, level_is}

-- A split's row, from the page's level, high key, right link and entries.
abbrev pub split_from : (level high right : ℕ) → List Entry → (p b : ℕ) → Rec
split_from level high right es p b = split_row level p b (key_at es 6) high right (drop 7 es)

-- A page that a run shows keeps its widths.
pub shows_fits : {n m : ℕ} {wp wl : List ℕ} {t : run.Run} {s : Run} → Shows n m wp wl t s → (p : ℕ) → Fits (at s.pages p)
shows_fits {s = s} h p = fits_past s.pages h.pages.fits p

module _ {n m : ℕ} {wp wl : List ℕ} {t : run.Run} {s : Run} (h : Shows n m wp wl t s) (few : m ≤ 16384) where
  -- A split's.
  module _ (p : ℕ) (x : program.Page) (q : Reads x (at s.pages p)) where
    abbrev pub split_here : ℕ → Rec
    split_here b = let y = at s.pages p in split_from y.level y.high y.right y.entries p b

    pub split_is : (b : ℕ) (r : Rec) → r ≡ split_from x.level x.high x.right (used x.count x.entries) p b → split_here b ≡ r
    split_is b r g = sym (g ∙ rw (level_is q, high_is q, right_is q, q.list))

    pub split_keeping : (b : ℕ) (r : Rec) → b < 1024 → split_here b ≡ r → Keeping m t r
    split_keeping b r l e =
        let y : Page = at s.pages p in
        let f : Fits y = shows_fits h p in
        let fine : Fine y.entries = fits_fine y f in
        subst (Keeping m t) e
        (narrow_keeping t (split_here b) few
        (split_narrow _ p b (key_at y.entries 6) _ _ _ l (fine_at y.entries fine 6).0 f.high f.right (each_drop EntryFits 7 y.entries fine)))

    pub split_goes : emit_taking split_here p s ≡ split_page p s
    unfolding split_page
    split_goes = refl

  -- A link's.
  module _ (p q w : ℕ) (x : program.Page) (d : Reads x (at s.pages q)) (r : Rec) (g : r ≡ link_row p q x.right x.high w) where
    pub link_is : emit r s ≡ link_child p q w s
    unfolding link_child
    link_is = ap (λ (z : Rec). emit z s) (g ∙ rw (right_is d, high_is d))

    pub link_keeping : q < 2 ^ 32 → w < 2 ^ 32 → Keeping m t r
    link_keeping a b =
        let f : Fits (at s.pages q) = shows_fits h q in
        let e : x.right < 1024 = subst (λ (i : ℕ). i < 1024) (sym (right_is d)) f.right in
        subst (Keeping m t) (sym g)
        (narrow_keeping t _ few (link_narrow p q x.right x.high w a (omega arith) (subst (λ (i : ℕ). i < 2 ^ 32) (sym (high_is d)) f.high) b))

  -- A raise's.
  module _ (x : program.Page) (q : Reads x (at s.pages 1)) where
    abbrev pub raise_of : ℕ → Rec
    raise_of c = let y = at s.pages 1 in raise_row y.level y.right c y.high y.entries

    pub raise_is : (c : ℕ) (es : List Entry) (r : Rec) → es ≡ used x.count x.entries → r ≡ raise_row x.level x.right c x.high es → raise_of c ≡ r
    raise_is c es r e g = sym (g ∙ rw (level_is q, right_is q, high_is q, e, q.list))

    pub raise_keeping : (c : ℕ) (r : Rec) → c < 1024 → raise_of c ≡ r → Keeping m t r
    raise_keeping c r l e =
        let f : Fits (at s.pages 1) = shows_fits h 1 in
        subst (Keeping m t) e (narrow_keeping t (raise_of c) few (raise_narrow _ _ c _ _ f.right l f.high (fits_fine (at s.pages 1) f)))

    pub raise_goes : (x.right ≡ 0 → ⊥) → emit_taking raise_of 1 s ≡ raise_root s
    unfolding raise_root raise_by
    raise_goes r = sym (rw (neq_false (λ z. r (right_is q ∙ z))))

  -- A data record's.
  pub data_keeping : (kind batch previous a k v : ℕ) (r : Rec) → kind < 9 → k < 2 ^ 32 → v < 2 ^ 32 → r ≡ data_row (kind_of kind) batch previous a k v → Keeping m t r
  data_keeping kind batch previous a k v r l f g e =
      subst (Keeping m t) (sym e) (narrow_keeping t _ few (data_narrow (kind_of kind) batch previous a k v (batched_low kind l) f g))
