-- An area that shows typed pages, and a page of it by value.
use Rattle.std.specs.Prelude.{◌≡◌, ◌≢◌, ℕ, ◌*◌, ◌<◌, ◌≤◌, min, set}
use Rattle.std.proofs.Math.Path.{ap, sym}
use Rattle.std.proofs.Common.{◌∙◌, subst, arith, length-set}
use mathlib.Core.List.{List, [], map}
use Rattle.std.proofs.Math.ListN.{length}
use Rattle.std.proofs.Math.Seq.{set_out}
use Rattle.def_layout.specs.declared.Entry.{Entry}
use Rattle.def_layout.specs.Entries.{entry_at}
use Rattle.def_layout.specs.Pages.{Page, at}
use Rattle.def_layout.specs.declared.page.PageKind.{PageKind}
use Rattle.def_layout.specs.declared.page.PageKind.TheVariants.{Map}
use Rattle.def_layout.specs.PageBytes.{page, page_bytes}
use Rattle.def_model.specs.OnBytes.{work_bytes}
use Rattle.def_layout.specs.Sizes.{page_size}
use Rattle.def_layout.specs.Numbers.{tab}
use Rattle.law_bytes.specs.Patch.{patch}
use Rattle.law_bytes.specs.Tables.{tab_length}
use Rattle.law_bytes.specs.EntryBytes.{used}
use Rattle.codec_page.specs.declared.Page as program
use Rattle.codec_page.specs.Typed.{typed, used_entries, used_entries_node}
use Rattle.law_bytes.specs.PageBytes.{Fits, fits_count}
use Rattle.law_bytes.specs.PageAreas.{pages_of, pages_bytes}
use Rattle.law_areas.specs.Pages.{AllPagesFit, fits_past, fits_set}
use Rattle.law_areas.specs.Working.{AllLinks, paired}
use Rattle.law_areas.specs.WorkPages.{work_shown, work_put, work_put_links, paired_past, work_past, work_bare, bare_links}

-- The area's n pages are those of the list, with these left links, and each keeps its fields' widths. (A page past the links has none.)
pub record Pages (n : ℕ) (area : List ℕ) (xs : List Page) (ls : List ℕ) : Type 0 where
  pub bytes : area ≡ work_bytes (map page xs) ls
  pub links : AllLinks (paired xs ls)
  pub fits : AllPagesFit xs
  pub size : length xs ≡ n

-- What the area shows is the list.
pub pages_shown : {n : ℕ} {area : List ℕ} {xs : List Page} {ls : List ℕ} → Pages n area xs ls → pages_of n area ≡ xs
pages_shown {n} {area} {xs} {ls} h =
    ap (pages_of n) h.bytes ∙ ap (λ (k : ℕ). pages_of k (work_bytes (map page xs) ls)) (sym h.size) ∙ work_shown xs ls h.links

-- ---- a page by value

-- It stands for a typed page, and its count is that of the typed page's entries.
pub record Reads (x : program.Page) (y : Page) : Type 0 where
  pub is : typed x ≡ y
  pub list : used x.count x.entries ≡ y.entries

pub reads_count : {x : program.Page} {y : Page} → Reads x y → x.count ≡ length y.entries
reads_count {x} {y} h = sym (tab_length x.count (entry_at x.entries)) ∙ ap length h.list

-- The page read, with another count.
abbrev pub with_count : ℕ → program.Page → program.Page
with_count n x =
    record { kind = x.kind; level = x.level; count = n; right = x.right; high = x.high; lsn = x.lsn; own = x.own; entries = x.entries }

module _ {n : ℕ} {area : List ℕ} (p : ℕ) (x : program.Page) (shown : typed x ≡ at (pages_of n area) p) where
  at_shown : {xs : List Page} {ls : List ℕ} → Pages n area xs ls → typed x ≡ at xs p
  at_shown h = shown ∙ ap (λ (l : List Page). at l p) (pages_shown h)

  -- The map has no entries, whatever its count says.
  pub reads_map : x.kind ≡ Map → (xs : List Page) (ls : List ℕ) → Pages n area xs ls → Reads (with_count 0 x) (at xs p)
  unfolding typed tab used_entries
  reads_map k xs ls h =
      let none : (m : ℕ) → used_entries x.kind m x.entries ≡ [] = λ m. ap (λ (q : PageKind). used_entries q m x.entries) k in
      record {
        is = ap (λ (l : List Entry). record { kind = x.kind; level = x.level; right = x.right; high = x.high; lsn = x.lsn; own = x.own; entries = l; marks = (typed x).marks }) (none 0 ∙ sym (none x.count)) ∙ at_shown h;
        list = sym (none x.count) ∙ ap (λ (y : Page). y.entries) (at_shown h);
      }

  -- No other page of the list has more than 14.
  pub reads_node : x.kind ≢ Map → (xs : List Page) (ls : List ℕ) → Pages n area xs ls → Reads (with_count (min 14 x.count) x) (at xs p)
  unfolding typed
  reads_node k xs ls h =
      let e : used x.count x.entries ≡ (at xs p).entries = sym (used_entries_node x.count x.entries x.kind k) ∙ ap (λ (y : Page). y.entries) (at_shown h) in
      let few : x.count ≡ min 14 x.count = omega (arith, fits_count (at xs p) (fits_past xs h.fits p), ap length e, tab_length x.count (entry_at x.entries)) in
      subst (λ (m : ℕ). Reads (with_count m x) (at xs p)) few (record { is = at_shown h; list = e })

-- ---- a page written

pub pages_put : {n : ℕ} {area area' : List ℕ} (p : ℕ) (x : Page) → p < n → area' ≡ patch area (page_size * p) (page_bytes x) → (xs : List Page) (ls : List ℕ) → Pages n area xs ls → Fits x
    → Pages n area' (set xs p x) (set ls p 0)
pages_put {n} {area} {area'} p x l e xs ls h f =
    record {
      bytes = e ∙ ap (λ (b : List ℕ). patch b (page_size * p) (page_bytes x)) h.bytes ∙ sym (work_put xs ls p x (subst (λ (k : ℕ). p < k) (sym h.size) l));
      links = work_put_links xs ls p x f h.links;
      fits = fits_set xs p x f h.fits;
      size = length-set xs p x ∙ h.size;
    }

-- Past the last page neither bytes nor links change.
pub pages_past : {n : ℕ} {area : List ℕ} (p : ℕ) (x : Page) → n ≤ p → (xs : List Page) (ls : List ℕ) → Pages n area xs ls → Pages n area (set xs p x) (set ls p 0)
pages_past {n} {area} p x l xs ls h =
    let far : length xs ≤ p = subst (λ (k : ℕ). k ≤ p) (sym h.size) l in
    record {
      bytes = h.bytes ∙ sym (work_past xs ls p x far);
      links = subst AllLinks (sym (paired_past xs ls p x far)) h.links;
      fits = subst AllPagesFit (sym (set_out xs p x far)) h.fits;
      size = length-set xs p x ∙ h.size;
    }

-- ---- without left links

pub bare_pages : {n : ℕ} {area : List ℕ} (xs : List Page) → area ≡ pages_bytes xs → AllPagesFit xs → length xs ≡ n → Pages n area xs []
bare_pages xs e f z = record { bytes = e ∙ sym (work_bare xs); links = bare_links xs f; fits = f; size = z }

pub bare_bytes : {n : ℕ} {area : List ℕ} (xs : List Page) → Pages n area xs [] → area ≡ pages_bytes xs
bare_bytes xs h = h.bytes ∙ work_bare xs
