-- Records that are done at once: those that change no page, and inserts and deletes at the bytes of their page.
use Rattle.std.specs.Prelude.{◌≡◌, refl, ℕ, zero, suc, ◌+◌, ◌-◌, ◌*◌, ◌/◌, ◌%◌, ◌<◌, ◌≤◌, Bool, length, get_or, take, drop}
use Rattle.std.proofs.Math.Path.{ap, sym, subst}
use Rattle.std.proofs.Common.{◌∙◌, mul-zero, arith, take-append-drop, take_at}
use Rattle.std.proofs.Math.Nat.{add-sub_cancel_left}
use Rattle.std.proofs.Math.Decide.{dec_lt}
use Rattle.std.proofs.Math.Bool.{true, false}
use mathlib.Core.List.{List, [], ◌∷◌, ◌++◌}
use Rattle.std.proofs.Math.ListN.{set}
use Rattle.std.proofs.Math.Seq.{drop-append-add}
use Rattle.std.proofs.lemmas.List.{set-get_or}
use Rattle.def_base.specs.Tests.{clash, lt_true, lt_false, eq_true}
use Rattle.def_layout.specs.Pages.{Page, at, zero_page}
use Rattle.def_layout.specs.PageBytes.{page_bytes}
use Rattle.def_layout.specs.declared.Entry.{Entry}
use Rattle.def_layout.specs.Entries.{entry_at, no_entry}
use Rattle.def_layout.specs.Numbers.{be32, tab, read_entry, same_bytes, zeros}
use Rattle.def_layout.specs.Records.{Rec, Kind, kind_of}
use Rattle.def_layout.specs.RecordBytes.{empty, full, record_bytes, record_fields, full_by, slot_by, read_slot}
use Rattle.def_layout.specs.Sizes.{page_size, slot_size}
use Rattle.def_model.specs.Change.{changes, shape, Role, as_a, role, act, with_lsn, cut_to_size, change_a, change}
use Rattle.def_model.specs.Fit.{fits_role, fits_a, fits}
use Rattle.def_model.specs.Redo.{when_named, places, is_lower, redo_at, redo_page, redo_places, count_places, fits_places}
use Rattle.law_bytes.specs.Words.{part}
use Rattle.law_bytes.specs.Patch.{patch, patch_back}
use Rattle.law_bytes.specs.Pieces.{write_all, read_all_at}
use Rattle.law_bytes.specs.PageBytes.{page_bytes_length, word_8}
use Rattle.law_bytes.specs.PageAreas.{pages_bytes}
use Rattle.law_bytes.specs.Tables.{tab_length, tab_same, getD_tab}
use Rattle.law_bytes.specs.EntryBytes.{used}
use Rattle.law_bytes.specs.LogAreas.{slots_of}
use Rattle.codec_slot.specs.Typed.{rec_of}
use Rattle.law_areas.specs.Pages.{fits_past}
use Rattle.record_apply.specs.declared.Record.{Record}
use Rattle.record_apply.specs.Pages.{rec}
use Rattle.record_leaf.specs.Leaves.{Does}
use Rattle.record_pages.specs.Pages.{Pages, pages_put, bare_bytes}
use Rattle.record_pages.specs.Records.{Keeps}
use Rattle.record_redo.specs.Outcomes.{Counted, pair, none_count, one_record, followed_nothing}
use Rattle.record_redo.specs.Slots.{Tells, is_full, full_record}

-- DONE, of whatever record stands in slot i and of whatever pages the area shows: every change fits, and so many were applied.
abbrev pub Done : ℕ → ℕ → List ℕ → List ℕ → ℕ → List ℕ → ℕ → Type 0
Done n m pages log i after count =
    (xs : List Page) (own : ℕ) (q : Rec) → Pages n pages xs [] → get_or (slots_of m log) i empty ≡ full own q → Keeps (i + 1) q
    → Counted n after count (one_record (i + 1) q xs)

-- The i-th part of width w, as it is lent; as it was again; and come back.
abbrev pub lent : ℕ → ℕ → List ℕ → List ℕ
lent w i s = take (w * i + w - w * i) (drop (w * i) s)

abbrev pub back : ℕ → ℕ → List ℕ → List ℕ → List ℕ
back w i s b = take (w * i) s ++ (b ++ drop (w * i + w - w * i) (drop (w * i) s))

lent_part : (w i : ℕ) (s : List ℕ) → lent w i s ≡ part s (w * i) w
lent_part w i s = ap (λ (k : ℕ). take k (drop (w * i) s)) (add-sub_cancel_left (w * i) w)

pub as_part : (w i : ℕ) (s : List ℕ) (j : ℕ) {x : ℕ} → x ≡ be32 (lent w i s) j → x ≡ be32 (part s (w * i) w) j
as_part w i s j e = e ∙ ap (λ (b : List ℕ). be32 b j) (lent_part w i s)

pub lent_back : (w i : ℕ) (s b : List ℕ) → b ≡ lent w i s → back w i s b ≡ s
lent_back w i s b h = came_back s b (w * i) (w * i + w) h
  where
    came_back : (s b : List ℕ) (a e : ℕ) → b ≡ take (e - a) (drop a s) → take a s ++ (b ++ drop (e - a) (drop a s)) ≡ s
    came_back s b a e h =
        ap (λ (r : List ℕ). take a s ++ (r ++ drop (e - a) (drop a s))) h ∙ ap (λ (r : List ℕ). take a s ++ r) (take-append-drop (e - a) (drop a s)) ∙ take-append-drop a s

-- ---- the record that a slot's bytes show

fields_shown : (b : List ℕ) (own : ℕ) (q : Rec) → read_slot b ≡ full own q → q ≡ record_fields b
unfolding read_slot slot_by full_by is_full
fields_shown b own q e = go (same_bytes (zeros slot_size) b) e
  where
    by : (t : Bool) → full_by t b ≡ full own q → q ≡ record_fields b
    by true e = full_record (sym e)
    by false e = clash (sym (ap is_full e))

    go : (t : Bool) → slot_by t b ≡ full own q → q ≡ record_fields b
    go true e = clash (sym (ap is_full e))
    go false e = by (same_bytes (record_bytes (be32 b 4) (record_fields b)) b) e

module _ (m i : ℕ) (log : List ℕ) (h : i < m) (own : ℕ) (q : Rec) (stands : get_or (slots_of m log) i empty ≡ full own q) where
  abbrev slot : List ℕ
  slot = part log (slot_size * i) slot_size

  shown : q ≡ record_fields slot
  shown = fields_shown slot own q (sym (read_all_at slot_size read_slot m i log empty h) ∙ stands)

  pub kind_shown : (w : ℕ) → w ≡ be32 slot 0 → q.kind ≡ kind_of (w / 268435456)
  unfolding record_fields
  kind_shown w e = ap (λ (r : Rec). r.kind) shown ∙ ap (λ (n : ℕ). kind_of (n / 268435456)) (sym e)

  pub page_shown : (w : ℕ) → w ≡ be32 slot 16 → q.pageA ≡ w / 4194304
  unfolding record_fields
  page_shown w e = ap (λ (r : Rec). r.pageA) shown ∙ ap (λ (n : ℕ). n / 4194304) (sym e)

  pub key_shown : (w : ℕ) → w ≡ be32 slot 20 → q.key ≡ w
  unfolding record_fields
  key_shown w e = ap (λ (r : Rec). r.key) shown ∙ sym e

  pub second_shown : (w : ℕ) → w ≡ be32 slot 24 → q.second ≡ w
  unfolding record_fields
  second_shown w e = ap (λ (r : Rec). r.second) shown ∙ sym e

-- The program's record of a slot's bytes, its count cut to 14.
pub fields_read : (b : List ℕ) (w p batch previous key second right n : ℕ) (es : List Entry) → w ≡ be32 b 0 → p ≡ be32 b 16 → es ≡ tab 14 (read_entry b 32) → batch ≡ be32 b 8 → previous ≡ be32 b 12
    → key ≡ be32 b 20 → second ≡ be32 b 24 → right ≡ be32 b 28 → (w / 16777216 % 16 ≤ 14 → n ≡ w / 16777216 % 16) → be32 b 0 / 16777216 % 16 ≤ 14
    → rec_of (w / 268435456) n (w / 1048576 % 16) batch previous (p / 4194304) (p / 4096 % 1024) (p / 4 % 1024) key second (right / 4194304) es ≡ record_fields b
unfolding record_fields
fields_read b w p batch previous key second right n es ew ep ee eb ev ek es' er cut few =
    let k : w / 16777216 % 16 ≤ 14 = subst (λ (x : ℕ). x / 16777216 % 16 ≤ 14) (sym ew) few in
    let m : n ≡ be32 b 0 / 16777216 % 16 = cut k ∙ ap (λ (x : ℕ). x / 16777216 % 16) ew in
    let same : used (be32 b 0 / 16777216 % 16) (tab 14 (read_entry b 32)) ≡ tab (be32 b 0 / 16777216 % 16) (read_entry b 32) =
    tab_same (be32 b 0 / 16777216 % 16) (entry_at (tab 14 (read_entry b 32))) (read_entry b 32) (λ i q. getD_tab 14 i (read_entry b 32) no_entry (omega (arith, q, few))) in
    rw (m, ew, ep, ee, eb, ev, ek, es', er, same)

pub record_tells : (m i : ℕ) (log : List ℕ) (r : Record) → i < m → (be32 (lent slot_size i log) 0 / 16777216 % 16 ≤ 14 → rec r ≡ record_fields (lent slot_size i log)) → Tells m log i r
unfolding record_fields
record_tells m i log r h f own q stands few =
    let s : q ≡ record_fields (part log (slot_size * i) slot_size) = shown m i log h own q stands in
    let k : be32 (part log (slot_size * i) slot_size) 0 / 16777216 % 16 ≤ 14 =
    omega (arith, few, ap (λ (x : Rec). length x.entries) s, tab_length (be32 (part log (slot_size * i) slot_size) 0 / 16777216 % 16) (read_entry (part log (slot_size * i) slot_size) 32)) in
    subst (λ (b : List ℕ). be32 b 0 / 16777216 % 16 ≤ 14 → rec r ≡ record_fields b) (lent_part slot_size i log) f k ∙ sym s

-- ---- no page

pub no_page : (n m i w : ℕ) (pages log : List ℕ) → i < m → w ≡ be32 (part log (slot_size * i) slot_size) 0 → shape (kind_of (w / 268435456)) ≡ changes false false false false
    → Done n m pages log i pages 0
unfolding places when_named redo_places count_places fits_places
no_page n m i w pages log h e s xs own q shows stands keeps =
    let z : shape q.kind ≡ changes false false false false = ap shape (kind_shown m i log h own q stands w e) ∙ s in
    subst (Counted n pages 0) (rw z refl) (none_count xs shows)

-- ---- one page

page_part : (xs : List Page) (p : ℕ) → p < length xs → part (pages_bytes xs) (page_size * p) page_size ≡ page_bytes (at xs p)
unfolding write_all
page_part [] p h = absurd (omega arith)
page_part (x ∷ xs) zero h =
    ap (λ (k : ℕ). part (page_bytes x ++ pages_bytes xs) k page_size) (mul-zero page_size) ∙ take_at (page_bytes x) (pages_bytes xs) page_size (page_bytes_length x)
page_part (x ∷ xs) (suc p) h =
    let e : page_size * suc p ≡ length (page_bytes x) + page_size * p = omega (arith, page_bytes_length x) in
    ap (λ (k : ℕ). part (page_bytes x ++ pages_bytes xs) k page_size) e ∙ ap (take page_size) (drop-append-add (page_bytes x) (pages_bytes xs) (page_size * p))
    ∙ page_part xs p (omega arith)

module _ {n : ℕ} {pages : List ℕ} (xs : List Page) (shows : Pages n pages xs []) (p : ℕ) (h : p < n) where
  pub page_stands : part pages (page_size * p) page_size ≡ page_bytes (at xs p)
  page_stands = ap (λ (b : List ℕ). part b (page_size * p) page_size) (bare_bytes xs shows) ∙ page_part xs p (omega (arith, shows.size))

  pub lsn_stands : (w : ℕ) → w ≡ be32 (part pages (page_size * p) page_size) 8 → w ≡ (at xs p).lsn
  lsn_stands w e = e ∙ ap (λ (b : List ℕ). be32 b 8) page_stands ∙ word_8 (at xs p) (fits_past xs shows.fits p).lsn

-- A record that changes its page A alone.
module _ (k : ℕ) (q : Rec) (xs : List Page) (alone : shape q.kind ≡ changes true false false false) where
  one_page : one_record k q xs ≡ pair k q q.pageA xs
  unfolding places when_named redo_places count_places fits_places
  one_page = rw alone (followed_nothing (pair k q q.pageA xs))

  pub is_as_a : role q q.pageA ≡ as_a
  unfolding role
  is_as_a = rw (alone, eq_true q.pageA q.pageA refl)

  pub act_is : (x : Page) → act q.pageA k q x ≡ with_lsn k (cut_to_size (change_a q.kind q x))
  unfolding change
  act_is x = ap (λ (r : Role). with_lsn k (cut_to_size (change q r x))) is_as_a

  pub fits_is : (x : Page) → fits q.pageA q x ≡ fits_a q.kind q x
  unfolding fits_role
  fits_is x = ap (λ (r : Role). fits_role q r x) is_as_a

  module _ {n : ℕ} {pages : List ℕ} (shows : Pages n pages xs []) where
    -- Its number is not lower.
    pub higher : k ≤ (at xs q.pageA).lsn → Counted n pages 0 (one_record k q xs)
    unfolding redo_page redo_at
    higher l =
        let t : is_lower k q.pageA xs ≡ false = lt_false (at xs q.pageA).lsn k l in
        let c : redo_page k q q.pageA xs ≡ set xs q.pageA (at xs q.pageA) = rw t in
        subst (Counted n pages 0) (sym one_page)
        (record { fits = rw t refl; counts = rw t refl; pages = subst (λ (ys : List Page). Pages n pages ys []) (sym (set-get_or xs q.pageA zero_page) ∙ sym c) shows })

    -- It is lower, the page fits, and its bytes are those of the page that the change makes.
    pub made : {after : List ℕ} → q.pageA < n → (at xs q.pageA).lsn < k → fits_a q.kind q (at xs q.pageA) ≡ true
        → after ≡ patch pages (page_size * q.pageA) (page_bytes (with_lsn k (cut_to_size (change_a q.kind q (at xs q.pageA))))) → Keeps k q
        → Counted n after 1 (one_record k q xs)
    unfolding redo_page redo_at
    made {after} h l f e keeps =
        let x : Page = at xs q.pageA in
        let t : is_lower k q.pageA xs ≡ true = lt_true x.lsn k l in
        let c : redo_page k q q.pageA xs ≡ set xs q.pageA (act q.pageA k q x) = rw t in
        subst (Counted n after 1) (sym one_page)
        (record {
          fits = rw t (fits_is x ∙ f);
          counts = rw t refl;
          pages = subst (λ (ys : List Page). Pages n after ys []) (sym c) (pages_put q.pageA (act q.pageA k q x) h (e ∙ ap (λ (y : Page). patch pages (page_size * q.pageA) (page_bytes y)) (sym (act_is x))) xs [] shows (keeps q.pageA x (fits_past xs shows.fits q.pageA)));
        })

-- ---- inserts and deletes

alone_of : (kind : ℕ) → 2 ≤ kind → kind ≤ 3 → shape (kind_of kind) ≡ changes true false false false
unfolding kind_of
alone_of kind l h =
    elim (dec_lt kind 3) [
      | yes q ↦ let e : kind ≡ 2 = omega arith in ap (λ (k : ℕ). shape (kind_of k)) e
      | no q ↦ let e : kind ≡ 3 = omega arith in ap (λ (k : ℕ). shape (kind_of k)) e
    ]

-- An insert or a delete in slot i, told by the slot's words: its kind, its page p, and that page's log number l.
pub record Slide (n m i : ℕ) (pages log : List ℕ) (kind p l : ℕ) : Type 0 where
  pub slot : i < m
  pub kind_told : kind ≡ be32 (part log (slot_size * i) slot_size) 0 / 268435456
  pub low : 2 ≤ kind
  pub high : kind ≤ 3
  pub page_told : p ≡ be32 (part log (slot_size * i) slot_size) 16 / 4194304
  pub page : p < n
  pub number : l ≡ be32 (part pages (page_size * p) page_size) 8

module _ {n m i kind p l : ℕ} {pages log : List ℕ} (g : Slide n m i pages log kind p l) where
  module _ (own : ℕ) (q : Rec) (stands : get_or (slots_of m log) i empty ≡ full own q) where
    kind_is : q.kind ≡ kind_of kind
    kind_is = kind_shown m i log g.slot own q stands _ refl ∙ ap kind_of (sym g.kind_told)

    alone : shape q.kind ≡ changes true false false false
    alone = ap shape kind_is ∙ alone_of kind g.low g.high

    at_page : q.pageA ≡ p
    at_page = page_shown m i log g.slot own q stands _ refl ∙ sym g.page_told

  -- The page is newer.
  pub slide_higher : i + 1 ≤ l → Done n m pages log i pages 0
  slide_higher ge xs own q shows stands keeps =
      higher (i + 1) q xs (alone own q stands) shows
      (subst (λ (j : ℕ). i + 1 ≤ (at xs j).lsn) (sym (at_page own q stands)) (subst (λ (j : ℕ). i + 1 ≤ j) (lsn_stands xs shows p g.page l g.number) ge))

  -- The change is made.
  pub slide_done : (k s : ℕ) (done : Bool) (b : List ℕ) → l < i + 1 → k ≡ be32 (part log (slot_size * i) slot_size) 20 → s ≡ be32 (part log (slot_size * i) slot_size) 24
      → Does (kind_of kind) (i + 1) k s (lent page_size p pages) done b → done ≡ true → Done n m pages log i (back page_size p pages b) 1
  slide_done k s done b lt e20 e24 does is xs own q shows stands keeps =
      let e : q.pageA ≡ p = at_page own q stands in
      let x : Page = at xs p in
      let d = does.1 x q (lent_part page_size p pages ∙ page_stands xs shows p g.page) (fits_past xs shows.fits p) (key_shown m i log g.slot own q stands k e20) (second_shown m i log g.slot own q stands s e24) is in
      let kinds : q.kind ≡ kind_of kind = kind_is own q stands in
      let size : length b ≡ page_size = ap length d.1 ∙ page_bytes_length _ in
      made (i + 1) q xs (alone own q stands) shows (subst (λ (j : ℕ). j < n) (sym e) g.page)
      (subst (λ (j : ℕ). (at xs j).lsn < i + 1) (sym e) (subst (λ (j : ℕ). j < i + 1) (lsn_stands xs shows p g.page l g.number) lt))
      (subst (λ (j : ℕ). fits_a q.kind q (at xs j) ≡ true) (sym e) (subst (λ (c : Kind). fits_a c q x ≡ true) (sym kinds) d.0))
      (patch_back pages (page_size * p) (page_size * p + page_size) b (omega (arith, size))
      ∙ ap (patch pages (page_size * p)) d.1 ∙ ap (λ (c : Kind). patch pages (page_size * p) (page_bytes (with_lsn (i + 1) (cut_to_size (change_a c q x))))) (sym kinds)
      ∙ ap (λ (j : ℕ). patch pages (page_size * j) (page_bytes (with_lsn (i + 1) (cut_to_size (change_a q.kind q (at xs j)))))) (sym e)) keeps
