-- Working pages by value: what an area of them shows, and one of them written over, or its left link alone.
use Rattle.std.specs.Prelude.{◌≡◌, ℕ, zero, suc, ◌+◌, ◌*◌, ◌<◌, ◌≤◌, Bool, true, false, length, get_or, set, take, drop}
use Rattle.std.proofs.Math.Path.{refl, ap₂}
use Rattle.std.proofs.Common.{ap, sym, ◌∙◌, subst, arith, lit<, lit≤, length-drop, take_at, drop_at, drop-drop}
use mathlib.Core.List.{List, [], ◌∷◌, ◌++◌, map}
use Rattle.def_base.specs.Tests.{pick}
use Rattle.def_layout.specs.Numbers.{be32, put32}
use Rattle.def_layout.specs.Pages.{Page, kind_is, page_kind_number, at}
use Rattle.def_layout.specs.declared.page.PageKind.{PageKind}
use Rattle.def_layout.specs.declared.page.PageKind.TheVariants.{Free, Leaf, Index, Map}
use Rattle.def_layout.specs.PageBytes.{page, page_bytes, page_fields, read_block, left_in, with_left}
use Rattle.def_layout.specs.Sizes.{page_size}
use Rattle.def_model.specs.OnBytes.{work_bytes}
use Rattle.def_model.specs.Links.{of_leaves}
use Rattle.law_bytes.specs.Words.{part, be32_take, be32_drop, put32_length}
use Rattle.law_bytes.specs.Patch.{patch, patch_more, drop_take}
use Rattle.law_bytes.specs.Pieces.{read_all, read_all_at, write_all, write_all_set}
use Rattle.law_bytes.specs.PageBytes.{Fits, page_bytes_length, read_block_back, front_word}
use Rattle.law_bytes.specs.PageAreas.{judged, pages_of, pages_bytes, blocks_by, lefts_of}
use Rattle.law_bytes.specs.LeftLinks.{leaf?, Links, linked_word, form, said, left_said, left_gone}
use Rattle.law_bytes.specs.LeftFields.{linked_fields}
use Rattle.law_areas.specs.Pages.{AllPagesFit}
use Rattle.law_areas.specs.AsPieces.{joined_map}
use Rattle.law_areas.specs.Working.{Linked, paired, linked_bytes, AllLinks, paired_length, paired_lefts, with_bytes, left_length}

abbrev no_link : Page → Linked
no_link x = record { page_of = x; left = 0 }

with_all : (xs : List Page) (ls : List ℕ) → work_bytes (map page xs) ls ≡ write_all linked_bytes (paired xs ls)
with_all xs ls = with_bytes xs ls ∙ joined_map linked_bytes (paired xs ls)

linked_size : (y : Linked) → length (linked_bytes y) ≡ page_size
linked_size y = let n = page_bytes_length y.page_of in left_length y.left (page_bytes y.page_of) (omega arith) ∙ n

-- ---- shown

module _ {A : Type 0} (f : List ℕ → A) (g : Linked → A) (back : (y : Linked) → Links y.page_of y.left → Fits y.page_of → f (linked_bytes y) ≡ g y) where
  all_shown : (ys : List Linked) → AllLinks ys → read_all page_size f (length ys) (write_all linked_bytes ys) ≡ map g ys
  unfolding read_all write_all AllLinks
  all_shown [] h = refl
  all_shown (y ∷ ys) h =
      ap₂ (λ (z : A) (zs : List A). z ∷ zs)
      (ap f (take_at (linked_bytes y) (write_all linked_bytes ys) page_size (linked_size y)) ∙ back y h.0 h.1)
      (ap (read_all page_size f (length ys)) (drop_at (linked_bytes y) (write_all linked_bytes ys) page_size (linked_size y)) ∙ all_shown ys h.2)

  shown_by : (xs : List Page) (ls : List ℕ) → AllLinks (paired xs ls) → read_all page_size f (length xs) (work_bytes (map page xs) ls) ≡ map g (paired xs ls)
  shown_by xs ls h =
      ap (read_all page_size f (length xs)) (with_all xs ls)
      ∙ ap (λ (k : ℕ). read_all page_size f k (write_all linked_bytes (paired xs ls))) (sym (paired_length xs ls)) ∙ all_shown (paired xs ls) h

paired_with : {A : Type 0} (g : Page → A) (xs : List Page) (ls : List ℕ) → map (λ y. g y.page_of) (paired xs ls) ≡ map g xs
unfolding paired
paired_with g [] ls = refl
paired_with g (x ∷ xs) [] = ap (g x ∷◌) (paired_with g xs [])
paired_with g (x ∷ xs) (l ∷ ls) = ap (g x ∷◌) (paired_with g xs ls)

map_same : (xs : List Page) → map (λ x. x) xs ≡ xs
map_same [] = refl
map_same (x ∷ xs) = ap (x ∷◌) (map_same xs)

pub work_shown : (xs : List Page) (ls : List ℕ) → AllLinks (paired xs ls) → pages_of (length xs) (work_bytes (map page xs) ls) ≡ xs
work_shown xs ls h = shown_by page_fields (λ y. y.page_of) (λ y a f. linked_fields y.page_of y.left a f) xs ls h ∙ paired_with (λ x. x) xs ls ∙ map_same xs

pub work_blocks : (xs : List Page) (ls : List ℕ) → AllLinks (paired xs ls) → blocks_by true (length xs) (work_bytes (map page xs) ls) ≡ map page xs
unfolding judged
work_blocks xs ls h = shown_by (λ b. read_block (judged true b)) (λ y. page y.page_of) (λ y a f. ap read_block (left_gone y.page_of y.left a) ∙ read_block_back y.page_of f) xs ls h ∙ paired_with page xs ls

pub work_lefts : (xs : List Page) (ls : List ℕ) → length ls ≡ length xs → AllLinks (paired xs ls) → lefts_of (length xs) (work_bytes (map page xs) ls) ≡ ls
work_lefts xs ls e h = shown_by left_in (λ y. y.left) (λ y a f. left_said y.page_of y.left a) xs ls h ∙ paired_lefts xs ls e

-- ---- written over

paired_put : (xs : List Page) (ls : List ℕ) (p : ℕ) (x : Page) → paired (set xs p x) (set ls p 0) ≡ set (paired xs ls) p (no_link x)
unfolding paired
paired_put [] ls p x = refl
paired_put (y ∷ xs) [] zero x = refl
paired_put (y ∷ xs) [] (suc p) x = ap (no_link y ∷◌) (paired_put xs [] p x)
paired_put (y ∷ xs) (l ∷ ls) zero x = refl
paired_put (y ∷ xs) (l ∷ ls) (suc p) x = ap (record { page_of = y; left = l } ∷◌) (paired_put xs ls p x)

paired_link : (xs : List Page) (ls : List ℕ) (p l : ℕ) → p < length ls → paired xs (set ls p l) ≡ set (paired xs ls) p (record { page_of = at xs p; left = l })
unfolding paired
paired_link [] ls p l h = refl
paired_link (y ∷ xs) [] p l h = absurd (omega arith)
paired_link (y ∷ xs) (k ∷ ls) zero l h = refl
paired_link (y ∷ xs) (k ∷ ls) (suc p) l h = ap (record { page_of = y; left = k } ∷◌) (paired_link xs ls p l (omega arith))

links_put : (ys : List Linked) (p : ℕ) (y : Linked) → Links y.page_of y.left → Fits y.page_of → AllLinks ys → AllLinks (set ys p y)
unfolding AllLinks
links_put [] p y a f h = tt
links_put (z ∷ ys) zero y a f h = (a, f, h.2)
links_put (z ∷ ys) (suc p) y a f h = (h.0, h.1, links_put ys p y a f h.2)

over : (xs : List Page) (ls : List ℕ) (p : ℕ) (y : Linked) → p < length xs → write_all linked_bytes (set (paired xs ls) p y) ≡ patch (work_bytes (map page xs) ls) (page_size * p) (linked_bytes y)
over xs ls p y h =
    write_all_set page_size linked_bytes linked_size (paired xs ls) p y (subst (λ (k : ℕ). p < k) (sym (paired_length xs ls)) h)
    ∙ ap (λ (b : List ℕ). patch b (page_size * p) (linked_bytes y)) (sym (with_all xs ls))

-- A page, without a link.
pub work_put : (xs : List Page) (ls : List ℕ) (p : ℕ) (x : Page) → p < length xs → work_bytes (map page (set xs p x)) (set ls p 0) ≡ patch (work_bytes (map page xs) ls) (page_size * p) (page_bytes x)
unfolding with_left
work_put xs ls p x h = with_all (set xs p x) (set ls p 0) ∙ ap (write_all linked_bytes) (paired_put xs ls p x) ∙ over xs ls p (no_link x) h

pub work_put_links : (xs : List Page) (ls : List ℕ) (p : ℕ) (x : Page) → Fits x → AllLinks (paired xs ls) → AllLinks (paired (set xs p x) (set ls p 0))
work_put_links xs ls p x f h = subst AllLinks (sym (paired_put xs ls p x)) (links_put (paired xs ls) p (no_link x) (record { narrow = lit< tt; other = λ e. refl }) f h)

-- Past the last page nothing changes.
pub paired_past : (xs : List Page) (ls : List ℕ) (p : ℕ) (x : Page) → length xs ≤ p → paired (set xs p x) (set ls p 0) ≡ paired xs ls
unfolding paired
paired_past [] ls p x h = refl
paired_past (y ∷ xs) ls zero x h = absurd (omega arith)
paired_past (y ∷ xs) [] (suc p) x h = ap (no_link y ∷◌) (paired_past xs [] p x (omega arith))
paired_past (y ∷ xs) (l ∷ ls) (suc p) x h = ap (record { page_of = y; left = l } ∷◌) (paired_past xs ls p x (omega arith))

pub work_past : (xs : List Page) (ls : List ℕ) (p : ℕ) (x : Page) → length xs ≤ p → work_bytes (map page (set xs p x)) (set ls p 0) ≡ work_bytes (map page xs) ls
work_past xs ls p x h = with_all (set xs p x) (set ls p 0) ∙ ap (write_all linked_bytes) (paired_past xs ls p x h) ∙ sym (with_all xs ls)

-- A link.
pub work_link : (xs : List Page) (ls : List ℕ) (p l : ℕ) → p < length xs → p < length ls → work_bytes (map page xs) (set ls p l) ≡ patch (work_bytes (map page xs) ls) (page_size * p) (with_left l (page_bytes (at xs p)))
work_link xs ls p l h k = with_all xs (set ls p l) ∙ ap (write_all linked_bytes) (paired_link xs ls p l k) ∙ over xs ls p (record { page_of = at xs p; left = l }) h

pub work_link_links : (xs : List Page) (ls : List ℕ) (p l : ℕ) → p < length ls → Links (at xs p) l → Fits (at xs p) → AllLinks (paired xs ls) → AllLinks (paired xs (set ls p l))
work_link_links xs ls p l k a f h = subst AllLinks (sym (paired_link xs ls p l k)) (links_put (paired xs ls) p (record { page_of = at xs p; left = l }) a f h)

-- ---- a link written over

paired_at : (xs : List Page) (ls : List ℕ) (p : ℕ) → p < length xs → get_or (map linked_bytes (paired xs ls)) p [] ≡ with_left (get_or ls p 0) (page_bytes (at xs p))
unfolding paired
paired_at [] ls p h = absurd (omega arith)
paired_at (x ∷ xs) [] zero h = refl
paired_at (x ∷ xs) [] (suc p) h = paired_at xs [] p (omega arith)
paired_at (x ∷ xs) (l ∷ ls) zero h = refl
paired_at (x ∷ xs) (l ∷ ls) (suc p) h = paired_at xs ls p (omega arith)

pub links_at : (xs : List Page) (ls : List ℕ) (p : ℕ) → p < length xs → AllLinks (paired xs ls) → Links (at xs p) (get_or ls p 0)
unfolding paired AllLinks
links_at [] ls p h f = absurd (omega arith)
links_at (x ∷ xs) [] zero h f = f.0
links_at (x ∷ xs) [] (suc p) h f = links_at xs [] p (omega arith) f.2
links_at (x ∷ xs) (l ∷ ls) zero h f = f.0
links_at (x ∷ xs) (l ∷ ls) (suc p) h f = links_at xs ls p (omega arith) f.2

module _ (xs : List Page) (ls : List ℕ) (p : ℕ) (h : p < length xs) (f : AllLinks (paired xs ls)) where
  -- The bytes of page p.
  pub page_there : part (work_bytes (map page xs) ls) (page_size * p) page_size ≡ with_left (get_or ls p 0) (page_bytes (at xs p))
  page_there =
      sym (read_all_at page_size (λ b. b) (length xs) p (work_bytes (map page xs) ls) [] h)
      ∙ ap (λ bs. get_or bs p []) (shown_by (λ b. b) linked_bytes (λ y a g. refl) xs ls f) ∙ paired_at xs ls p h

  word_there : be32 (work_bytes (map page xs) ls) (page_size * p) ≡ front_word (at xs p) + 4 * get_or ls p 0
  word_there =
      let z : page_size * p + 0 ≡ page_size * p = omega arith in
      sym (be32_take (drop (page_size * p) (work_bytes (map page xs) ls)) page_size 0 (lit≤ tt) ∙ be32_drop (work_bytes (map page xs) ls) (page_size * p) 0 ∙ ap (be32 (work_bytes (map page xs) ls)) z)
      ∙ ap (λ b. be32 b 0) page_there ∙ said (at xs p) (get_or ls p 0) (links_at xs ls p h f)

  rest_there : take (length (drop 4 (page_bytes (at xs p)))) (drop (page_size * p + 4) (work_bytes (map page xs) ls)) ≡ drop 4 (page_bytes (at xs p))
  rest_there =
      let n = page_bytes_length (at xs p) in
      let d = length-drop 4 (page_bytes (at xs p)) in
      let k : length (drop 4 (page_bytes (at xs p))) ≡ 124 = omega arith in
      ap₂ (λ (i : ℕ) (s : List ℕ). take i s) k (sym (drop-drop 4 (page_size * p) (work_bytes (map page xs) ls)))
      ∙ sym (drop_take 4 124 (drop (page_size * p) (work_bytes (map page xs) ls)))
      ∙ ap (drop 4) page_there ∙ ap (drop 4) (form (at xs p) (get_or ls p 0) (links_at xs ls p h f))
      ∙ drop_at (put32 (front_word (at xs p) + 4 * get_or ls p 0)) (drop 4 (page_bytes (at xs p))) 4 (put32_length (front_word (at xs p) + 4 * get_or ls p 0))

  pub work_linked : (l : ℕ) → p < length ls → Links (at xs p) l
      → work_bytes (map page xs) (set ls p l) ≡ patch (work_bytes (map page xs) ls) (page_size * p) (put32 (linked_word (be32 (work_bytes (map page xs) ls) (page_size * p)) l))
  work_linked l k a =
      let b = work_bytes (map page xs) ls in
      let old = (links_at xs ls p h f).narrow in
      let v : linked_word (front_word (at xs p) + 4 * get_or ls p 0) l ≡ front_word (at xs p) + 4 * l = omega arith in
      work_link xs ls p l h k
      ∙ ap (patch b (page_size * p)) (form (at xs p) l a)
      ∙ patch_more b (page_size * p) (put32 (front_word (at xs p) + 4 * l)) (drop 4 (page_bytes (at xs p)))
      (ap (λ (k : ℕ). take (length (drop 4 (page_bytes (at xs p)))) (drop (page_size * p + k) b)) (put32_length (front_word (at xs p) + 4 * l)) ∙ rest_there)
      ∙ ap (λ (x : ℕ). patch b (page_size * p) (put32 x)) (sym (ap (λ (x : ℕ). linked_word x l) word_there ∙ v))

-- ---- no links

pub work_bare : (xs : List Page) → work_bytes (map page xs) [] ≡ pages_bytes xs
unfolding paired write_all with_left
work_bare xs = with_all xs [] ∙ go xs
  where
    go : (xs : List Page) → write_all linked_bytes (paired xs []) ≡ pages_bytes xs
    go [] = refl
    go (x ∷ xs) = ap (page_bytes x ++◌) (go xs)

pub bare_links : (xs : List Page) → AllPagesFit xs → AllLinks (paired xs [])
unfolding paired AllLinks
bare_links [] f = tt
bare_links (x ∷ xs) f = (record { narrow = lit< tt; other = λ e. refl }, f 0 (omega arith), bare_links xs (λ p h. f (suc p) (omega arith)))

-- ---- links of leaves alone

pub leaf_kind : (k : PageKind) → kind_is k Leaf ≡ leaf? k
unfolding kind_is page_kind_number
leaf_kind Free = refl
leaf_kind Leaf = refl
leaf_kind Index = refl
leaf_kind Map = refl

-- The same pages and links, one for each page.
pub paired_leaves : (xs : List Page) (ls : List ℕ) → AllLinks (paired xs ls) → paired xs (of_leaves xs ls) ≡ paired xs ls
unfolding paired of_leaves AllLinks
paired_leaves [] ls h = refl
paired_leaves (x ∷ xs) [] h = ap (no_link x ∷◌) (paired_leaves xs [] h.2)
paired_leaves (x ∷ xs) (l ∷ ls) h = λ i. record { page_of = x; left = (ap (λ b. pick b l 0) (leaf_kind x.kind) ∙ kept (leaf? x.kind) refl) i } ∷ paired_leaves xs ls h.2 i
  where
    kept : (b : Bool) → leaf? x.kind ≡ b → pick b l 0 ≡ l
    kept true e = refl
    kept false e = sym (h.0.other e)

pub work_leaves : (xs : List Page) (ls : List ℕ) → AllLinks (paired xs ls) → work_bytes (map page xs) (of_leaves xs ls) ≡ work_bytes (map page xs) ls
work_leaves xs ls h = with_all xs (of_leaves xs ls) ∙ ap (write_all linked_bytes) (paired_leaves xs ls h) ∙ sym (with_all xs ls)
