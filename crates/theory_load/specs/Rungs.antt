-- PAGE p OF A LOADING, BY ITS NUMBER: the height at which it stands, and its entries, each key by the record that it is of.
use Prim.Native.Nat.{ℕ, zero, suc, ◌+◌, ◌-◌, ◌≤◌, ◌<◌}
use Rattle.std.specs.Prelude.{◌≡◌, ◌≢◌, Bool, drop, leb, ltb, eqb}
use Rattle.std.proofs.Math.Path.{refl, sym, ap, ap₂, subst}
use Rattle.std.proofs.Common.{◌∙◌, length-drop, get_or-take, get_or-drop, length-take-le, get_or-append-add}
use Rattle.std.proofs.Math.Bool.{true, false}
use mathlib.Core.List.{List, [], ◌∷◌, ◌++◌, append_assoc, append-nil}
use native.Mathlib.Omega.{arith}
use Rattle.std.proofs.Math.ListN.{length, get_or, take, get_or-append}
use Rattle.std.proofs.Math.Dec.{eqb-suc-suc}
use Rattle.def_base.specs.Tests.{pick, neq_false, eq_true, lt_true, lt_false, le_true, le_false}
use Rattle.def_layout.specs.declared.Entry.{Entry}
use Rattle.def_layout.specs.Entries.{entry, entry_at, key_at, no_entry, top}
use Rattle.def_layout.specs.Numbers.{tab}
use Rattle.def_layout.specs.Sizes.{room}
use Rattle.def_layout.specs.Pages.{Page, at, zero_page, node_at}
use Rattle.def_model.specs.TreeRules.{Node, first_page}
use Rattle.def_model.specs.Loading.{groups, group_count, last_key, group_nodes, links, tree_count, load_levels, level_pages, levels_pages, loaded_levels, loaded_count}
use Rattle.law_bytes.specs.Tables.{tab_is, tab_same}
use Rattle.theory_load.specs.Groups.{groups_count}
use Rattle.theory_load.specs.Places.{group_end, group_start, end_fits, nth_group}
use Rattle.theory_load.specs.Nodes.{nodes_length, links_length}
use Rattle.theory_load.specs.Numbering.{total, load_numbers, level_length}

-- So many entries stand at a height.
unfoldable pub count_up : (height : ℕ) → ℕ → ℕ
count_up zero n = n
count_up (suc h) n = group_count (count_up h n)

pub count_next : (h n count : ℕ) → count ≡ count_up h n → group_count count ≡ count_up (h + 1) n
unfolding count_up
count_next h n count e = let s : suc h ≡ h + 1 = omega arith in subst (λ k. group_count count ≡ count_up k n) s (ap group_count e)

-- Of n records the last one in or below entry i of a height: n where that entry ends its level.
unfoldable pub under : (n height i : ℕ) → ℕ
under n zero i = i
under n (suc h) i = pick (eqb (suc i) (count_up (suc h) n)) n (under n h (group_end (count_up h n) i - 1))

abbrev pub key_or_top : List Entry → ℕ → ℕ
key_or_top es i = pick (ltb i (length es)) (key_at es i) top

-- Entry i of a height: a record, or the link to page i of those from `below` on.
unfoldable pub level_entry : List Entry → (height below i : ℕ) → Entry
level_entry es zero below i = entry_at es i
level_entry es (suc h) below i = entry (key_or_top es (under (length es) (suc h) i)) (below + i)

pub level_key : (es : List Entry) (h below i : ℕ) → i < count_up h (length es) → (level_entry es h below i).key ≡ key_or_top es (under (length es) h i)
unfolding level_entry under count_up
level_key es zero below i l = rw (lt_true i (length es) l) refl
level_key es (suc h) below i l = refl

-- Page p at a height: so many entries from one of that height's on, and whether it ends its level.
unfoldable pub placed : List Entry → (p height below from size : ℕ) → (ends : Bool) → Page
placed es p h below from size ends = node_at p h (pick ends 0 (suc p)) (pick ends top (key_or_top es (under (length es) h (from + size - 1)))) (tab size (λ i. level_entry es h below (from + i)))

-- Its place on the height below, and so on down, is a record.
pub under_down : (n h i : ℕ) → i < count_up (suc h) n → suc i ≢ count_up (suc h) n → (group_end (count_up h n) i - 1 < count_up h n) × (under n (suc h) i ≡ under n h (group_end (count_up h n) i - 1))
unfolding count_up under
under_down n h i l e = let (a, b, c) = end_fits (count_up h n) i l in (omega arith, rw (neq_false e) refl)

pub under_ends : (n h i : ℕ) → suc i ≡ count_up (suc h) n → under n (suc h) i ≡ n
unfolding under
under_ends n h i e = rw (eq_true (suc i) (count_up (suc h) n) e) refl

-- ---- a group's entries

last_nth : (g : List Entry) (m : ℕ) → length g ≡ suc m → last_key g ≡ key_at g m
unfolding last_key
last_nth [] m e = absurd (omega arith)
last_nth (x ∷ []) zero e = refl
last_nth (x ∷ []) (suc m) e = absurd (omega arith)
last_nth (x ∷ y ∷ g) zero e = absurd (omega arith)
last_nth (x ∷ y ∷ g) (suc m) e = last_nth (y ∷ g) m (omega arith)

part_at : (es : List Entry) (s k i : ℕ) → i < k → entry_at (take k (drop s es)) i ≡ entry_at es (s + i)
part_at es s k i h = get_or-take k (drop s es) i no_entry h ∙ get_or-drop s es i no_entry

part_size : (es : List Entry) (s k : ℕ) → s + k ≤ length es → length (take k (drop s es)) ≡ k
part_size es s k h = length-take-le k (drop s es) (let d = length-drop s es in omega arith)

part_tab : (es : List Entry) (s k : ℕ) → s + k ≤ length es → take k (drop s es) ≡ tab k (λ i. entry_at es (s + i))
part_tab es s k h = sym (tab_is k (λ i. entry_at es (s + i)) (take k (drop s es)) no_entry (part_size es s k h) (λ i l. sym (part_at es s k i l)))

part_last : (es : List Entry) (s e : ℕ) → s < e → e ≤ length es → last_key (take (e - s) (drop s es)) ≡ key_at es (e - 1)
part_last es s e a b =
    let n = part_size es s (e - s) (omega arith) in
    let i : s + (e - s - 1) ≡ e - 1 = omega arith in
    last_nth (take (e - s) (drop s es)) (e - s - 1) (omega arith) ∙ ap (λ x. x.key) (part_at es s (e - s) (e - s - 1) (omega arith)) ∙ ap (key_at es) i

-- ---- a level, node by node

ends_not : (n : ℕ) → eqb 1 (suc (suc n)) ≡ false
ends_not n = neq_false {a = 1} {b = suc (suc n)} (λ e. omega arith)

first_of : (p : ℕ) (g : List Entry) (gs : List (List Entry)) → first_page (group_nodes p (g ∷ gs)) 0 ≡ p
unfolding group_nodes first_page
first_of p g [] = refl
first_of p g (h ∷ gs) = refl

-- Page q of a level that begins at p, by its group g; n groups in all.
abbrev group_page : (l q : ℕ) (ends : Bool) (g : List Entry) → Page
group_page l q ends g = node_at q l (pick ends 0 (suc q)) (pick ends top (last_key g)) g

level_nth : (l p j q : ℕ) (gs : List (List Entry)) → j < length gs → q ≡ p + j → at (level_pages l (group_nodes p gs)) j ≡ group_page l q (eqb (suc j) (length gs)) (get_or gs j [])
unfolding level_pages group_nodes first_page
level_nth l p j q [] h e = absurd (omega arith)
level_nth l p zero q (g ∷ []) h e = let z : q ≡ p = omega arith in rw z refl
level_nth l p (suc j) q (g ∷ []) h e = absurd (omega arith)
level_nth l p zero q (g ∷ x ∷ gs) h e = let z : q ≡ p = omega arith in rw (z, ends_not (length gs)) (ap (λ r. node_at p l r (last_key g) g) (first_of (suc p) x gs))
level_nth l p (suc j) q (g ∷ x ∷ gs) h e = rw (eqb-suc-suc (suc j) (suc (length gs))) (level_nth l (suc p) j q (x ∷ gs) (omega arith) (omega arith))

links_nth : (p j : ℕ) (gs : List (List Entry)) → j < length gs → entry_at (links (group_nodes p gs)) j ≡ entry (pick (eqb (suc j) (length gs)) top (last_key (get_or gs j []))) (p + j)
unfolding links group_nodes
links_nth p j [] h = absurd (omega arith)
links_nth p zero (g ∷ []) h = let z : p ≡ p + 0 = omega arith in ap (entry top) z
links_nth p (suc j) (g ∷ []) h = absurd (omega arith)
links_nth p zero (g ∷ x ∷ gs) h = let z : p ≡ p + 0 = omega arith in rw (ends_not (length gs)) (ap (entry (last_key g)) z)
links_nth p (suc j) (g ∷ x ∷ gs) h = let z : suc p + j ≡ p + suc j = omega arith in rw (eqb-suc-suc (suc j) (suc (length gs))) (links_nth (suc p) j (x ∷ gs) (omega arith) ∙ ap (entry (pick (eqb (suc j) (length (x ∷ gs))) top (last_key (get_or (x ∷ gs) j [])))) z)

-- A level's pages stand after those of the levels above it.
level_in : (ups : List (List Node)) (ns : List Node) (downs : List (List Node)) (j : ℕ) → j < length ns → at (levels_pages (ups ++ ns ∷ downs)) (total ups + j) ≡ at (level_pages (length downs) ns) j
unfolding levels_pages total
level_in [] ns downs j h =
    let z : 0 + j ≡ j = omega arith in
    let n = level_length (length downs) ns in
    ap (at (level_pages (length downs) ns ++ levels_pages downs)) z ∙ get_or-append (level_pages (length downs) ns) (levels_pages downs) zero_page j (omega arith)
level_in (u ∷ ups) ns downs j h =
    let x = level_pages (length (ups ++ ns ∷ downs)) u in
    let n : length x ≡ length u = level_length (length (ups ++ ns ∷ downs)) u in
    let z : length u + total ups + j ≡ length x + (total ups + j) = omega arith in
    ap (at (x ++ levels_pages (ups ++ ns ∷ downs))) z ∙ get_or-append-add x (levels_pages (ups ++ ns ∷ downs)) (total ups + j) zero_page ∙ level_in ups ns downs j h

-- ---- from the leaves up

-- The levels from height h down are built: n entries are due at it, and its last page comes before page `end`.
pub record Rung (es : List Entry) (h n end : ℕ) : Type 0 where
  pub turns : ℕ
  pub due : List Entry
  pub downs : List (List Node)
  pub whole : loaded_levels es ≡ load_levels turns due ++ downs
  pub height : length downs ≡ h
  pub size : length due ≡ n
  pub enough : n ≤ turns
  pub counted : n ≡ count_up h (length es)
  pub last : end ≡ suc (tree_count turns n)
  pub entries : (i : ℕ) → i < n → entry_at due i ≡ level_entry es h end i

pub rung_start : (es : List Entry) → Rung es 0 (length es) (suc (loaded_count (length es)))
unfolding count_up level_entry
rung_start es =
    record {
      turns = length es;
      due = es;
      downs = [];
      whole = sym (append-nil (loaded_levels es));
      height = refl;
      size = refl;
      enough = omega arith;
      counted = refl;
      last = refl;
      entries = λ i h. refl;
    }

pub tree_some : (f n : ℕ) → 0 < tree_count f n
unfolding tree_count
tree_some zero n = omega arith
tree_some (suc f) n = go (leb n room) (tree_some f (group_count n))
  where
    go : (b : Bool) → 0 < tree_count f (group_count n) → 0 < pick b 1 (tree_count f (group_count n) + group_count n)
    go true h = omega arith
    go false h = omega arith

module _ (es : List Entry) (h n end : ℕ) (big : room < n) (r : Rung es h n end) where
  -- What is due is more than a root holds: a turn is left, and the level is cut into groups.
  record Cut : Type 0 where
    f : ℕ
    ns : List Node
    few : n ≤ suc f
    is : ns ≡ group_nodes (suc (tree_count f (group_count n))) (groups n r.due)
    levels : load_levels r.turns r.due ≡ load_levels f (links ns) ++ (ns ∷ [])
    count : tree_count r.turns n ≡ tree_count f (group_count n) + group_count n

  cut : Cut
  unfolding load_levels tree_count
  cut = go r.turns r.enough refl
    where
      go : (t : ℕ) → n ≤ t → r.turns ≡ t → Cut
      go zero e q = absurd (omega arith)
      go (suc f) e q =
          let s = r.size in
          record {
            f = f;
            ns = group_nodes (suc (tree_count f (group_count n))) (groups n r.due);
            few = e;
            is = refl;
            levels = rw (q, s) (rw (le_false n room big) refl);
            count = rw q (rw (le_false n room big) refl);
          }

  -- There are pages above it.
  pub rung_below : group_count n < end
  unfolding tree_count
  rung_below = let c = cut.count in let l = r.last in let t = tree_some cut.f (group_count n) in omega arith

  gs : List (List Entry)
  gs = groups n r.due

  gs_count : length gs ≡ group_count n
  unfolding gs
  gs_count = let s = r.size in ap (λ k. length (groups k r.due)) (sym s) ∙ groups_count (length r.due) r.due (omega arith) (omega arith) ∙ ap group_count s

  gs_at : (j : ℕ) → j < group_count n → get_or gs j [] ≡ take (group_end n j - group_start n j) (drop (group_start n j) r.due)
  unfolding gs
  gs_at j l =
      let s = r.size in
      subst (λ k. get_or (groups k r.due) j [] ≡ take (group_end k j - group_start k j) (drop (group_start k j) r.due)) s (nth_group (length r.due) r.due j (omega arith) (omega arith) (subst (λ k. j < group_count k) (sym s) l))

  -- The key of a group's last entry.
  gs_last : (j : ℕ) → j < group_count n → last_key (get_or gs j []) ≡ key_or_top es (under (length es) h (group_end n j - 1))
  gs_last j l =
      let s = r.size in
      let (a, b, c) = end_fits n j l in
      ap last_key (gs_at j l) ∙ part_last r.due (group_start n j) (group_end n j) a (omega arith) ∙ ap (λ x. x.key) (r.entries (group_end n j - 1) (omega arith))
      ∙ level_key es h end (group_end n j - 1) (let k = r.counted in omega arith)

  -- One height up.
  pub rung_up : Rung es (suc h) (group_count n) (end - group_count n)
  unfolding count_up level_entry under gs
  rung_up =
      let x = cut in
      let p = suc (tree_count x.f (group_count n)) in
      let count = x.count in
      let last = r.last in
      let few = x.few in
      let below : p ≡ end - group_count n = omega arith in
      let len : length (links x.ns) ≡ group_count n = links_length x.ns ∙ ap length x.is ∙ nodes_length p gs ∙ gs_count in
      record {
        turns = x.f;
        due = links x.ns;
        downs = x.ns ∷ r.downs;
        whole = r.whole ∙ ap (◌++ r.downs) x.levels ∙ append_assoc (load_levels x.f (links x.ns)) (x.ns ∷ []) r.downs;
        height = ap suc r.height;
        size = len;
        enough = omega arith;
        counted = ap group_count r.counted;
        last = omega arith;
        entries = λ i l. ap (λ ms. entry_at (links ms) i) x.is ∙ links_nth p i gs (let g = gs_count in omega arith) ∙ ap₂ entry (high i l) (ap (◌+ i) below);
      }
    where
      high : (i : ℕ) → i < group_count n → pick (eqb (suc i) (length gs)) top (last_key (get_or gs i [])) ≡ key_or_top es (under (length es) (suc h) i)
      high i l = rw (gs_count, sym r.counted) (go (eqb (suc i) (group_count n)) (gs_last i l))
        where
          go : (b : Bool) → last_key (get_or gs i []) ≡ key_or_top es (under (length es) h (group_end n i - 1))
              → pick b top (last_key (get_or gs i [])) ≡ key_or_top es (pick b (length es) (under (length es) h (group_end n i - 1)))
          go true e = rw (lt_false (length es) (length es) (omega arith)) refl
          go false e = e

  -- ---- its pages

  at_level : (j : ℕ) → j < group_count n → at (levels_pages (loaded_levels es)) (tree_count cut.f (group_count n) + j) ≡ group_page h (suc (tree_count cut.f (group_count n) + j)) (eqb (suc j) (group_count n)) (get_or gs j [])
  unfolding gs
  at_level j l =
      let x = cut in
      let len : length (links x.ns) ≡ group_count n = links_length x.ns ∙ ap length x.is ∙ nodes_length (suc (tree_count x.f (group_count n))) gs ∙ gs_count in
      let few = x.few in
      let ups = load_levels x.f (links x.ns) in
      let all : total ups ≡ tree_count x.f (group_count n) = (load_numbers x.f (links x.ns) (omega arith)).count ∙ ap (tree_count x.f) len in
      let whole : loaded_levels es ≡ ups ++ x.ns ∷ r.downs = r.whole ∙ ap (◌++ r.downs) x.levels ∙ append_assoc ups (x.ns ∷ []) r.downs in
      let size : j < length x.ns = let k = links_length x.ns in omega arith in
      ap (λ ls. at (levels_pages ls) (tree_count x.f (group_count n) + j)) whole
      ∙ ap (λ k. at (levels_pages (ups ++ x.ns ∷ r.downs)) (k + j)) (sym all)
      ∙ level_in ups x.ns r.downs j size
      ∙ ap₂ (λ l ms. at (level_pages l ms) j) r.height x.is
      ∙ level_nth h (suc (tree_count x.f (group_count n))) j (suc (tree_count x.f (group_count n) + j)) gs (let g = gs_count in omega arith) (omega arith)
      ∙ ap (λ k. group_page h (suc (tree_count x.f (group_count n) + j)) (eqb (suc j) k) (get_or gs j [])) gs_count

  group_items : (j : ℕ) → j < group_count n → get_or gs j [] ≡ tab (group_end n j - group_start n j) (λ i. level_entry es h end (group_start n j + i))
  group_items j l =
      let (a, b, c) = end_fits n j l in
      let s = r.size in
      gs_at j l ∙ part_tab r.due (group_start n j) (group_end n j - group_start n j) (omega arith)
      ∙ tab_same (group_end n j - group_start n j) (λ i. entry_at r.due (group_start n j + i)) (λ i. level_entry es h end (group_start n j + i)) (λ i m. r.entries (group_start n j + i) (omega arith))

  -- PAGE j OF THIS HEIGHT.
  pub rung_page : (p j : ℕ) → p ≡ end - group_count n + j → j < group_count n
      → at (levels_pages (loaded_levels es)) (p - 1) ≡ placed es p h end (group_start n j) (group_end n j - group_start n j) (eqb (suc j) (group_count n))
  unfolding placed
  rung_page p j e l =
      let (a, b, c) = end_fits n j l in
      let count = cut.count in
      let last = r.last in
      let q : p - 1 ≡ tree_count cut.f (group_count n) + j = omega arith in
      let q' : suc (tree_count cut.f (group_count n) + j) ≡ p = omega arith in
      let u : group_end n j - 1 ≡ group_start n j + (group_end n j - group_start n j) - 1 = omega arith in
      ap (at (levels_pages (loaded_levels es))) q ∙ at_level j l
      ∙ ap₂ (λ k g. node_at k h (pick (eqb (suc j) (group_count n)) 0 (suc k)) (pick (eqb (suc j) (group_count n)) top (last_key (get_or gs j []))) g) q' (group_items j l)
      ∙ ap (λ m. node_at p h (pick (eqb (suc j) (group_count n)) 0 (suc p)) (pick (eqb (suc j) (group_count n)) top m) (tab (group_end n j - group_start n j) (λ i. level_entry es h end (group_start n j + i))))
      (gs_last j l ∙ ap (λ k. key_or_top es (under (length es) h k)) u)

tree_one : (f n : ℕ) → n ≤ room → tree_count f n ≡ 1
unfolding tree_count
tree_one zero n l = refl
tree_one (suc f) n l = rw (le_true n room l) refl

pub rung_top : (es : List Entry) (h n end : ℕ) → n ≤ room → Rung es h n end → end ≡ 2
rung_top es h n end few r = let l = r.last in let o = tree_one r.turns n few in omega arith

-- THE ROOT holds what is due, once that is no more than a page's room.
pub rung_root : (es : List Entry) (h n end : ℕ) → n ≤ room → Rung es h n end → at (levels_pages (loaded_levels es)) 0 ≡ placed es 1 h end 0 n true
unfolding placed levels_pages level_pages first_page load_levels
rung_root es h n end few r =
    ap (λ ls. at (levels_pages ls) 0) (r.whole ∙ ap (◌++ r.downs) (alone r.turns r.due (let s = r.size in omega arith)))
    ∙ ap₂ (λ l g. node_at 1 l 0 top g) r.height
    (sym (tab_is n (λ i. level_entry es h end (0 + i)) r.due no_entry r.size (λ i l. let z : 0 + i ≡ i = omega arith in ap (level_entry es h end) z ∙ sym (r.entries i l))))
  where
    alone : (t : ℕ) (due : List Entry) → length due ≤ room → load_levels t due ≡ (record { page = 1; high = top; items = due } ∷ []) ∷ []
    alone zero due l = refl
    alone (suc t) due l = rw (le_true (length due) room l) refl
