-- A CHANGE THAT FITS A PAGE KEEPS ITS LAYOUT: of any page that keeps its layout and any record that keeps its row, forged ones too.
use Rattle.std.specs.Prelude.{ℕ, zero, suc, ◌+◌, ◌-◌, ◌%◌, ◌≤◌, ◌<◌, ◌≡◌, Bool, ◌&&◌, ◌||◌, List, [], ◌∷◌, ◌++◌, take, drop, leb, ltb}
use Rattle.std.proofs.Math.Path.{refl}
use Rattle.std.proofs.Common.{sym, ap, ◌∙◌, subst, arith}
use Rattle.std.proofs.Math.Bool.{true, false}
use Rattle.std.proofs.Math.ListN.{length}
use Rattle.std.proofs.Math.Dec.{eqb, eqb-suc-zero}
use Rattle.def_base.specs.Tests.{pick, Case, yes!, no!, case, clash, and_true, and_both, true_eq, eq_true, true_lt, lt_true, le_true}
use Rattle.def_layout.specs.declared.Entry.{Entry}
use Rattle.def_layout.specs.Entries.{top, entry, ten_bits, same_entries}
use Rattle.def_layout.specs.Sizes.{room}
use Rattle.def_layout.specs.Pages.{Page, page_kind_number, kind_is, kind_at, node_at, layout, layout_by, own_ok, map_bits}
use Rattle.def_layout.specs.declared.page.PageKind.{PageKind}
use Rattle.def_layout.specs.declared.page.PageKind.TheVariants.{Free, Leaf, Index, Map}
use Rattle.def_layout.specs.Records.{Kind, begin, insert, delete, undo_insert, undo_delete, commit, abort_mark, end, split, link, unlink, merge, redistribute, raise, lower, Rec}
use Rattle.def_layout.specs.Rows.{level_bits, carries, named_only, row, row_says}
use Rattle.def_model.specs.Change.{as_map, shape, role, hit, link_in, unlink_in, kept, with_lsn, entries_in, cut_to_size, into_a, share_in_a, share_in_b, change_a, change_b, change_c, change, page_marked, takes, act}
use Rattle.def_model.specs.Fit.{after, in_order, is_leaf, is_index, is_node, children_in, share_fits_a, share_fits_b, fits_a, fits_b, fits_role, fits}
use Rattle.theory_pages.specs.Layout.{map_marked, freed_layout}

-- ---- children of ten bits, through what changes do to entries

bits_take : (k : ℕ) (es : List Entry) → ten_bits es ≡ true → ten_bits (take k es) ≡ true
unfolding ten_bits
bits_take zero es t = refl
bits_take (suc k) [] t = refl
bits_take (suc k) (e ∷ es) t = let (x, y) = and_true (ltb e.val 1024) (ten_bits es) t in and_both x (bits_take k es y)

bits_drop : (k : ℕ) (es : List Entry) → ten_bits es ≡ true → ten_bits (drop k es) ≡ true
unfolding ten_bits
bits_drop zero es t = t
bits_drop (suc k) [] t = refl
bits_drop (suc k) (e ∷ es) t = bits_drop k es (and_true (ltb e.val 1024) (ten_bits es) t).1

bits_append : (es fs : List Entry) → ten_bits es ≡ true → ten_bits fs ≡ true → ten_bits (es ++ fs) ≡ true
unfolding ten_bits
bits_append [] fs s t = t
bits_append (e ∷ es) fs s t = let (x, y) = and_true (ltb e.val 1024) (ten_bits es) s in and_both x (bits_append es fs y t)

bits_link : (b u c w : ℕ) (es : List Entry) → b < 1024 → c < 1024 → ten_bits es ≡ true → ten_bits (link_in b u c w es) ≡ true
unfolding ten_bits link_in
bits_link b u c w [] hb hc t = refl
bits_link b u c w (e ∷ es) hb hc t = let (x, y) = and_true (ltb e.val 1024) (ten_bits es) t in go (ltb e.key w) x y (bits_link b u c w es hb hc y)
  where
    go : (q : Bool) → ltb e.val 1024 ≡ true → ten_bits es ≡ true → ten_bits (link_in b u c w es) ≡ true → ten_bits (pick q (e ∷ link_in b u c w es) (entry u b ∷ entry w c ∷ es)) ≡ true
    go true x y i = and_both x i
    go false x y i = and_both (lt_true b 1024 hb) (and_both (lt_true c 1024 hc) y)

bits_unlink : (b u w : ℕ) (es : List Entry) → b < 1024 → ten_bits es ≡ true → ten_bits (unlink_in b u w es) ≡ true
unfolding ten_bits unlink_in
bits_unlink b u w [] hb t = refl
bits_unlink b u w (e ∷ []) hb t = t
bits_unlink b u w (e ∷ f ∷ es) hb t =
    let (x, y) = and_true (ltb e.val 1024) (ten_bits (f ∷ es)) t in
    let (x₂, y₂) = and_true (ltb f.val 1024) (ten_bits es) y in
    go (ltb e.key u) x y₂ (bits_unlink b u w (f ∷ es) hb y)
  where
    go : (q : Bool) → ltb e.val 1024 ≡ true → ten_bits es ≡ true → ten_bits (unlink_in b u w (f ∷ es)) ≡ true → ten_bits (pick q (e ∷ unlink_in b u w (f ∷ es)) (entry w b ∷ es)) ≡ true
    go true x y i = and_both x i
    go false x y i = and_both (lt_true b 1024 hb) y

bits_two : (k h c b : ℕ) → c < 1024 → b < 1024 → ten_bits (entry k c ∷ entry h b ∷ []) ≡ true
unfolding ten_bits
bits_two k h c b hc hb = and_both (lt_true c 1024 hc) (and_both (lt_true b 1024 hb) refl)

-- On a page: any entries in a leaf, children of ten bits in an index.
children_map : (x : Page) (es fs : List Entry) → (ten_bits es ≡ true → ten_bits fs ≡ true) → children_in x es ≡ true → children_in x fs ≡ true
children_map x es fs f = go (is_leaf x)
  where
    go : (l : Bool) → l || ten_bits es ≡ true → l || ten_bits fs ≡ true
    go true t = refl
    go false t = f t

children_both : (x : Page) (es fs : List Entry) → children_in x es ≡ true → children_in x fs ≡ true → children_in x (es ++ fs) ≡ true
children_both x es fs = go (is_leaf x)
  where
    go : (l : Bool) → l || ten_bits es ≡ true → l || ten_bits fs ≡ true → l || ten_bits (es ++ fs) ≡ true
    go true s t = refl
    go false s t = bits_append es fs s t

-- ---- a page of the tree

pub record NodeLaid (p : ℕ) (x : Page) : Type 0 where
  pub pos : 0 < p
  pub own : x.own ≡ p
  pub children : children_in x x.entries ≡ true

node_laid : (n p : ℕ) (x : Page) → layout n p x ≡ true → is_node x ≡ true → NodeLaid p x
unfolding layout layout_by own_ok kind_is page_kind_number
node_laid n p x t u = go x.kind refl t u
  where
    go : (k : PageKind) → x.kind ≡ k → layout_by k n p x ≡ true → kind_is k Leaf || kind_is k Index ≡ true → NodeLaid p x
    go Free e t u = clash (sym u)
    go Map e t u = clash (sym u)
    go Leaf e t u =
        let (a, t₁) = and_true (ltb 0 p) _ t in
        let (b, t₂) = and_true (eqb x.own p) _ t₁ in
        record { pos = true_lt 0 p a; own = true_eq x.own p b; children = rw e refl }
    go Index e t u =
        let (a, t₁) = and_true (ltb 0 p) _ t in
        let (b, t₂) = and_true (eqb x.own p) _ t₁ in
        let (c, t₃) = and_true (ltb 0 x.level) _ t₂ in
        let (d, t₄) = and_true (leb (length x.entries) room) (ten_bits x.entries) t₃ in
        record { pos = true_lt 0 p a; own = true_eq x.own p b; children = rw e t₄ }

-- A page is never longer than 14 entries.
few : (es : List Entry) → length (take room es) ≤ room
few es = let a = take_few room es in a
  where
    take_few : (k : ℕ) (es : List Entry) → length (take k es) ≤ k
    take_few zero es = omega arith
    take_few (suc k) [] = omega arith
    take_few (suc k) (e ∷ es) = let i = take_few k es in omega arith

-- It stays one, with other entries.
node_closes : (n p m : ℕ) (x y : Page) → x.level < 16 → layout n p x ≡ true → is_node x ≡ true → y.kind ≡ x.kind → y.own ≡ x.own → y.level ≡ x.level → children_in x y.entries ≡ true
    → layout n p (with_lsn m (cut_to_size y)) ≡ true
unfolding layout layout_by own_ok kind_is page_kind_number entries_in cut_to_size
node_closes n p m x y lw t u k o l c = go x.kind refl t u c
  where
    keep : (z : ℕ) → z < 16 → z % 16 ≡ z
    keep z h = omega arith

    lv : y.level % 16 ≡ x.level
    lv = ap (λ z. z % 16) l ∙ keep x.level lw

    go : (q : PageKind) → x.kind ≡ q → layout_by q n p x ≡ true → kind_is q Leaf || kind_is q Index ≡ true → kind_is q Leaf || ten_bits y.entries ≡ true → layout_by y.kind n p (with_lsn m (cut_to_size y)) ≡ true
    go Free e t u c = clash (sym u)
    go Map e t u c = clash (sym u)
    go Leaf e t u c =
        let (a, t₁) = and_true (ltb 0 p) _ t in
        let (b, t₂) = and_true (eqb x.own p) _ t₁ in
        let (d, t₃) = and_true (eqb x.level 0) _ t₂ in
        rw (k ∙ e) (and_both a (and_both (ap (λ z. eqb z p) o ∙ b) (and_both (ap (λ z. eqb z 0) lv ∙ d) (le_true (length (take room y.entries)) room (few y.entries)))))
    go Index e t u c =
        let (a, t₁) = and_true (ltb 0 p) _ t in
        let (b, t₂) = and_true (eqb x.own p) _ t₁ in
        let (d, t₃) = and_true (ltb 0 x.level) _ t₂ in
        rw (k ∙ e) (and_both a (and_both (ap (λ z. eqb z p) o ∙ b) (and_both (ap (λ z. ltb 0 z) lv ∙ d) (and_both (le_true (length (take room y.entries)) room (few y.entries)) (bits_take room y.entries c)))))

-- A page becomes one.
new_closes : (n p m own level right high : ℕ) (es : List Entry) → own ≡ p → 0 < p → level < 16 → level_bits level es ≡ true → layout n p (with_lsn m (cut_to_size (node_at own level right high es))) ≡ true
unfolding layout layout_by own_ok entries_in cut_to_size
new_closes n p m own zero right high es o h l b = and_both (lt_true 0 p h) (and_both (eq_true own p o) (le_true (length (take room es)) room (few es)))
new_closes n p m own (suc level) right high es o h l b =
    let k : suc level % 16 ≡ suc level = omega arith in
    let t : ten_bits es ≡ true = rw (eqb-suc-zero level) at b in
    rw (eqb-suc-zero level) (and_both (lt_true 0 p h) (and_both (eq_true own p o) (and_both (ap (λ z. ltb 0 z) k ∙ lt_true 0 (suc level) (omega arith)) (and_both (le_true (length (take room es)) room (few es)) (bits_take room es t)))))

-- A free page is not page 0.
free_pos : (n p : ℕ) (x : Page) → layout n p x ≡ true → kind_is x.kind Free ≡ true → 0 < p
unfolding layout layout_by kind_is page_kind_number
free_pos n p x t u = go x.kind t u
  where
    go : (k : PageKind) → layout_by k n p x ≡ true → kind_is k Free ≡ true → 0 < p
    go Free t u = true_lt 0 p (and_true (ltb 0 p) _ t).0
    go Leaf t u = clash (sym u)
    go Index t u = clash (sym u)
    go Map t u = clash (sym u)

-- ---- each part of a record

module _ (n p m : ℕ) (most : n ≤ map_bits) (r : Rec) (x : Page) (low : x.level < 16) (low_r : r.level < 16) (laid : layout n p x ≡ true) (rows : row m r ≡ true) (b_in : r.pageB < n) (c_in : r.pageC < n) where
  says : row_says r.kind m r ≡ true
  unfolding row
  says = let (a, b) = and_true (named_only (carries r.kind) r) _ rows in (and_true (leb (length r.entries) room) (row_says r.kind m r) b).1

  -- A leaf stays a leaf.
  leaf_stays : (y : Page) → is_leaf x ≡ true → y.kind ≡ x.kind → y.own ≡ x.own → y.level ≡ x.level → layout n p (with_lsn m (cut_to_size y)) ≡ true
  leaf_stays y u k o l = node_closes n p m x y low laid (rw u refl) k o l (rw u refl)

  -- A page of the tree stays one.
  node_stays : (y : Page) → is_node x ≡ true → y.kind ≡ x.kind → y.own ≡ x.own → y.level ≡ x.level → (NodeLaid p x → children_in x y.entries ≡ true) → layout n p (with_lsn m (cut_to_size y)) ≡ true
  node_stays y u k o l c = node_closes n p m x y low laid u k o l (c (node_laid n p x laid u))

  index_node : is_index x ≡ true → is_node x ≡ true
  index_node u = go (is_leaf x) u
    where
      go : (l : Bool) → is_index x ≡ true → l || is_index x ≡ true
      go true u = refl
      go false u = u

  level_node : (l : ℕ) → kind_is x.kind (kind_at l) && eqb x.level l ≡ true → is_node x ≡ true
  level_node l u = go (eqb l 0) (and_true (kind_is x.kind (kind_at l)) _ u).0
    where
      go : (b : Bool) → kind_is x.kind (pick b Leaf Index) ≡ true → is_node x ≡ true
      go true v = rw v refl
      go false v = index_node v

  tens : (q : ℕ) → q < n → q < 1024
  tens q h = omega arith

  kept_in : NodeLaid p x → children_in x (kept r.entries x.entries) ≡ true
  kept_in a = children_map x x.entries (kept r.entries x.entries) (bits_take (length x.entries - length r.entries) x.entries) a.children

  share_a : (t : Bool) → is_node x ≡ true → share_fits_a t r x ≡ true → children_in x (share_in_a t r x.entries) ≡ true
  unfolding share_fits_a share_in_a
  share_a true u f =
      let (a, f₁) = and_true (leb (length x.entries + length r.entries) room) _ f in
      let (b, f₂) = and_true (eqb (after 0 (x.entries ++ r.entries)) (suc r.key)) _ f₁ in
      let (o, c) = and_true (in_order x.entries r.entries) (children_in x r.entries) f₂ in
      children_both x x.entries r.entries (node_laid n p x laid u).children c
  share_a false u f = kept_in (node_laid n p x laid u)

  share_b : (t : Bool) → is_node x ≡ true → share_fits_b t r x ≡ true → children_in x (share_in_b t r x.entries) ≡ true
  unfolding share_fits_b share_in_b
  share_b true u f = children_map x x.entries (drop (length r.entries) x.entries) (bits_drop (length r.entries) x.entries) (node_laid n p x laid u).children
  share_b false u f =
      let (a, f₁) = and_true (leb (length x.entries + length r.entries) room) _ f in
      let (o, c) = and_true (in_order r.entries x.entries) (children_in x r.entries) f₁ in
      children_both x r.entries x.entries c (node_laid n p x laid u).children

  as_a_laid : (k : Kind) → r.kind ≡ k → (shape k).a ≡ true → fits_a k r x ≡ true → row_says k m r ≡ true → layout n p (with_lsn m (cut_to_size (change_a k r x))) ≡ true
  unfolding fits_a change_a row_says
  as_a_laid begin e s f w = clash (sym s)
  as_a_laid commit e s f w = clash (sym s)
  as_a_laid abort_mark e s f w = clash (sym s)
  as_a_laid end e s f w = clash (sym s)
  as_a_laid insert e s f w = leaf_stays (change_a insert r x) (and_true (is_leaf x) _ f).0 refl refl refl
  as_a_laid delete e s f w = leaf_stays (change_a delete r x) (and_true (is_leaf x) _ f).0 refl refl refl
  as_a_laid undo_insert e s f w = leaf_stays (change_a undo_insert r x) (and_true (is_leaf x) _ f).0 refl refl refl
  as_a_laid undo_delete e s f w = leaf_stays (change_a undo_delete r x) (and_true (is_leaf x) _ f).0 refl refl refl
  as_a_laid split e s f w = node_stays (change_a split r x) (level_node r.level (and_true (kind_is x.kind (kind_at r.level) && eqb x.level r.level) _ f).0) refl refl refl kept_in
  as_a_laid link e s f w =
      let u = (and_true (is_index x) _ f).0 in
      node_stays (change_a link r x) (index_node u) refl refl refl (λ a. children_map x x.entries _ (bits_link r.pageB r.key r.pageC r.second x.entries (tens r.pageB b_in) (tens r.pageC c_in)) a.children)
  as_a_laid unlink e s f w =
      let u = (and_true (is_index x) _ f).0 in
      node_stays (change_a unlink r x) (index_node u) refl refl refl (λ a. children_map x x.entries _ (bits_unlink r.pageB r.key r.second x.entries (tens r.pageB b_in)) a.children)
  as_a_laid merge e s f w =
      let (u, f₁) = and_true (is_node x) _ f in
      let (a₁, f₂) = and_true (leb (length x.entries + length r.entries) room) _ f₁ in
      let (a₂, f₃) = and_true (eqb x.right r.pageB) _ f₂ in
      let (a₃, c) = and_true (in_order x.entries r.entries) (children_in x r.entries) f₃ in
      node_stays (change_a merge r x) u refl refl refl (λ a. children_both x x.entries r.entries a.children c)
  as_a_laid redistribute e s f w =
      let (u, f₁) = and_true (is_node x) _ f in
      let (a₁, f₂) = and_true (eqb x.right r.pageB) _ f₁ in
      node_stays (change_a redistribute r x) u refl refl refl (λ a. share_a (into_a r) u f₂)
  as_a_laid raise e s f w =
      let (v, f₁) = and_true (kind_is x.kind (kind_at r.level) && eqb x.level r.level) _ f in
      let (a₁, f₂) = and_true (same_entries x.entries r.entries) _ f₁ in
      let (a₂, l) = and_true (eqb x.right r.pageB) (ltb r.level 15) f₂ in
      let a = node_laid n p x laid (level_node r.level v) in
      let h = true_lt r.level 15 l in
      let two : ten_bits (entry r.key r.pageC ∷ entry top r.pageB ∷ []) ≡ true = bits_two r.key top r.pageC r.pageB (tens r.pageC c_in) (tens r.pageB b_in) in
      new_closes n p m x.own (suc r.level) 0 top (entry r.key r.pageC ∷ entry top r.pageB ∷ []) a.own a.pos (omega arith) (rw (eqb-suc-zero r.level) two)
  as_a_laid lower e s f w =
      let (v, f₁) = and_true (kind_is x.kind (kind_at (suc r.level)) && eqb x.level (suc r.level)) _ f in
      let a = node_laid n p x laid (level_node (suc r.level) v) in
      new_closes n p m x.own r.level 0 x.high r.entries a.own a.pos low_r (and_true (eqb r.pageA 1) (level_bits r.level r.entries) w).1

  as_b_laid : (k : Kind) → r.kind ≡ k → (shape k).b ≡ true → p ≡ r.pageB → fits_b k r x ≡ true → row_says k m r ≡ true → layout n p (with_lsn m (cut_to_size (change_b k r x))) ≡ true
  unfolding fits_b change_b row_says
  as_b_laid begin e s q f w = clash (sym s)
  as_b_laid insert e s q f w = clash (sym s)
  as_b_laid delete e s q f w = clash (sym s)
  as_b_laid undo_insert e s q f w = clash (sym s)
  as_b_laid undo_delete e s q f w = clash (sym s)
  as_b_laid commit e s q f w = clash (sym s)
  as_b_laid abort_mark e s q f w = clash (sym s)
  as_b_laid end e s q f w = clash (sym s)
  as_b_laid link e s q f w = clash (sym s)
  as_b_laid unlink e s q f w = clash (sym s)
  as_b_laid raise e s q f w = clash (sym s)
  as_b_laid split e s q f w = new_closes n p m r.pageB r.level r.right r.second r.entries (sym q) (free_pos n p x laid f) low_r w
  as_b_laid merge e s q f w = let a = node_laid n p x laid (and_true (is_node x) _ f).0 in freed_layout n m p x.own a.pos a.own
  as_b_laid redistribute e s q f w =
      let (u, f₁) = and_true (is_node x) _ f in
      node_stays (change_b redistribute r x) u refl refl refl (λ a. share_b (into_a r) u f₁)
  as_b_laid lower e s q f w =
      let v = (and_true (kind_is x.kind (kind_at r.level) && eqb x.level r.level) _ f).0 in
      let a = node_laid n p x laid (level_node r.level v) in
      freed_layout n m p x.own a.pos a.own

  as_c_laid : (k : Kind) → r.kind ≡ k → (shape k).c ≡ true → p ≡ r.pageC → kind_is x.kind Free ≡ true → row_says k m r ≡ true → layout n p (with_lsn m (cut_to_size (change_c r x))) ≡ true
  unfolding change_c row_says
  as_c_laid begin e s q f w = clash (sym s)
  as_c_laid insert e s q f w = clash (sym s)
  as_c_laid delete e s q f w = clash (sym s)
  as_c_laid undo_insert e s q f w = clash (sym s)
  as_c_laid undo_delete e s q f w = clash (sym s)
  as_c_laid commit e s q f w = clash (sym s)
  as_c_laid abort_mark e s q f w = clash (sym s)
  as_c_laid end e s q f w = clash (sym s)
  as_c_laid split e s q f w = clash (sym s)
  as_c_laid link e s q f w = clash (sym s)
  as_c_laid unlink e s q f w = clash (sym s)
  as_c_laid merge e s q f w = clash (sym s)
  as_c_laid redistribute e s q f w = clash (sym s)
  as_c_laid lower e s q f w = clash (sym s)
  as_c_laid raise e s q f w = new_closes n p m r.pageC r.level r.pageB r.key r.entries (sym q) (free_pos n p x laid f) low_r (and_true (eqb r.pageA 1) (level_bits r.level r.entries) w).1

  marked_in : page_marked r < n
  marked_in = go (shape r.kind).c
    where
      go : (b : Bool) → pick b r.pageC r.pageB < n
      go true = c_in
      go false = b_in

  -- ANY PART.
  pub fit_laid : hit (role r p) ≡ true → fits p r x ≡ true → layout n p (act p m r x) ≡ true
  unfolding role fits_role change
  fit_laid h f = go (case ((shape r.kind).a && eqb p r.pageA)) (case ((shape r.kind).b && eqb p r.pageB)) (case ((shape r.kind).c && eqb p r.pageC)) (case ((shape r.kind).m && eqb p 0)) h f
    where
      go : Case ((shape r.kind).a && eqb p r.pageA) → Case ((shape r.kind).b && eqb p r.pageB) → Case ((shape r.kind).c && eqb p r.pageC) → Case ((shape r.kind).m && eqb p 0)
          → hit (role r p) ≡ true → fits_role r (role r p) x ≡ true → layout n p (with_lsn m (cut_to_size (change r (role r p) x))) ≡ true
      go (yes! a) b c d h f = rw a (as_a_laid r.kind refl (and_true (shape r.kind).a _ a).0 (rw a at f) says)
      go (no! a) (yes! b) c d h f = let (s, q) = and_true (shape r.kind).b (eqb p r.pageB) b in rw (a, b) (as_b_laid r.kind refl s (true_eq p r.pageB q) (rw (a, b) at f) says)
      go (no! a) (no! b) (yes! c) d h f = let (s, q) = and_true (shape r.kind).c (eqb p r.pageC) c in rw (a, b, c) (as_c_laid r.kind refl s (true_eq p r.pageC q) (rw (a, b, c) at f) says)
      go (no! a) (no! b) (no! c) (yes! d) h f = let q = true_eq p 0 (and_true (shape r.kind).m (eqb p 0) d).1 in rw (a, b, c, d) (subst (λ z. layout n z (with_lsn m (cut_to_size (change r as_map x))) ≡ true) (sym q) (map_marked n m (page_marked r) (takes r.kind) x marked_in (subst (λ z. layout n z x ≡ true) q laid)))
      go (no! a) (no! b) (no! c) (no! d) h f = let z : false ≡ true = rw (a, b, c, d) at h in clash (sym z)
