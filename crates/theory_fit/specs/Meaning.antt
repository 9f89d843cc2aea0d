-- WHAT REFUSAL 5 LETS PASS, kind by kind and page by page: a change is redone exactly on these pages.
use Rattle.std.specs.Prelude.{ℕ, suc, ◌+◌, ◌≤◌, ◌<◌, ◌≡◌, ◌≢◌, ◌⊎◌, Bool, true, false, not, ◌&&◌, List, [], ◌∷◌, ◌++◌, get_or, leb, eqb}
use Rattle.std.proofs.Math.Path.{refl}
use Rattle.std.proofs.Common.{sym, ap, subst, inr, arith}
use Rattle.std.proofs.Math.Option.{some}
use Rattle.std.proofs.Math.ListN.{length}
use Rattle.def_base.specs.Tests.{pick, Case, yes!, no!, case, clash, eq_true, neq_false, le_true, le_false}
use Rattle.def_layout.specs.declared.Entry.{Entry}
use Rattle.def_layout.specs.Entries.{entry, entry_at, key_at, seek}
use Rattle.def_layout.specs.Sizes.{room}
use Rattle.def_layout.specs.Pages.{Page, size, kind_is, kind_at}
use Rattle.def_layout.specs.declared.page.PageKind.TheVariants.{Free, Leaf, Index}
use Rattle.def_layout.specs.Records.{Rec, Kind, insert, delete, undo_insert, undo_delete, split, link, unlink, merge, redistribute, raise, lower}
use Rattle.def_model.specs.Change.{Role, as_a, as_b, as_c, as_map, shape, role, first_key, kept, takes}
use Rattle.def_model.specs.Fit.{nowhere, is_leaf, is_node, at_level, has_room, children_in, share_fits_a, share_fits_b, fits_a, fits_b, fits_map, fits_role, fits}
use Rattle.theory_fit.specs.Exactly.{Exactly, both, either, said, equal, at_most, below, of_kind, same, stands_nowhere, finds_value, finds_key, of_ten_bits}
use Rattle.theory_fit.specs.Among.{Ending, LastKey, last_key, Follows, follows, EndsIn, ends_join, ends_cut, starts_in, LinkPlace, link_place, SidePlace, side_place}

-- ---- a page's part in the record

other : (a : Bool) (p q : ℕ) → (a ≡ true → p ≢ q) → a && eqb p q ≡ false
other true p q n = neq_false (n refl)
other false p q n = refl

module _ (r : Rec) (x : Page) {P : Type 0} (k : Kind) (e : r.kind ≡ k) where
  by_role : (p : ℕ) (o : Role) → role r p ≡ o → Exactly (fits_role r o x) P → Exactly (fits p r x) P
  by_role p o q w = subst (λ z. Exactly (fits_role r z x) P) (sym q) w

  on_a : (shape k).a ≡ true → Exactly (fits_a k r x) P → Exactly (fits r.pageA r x) P
  unfolding role fits_role
  on_a s w = by_role r.pageA as_a (rw (e, s, eq_true r.pageA r.pageA refl)) (subst (λ z. Exactly (fits_a z r x) P) (sym e) w)

  on_b : (shape k).b ≡ true → r.pageB ≢ r.pageA → Exactly (fits_b k r x) P → Exactly (fits r.pageB r x) P
  unfolding role fits_role
  on_b s n w =
      by_role r.pageB as_b (rw (e, other (shape k).a r.pageB r.pageA (λ t. n), s, eq_true r.pageB r.pageB refl))
      (subst (λ z. Exactly (fits_b z r x) P) (sym e) w)

  on_c : (shape k).c ≡ true → (shape k).b ≡ false → r.pageC ≢ r.pageA → Exactly (kind_is x.kind Free) P → Exactly (fits r.pageC r x) P
  unfolding role fits_role
  on_c s b n w = by_role r.pageC as_c (rw (e, other (shape k).a r.pageC r.pageA (λ t. n), b, s, eq_true r.pageC r.pageC refl)) w

  -- The map, where it is none of the record's pages.
  on_map : (shape k).m ≡ true → ((shape k).a ≡ true → 0 ≢ r.pageA) → ((shape k).b ≡ true → 0 ≢ r.pageB) → ((shape k).c ≡ true → 0 ≢ r.pageC)
      → Exactly (fits_map (takes k) (pick (shape k).c r.pageC r.pageB) x.marks) P → Exactly (fits 0 r x) P
  unfolding role fits_role
  on_map s a b c w =
      by_role 0 as_map (rw (e, other (shape k).a 0 r.pageA a, other (shape k).b 0 r.pageB b, other (shape k).c 0 r.pageC c, s))
      (subst (λ z. Exactly (fits_map (takes z) (pick (shape z).c r.pageC r.pageB) x.marks) P) (sym e) w)

-- ---- pages

-- The page is a leaf or an index.
abbrev pub IsNode : Page → Type 0
IsNode x = (x.kind ≡ Leaf) ⊎ (x.kind ≡ Index)

node : (x : Page) → Exactly (is_node x) (IsNode x)
node x = either (of_kind x.kind Leaf) (of_kind x.kind Index)

-- In an index the entries have children of ten bits.
abbrev pub Children : Page → List Entry → Type 0
Children x es = (x.kind ≡ Leaf) ⊎ ((i : ℕ) → i < length es → (entry_at es i).val < 1024)

children : (x : Page) (es : List Entry) → Exactly (children_in x es) (Children x es)
children x es = either (of_kind x.kind Leaf) (of_ten_bits es)

-- The page stands at a level, and its kind is that level's.
abbrev pub AtLevel : ℕ → Page → Type 0
AtLevel l x = (x.kind ≡ kind_at l) × (x.level ≡ l)

level : (l : ℕ) (x : Page) → Exactly (at_level l x) (AtLevel l x)
level l x = both (of_kind x.kind (kind_at l)) (equal x.level l)

-- A leaf with fewer than 14 entries, none of them of this key, wherever it might stand.
abbrev pub Lacks : ℕ → Page → Type 0
Lacks k x = (x.kind ≡ Leaf) × ((size x < room) × ((i : ℕ) → i < size x → key_at x.entries i ≢ k))

room_for_one : (x : Page) → Exactly (leb (size x + 1) room) (size x < room)
room_for_one x = said (λ h. omega arith) (λ h. omega arith) (at_most (size x + 1) room)

lacks : (k : ℕ) (x : Page) → Exactly (is_leaf x && (has_room 1 x && nowhere k x.entries)) (Lacks k x)
lacks k x = both (of_kind x.kind Leaf) (both (room_for_one x) (stands_nowhere k x.entries))

-- On the map: the bit of a page taken is clear, of a page freed set.
pub taken_means : (b : ℕ) (x : Page) → Exactly (fits_map true b x.marks) (get_or x.marks b true ≡ false)
unfolding fits_map
taken_means b x = record { so = so (get_or x.marks b true); holds = λ w. rw w }
  where
    so : (c : Bool) → not c ≡ true → c ≡ false
    so true t = clash (sym t)
    so false t = refl

pub freed_means : (b : ℕ) (x : Page) → Exactly (fits_map false b x.marks) (get_or x.marks b false ≡ true)
unfolding fits_map
freed_means b x = record { so = λ t. t; holds = λ w. w }

-- ---- the rows

module _ (r : Rec) (x : Page) where
  -- 2: a leaf with room, and the key nowhere on it.
  pub insert_means : r.kind ≡ insert → Exactly (fits r.pageA r x) (Lacks r.key x)
  unfolding fits_a
  insert_means e = on_a r x insert e refl (lacks r.key x)

  -- 3: a leaf where the search finds (key, second).
  pub delete_means : r.kind ≡ delete → Exactly (fits r.pageA r x) ((x.kind ≡ Leaf) × (seek r.key x.entries ≡ some (entry r.key r.second)))
  unfolding fits_a
  delete_means e = on_a r x delete e refl (both (of_kind x.kind Leaf) (finds_value r.second r.key x.entries))

  -- 4: a leaf where the search finds the key, with any value.
  pub undo_insert_means : r.kind ≡ undo_insert
      → Exactly (fits r.pageA r x) ((x.kind ≡ Leaf) × ((v : ℕ) × (seek r.key x.entries ≡ some (entry r.key v))))
  unfolding fits_a
  undo_insert_means e = on_a r x undo_insert e refl (both (of_kind x.kind Leaf) (finds_key r.key x.entries))

  -- 5: as 2.
  pub undo_delete_means : r.kind ≡ undo_delete → Exactly (fits r.pageA r x) (Lacks r.key x)
  unfolding fits_a
  undo_delete_means e = on_a r x undo_delete e refl (lacks r.key x)

  -- 9: a page of the level, full, that ends with the key's entry and the moved ones and has the right link; B free, and not marked.
  pub split_means : r.kind ≡ split
      → Exactly (fits r.pageA r x)
      (AtLevel r.level x × ((size x ≡ room) × (EndsIn r.key r.entries x.entries × (x.right ≡ r.right))))
  unfolding fits_a
  split_means e =
      on_a r x split e refl
      (both (level r.level x)
      (both (equal (size x) room)
      (said (λ w. (ends_join w.0 w.1.0, w.1.1)) (λ w. let (d, l) = ends_cut w.0 in (d, (l, w.1)))
      (both (same _ r.entries) (both (last_key r.key (kept r.entries x.entries)) (equal x.right r.right))))))

  pub split_b_means : r.kind ≡ split → r.pageB ≢ r.pageA → Exactly (fits r.pageB r x) (x.kind ≡ Free)
  unfolding fits_b
  split_b_means e n = on_b r x split e refl n (of_kind x.kind Free)

  pub split_map_means : r.kind ≡ split → 0 ≢ r.pageA → 0 ≢ r.pageB → Exactly (fits 0 r x) (get_or x.marks r.pageB true ≡ false)
  split_map_means e a b = on_map r x split e refl (λ t. a) (λ t. b) (λ t. clash (sym t)) (taken_means r.pageB x)

  -- 10: an index with room and the entry (second, B), the key strictly between the one before it and second.
  pub link_means : r.kind ≡ link
      → Exactly (fits r.pageA r x) ((x.kind ≡ Index) × ((size x < room) × LinkPlace r.pageB r.key r.second 0 x.entries))
  unfolding fits_a
  link_means e = on_a r x link e refl (both (of_kind x.kind Index) (both (room_for_one x) (link_place r.pageB r.key r.second 0 x.entries)))

  -- 11: an index with (key, B) and (second, C) side by side.
  pub unlink_means : r.kind ≡ unlink
      → Exactly (fits r.pageA r x) ((x.kind ≡ Index) × SidePlace r.pageB r.key r.pageC r.second x.entries)
  unfolding fits_a
  unlink_means e = on_a r x unlink e refl (both (of_kind x.kind Index) (side_place r.pageB r.key r.pageC r.second x.entries))

  -- 12: a page with room for the moved entries, B to its right, its last below the first moved one; B with just these, the right link, marked.
  pub merge_means : r.kind ≡ merge
      → Exactly (fits r.pageA r x)
      (IsNode x × ((size x + length r.entries ≤ room) × ((x.right ≡ r.pageB) × (Follows x.entries r.entries × Children x r.entries))))
  unfolding fits_a
  merge_means e =
      on_a r x merge e refl
      (both (node x)
      (both (at_most (size x + length r.entries) room)
      (both (equal x.right r.pageB) (both (follows x.entries r.entries) (children x r.entries)))))

  pub merge_b_means : r.kind ≡ merge → r.pageB ≢ r.pageA
      → Exactly (fits r.pageB r x) (IsNode x × ((x.entries ≡ r.entries) × (x.right ≡ r.right)))
  unfolding fits_b
  merge_b_means e n = on_b r x merge e refl n (both (node x) (both (same x.entries r.entries) (equal x.right r.right)))

  pub merge_map_means : r.kind ≡ merge → 0 ≢ r.pageA → 0 ≢ r.pageB → Exactly (fits 0 r x) (get_or x.marks r.pageB false ≡ true)
  merge_map_means e a b = on_map r x merge e refl (λ t. a) (λ t. b) (λ t. clash (sym t)) (freed_means r.pageB x)

  -- 13 into A: A takes what B begins with.
  pub into_a_means : r.kind ≡ redistribute → first_key r.entries ≤ r.key
      → Exactly (fits r.pageA r x)
      (IsNode x × ((x.right ≡ r.pageB) × ((size x + length r.entries ≤ room)
      × (LastKey r.key (x.entries ++ r.entries) × (Follows x.entries r.entries × Children x r.entries)))))
  unfolding fits_a share_fits_a
  into_a_means e h =
      on_a r x redistribute e refl
      (both (node x)
      (both (equal x.right r.pageB)
      (rw (le_true (first_key r.entries) r.key h)
      (both (at_most (size x + length r.entries) room)
      (both (last_key r.key (x.entries ++ r.entries)) (both (follows x.entries r.entries) (children x r.entries)))))))

  pub from_b_means : r.kind ≡ redistribute → first_key r.entries ≤ r.key → r.pageB ≢ r.pageA
      → Exactly (fits r.pageB r x) (IsNode x × ((rest : List Entry) × (x.entries ≡ r.entries ++ rest)))
  unfolding fits_b share_fits_b
  from_b_means e h n = on_b r x redistribute e refl n (both (node x) (rw (le_true (first_key r.entries) r.key h) (starts_in r.entries x.entries)))

  -- 13 into B: B takes what A ends with, behind the key's entry.
  pub from_a_means : r.kind ≡ redistribute → r.key < first_key r.entries
      → Exactly (fits r.pageA r x) (IsNode x × ((x.right ≡ r.pageB) × EndsIn r.key r.entries x.entries))
  unfolding fits_a share_fits_a
  from_a_means e h =
      on_a r x redistribute e refl
      (both (node x)
      (both (equal x.right r.pageB)
      (rw (le_false (first_key r.entries) r.key h)
      (said (λ w. ends_join w.0 w.1) ends_cut (both (same _ r.entries) (last_key r.key (kept r.entries x.entries)))))))

  pub into_b_means : r.kind ≡ redistribute → r.key < first_key r.entries → r.pageB ≢ r.pageA
      → Exactly (fits r.pageB r x)
      (IsNode x × ((size x + length r.entries ≤ room) × (Follows r.entries x.entries × Children x r.entries)))
  unfolding fits_b share_fits_b
  into_b_means e h n =
      on_b r x redistribute e refl n
      (both (node x)
      (rw (le_false (first_key r.entries) r.key h)
      (both (at_most (size x + length r.entries) room) (both (follows r.entries x.entries) (children x r.entries)))))

  -- 14: the root as the record says, below level 15; C free, and not marked.
  pub raise_means : r.kind ≡ raise
      → Exactly (fits r.pageA r x) (AtLevel r.level x × ((x.entries ≡ r.entries) × ((x.right ≡ r.pageB) × (r.level < 15))))
  unfolding fits_a
  raise_means e =
      on_a r x raise e refl
      (both (level r.level x) (both (same x.entries r.entries) (both (equal x.right r.pageB) (below r.level 15))))

  pub raise_c_means : r.kind ≡ raise → r.pageC ≢ r.pageA → Exactly (fits r.pageC r x) (x.kind ≡ Free)
  raise_c_means e n = on_c r x raise e refl refl n (of_kind x.kind Free)

  pub raise_map_means : r.kind ≡ raise → 0 ≢ r.pageA → 0 ≢ r.pageC → Exactly (fits 0 r x) (get_or x.marks r.pageC true ≡ false)
  raise_map_means e a c = on_map r x raise e refl (λ t. a) (λ t. clash (sym t)) (λ t. c) (taken_means r.pageC x)

  -- 15: a root one level up with the one child B and no right link; B as the record says, and marked.
  pub lower_means : r.kind ≡ lower
      → Exactly (fits r.pageA r x)
      (AtLevel (suc r.level) x × ((size x ≡ 1) × (((entry_at x.entries 0).val ≡ r.pageB) × (x.right ≡ 0))))
  unfolding fits_a
  lower_means e =
      on_a r x lower e refl
      (both (level (suc r.level) x) (both (equal (size x) 1) (both (equal (entry_at x.entries 0).val r.pageB) (equal x.right 0))))

  pub lower_b_means : r.kind ≡ lower → r.pageB ≢ r.pageA
      → Exactly (fits r.pageB r x) (AtLevel r.level x × ((x.entries ≡ r.entries) × (x.right ≡ 0)))
  unfolding fits_b
  lower_b_means e n = on_b r x lower e refl n (both (level r.level x) (both (same x.entries r.entries) (equal x.right 0)))

  pub lower_map_means : r.kind ≡ lower → 0 ≢ r.pageA → 0 ≢ r.pageB → Exactly (fits 0 r x) (get_or x.marks r.pageB false ≡ true)
  lower_map_means e a b = on_map r x lower e refl (λ t. a) (λ t. b) (λ t. clash (sym t)) (freed_means r.pageB x)

  -- ---- what follows for the order of moved entries

  -- A merge that moves none passes on any page with B to its right.
  pub merge_of_none : r.kind ≡ merge → r.entries ≡ [] → IsNode x → size x ≤ room → x.right ≡ r.pageB → fits r.pageA r x ≡ true
  merge_of_none e n k h w =
      let l : length r.entries ≡ 0 = ap length n in
      (merge_means e).holds
      (k, (omega arith, (w, ((λ q f rest c. let m : length r.entries ≡ suc (length rest) = ap length c in absurd (omega arith)), inr (λ i g. absurd (omega arith))))))

  -- A redistribution is refused where the first moved entry is not above the last of A that takes it,
  pub into_a_refused : r.kind ≡ redistribute → first_key r.entries ≤ r.key → (a : Ending x.entries) (f : Entry) (rest : List Entry)
      → r.entries ≡ f ∷ rest → f.key ≤ a.last.key → fits r.pageA r x ≡ false
  into_a_refused e h a f rest c l = go (case (fits r.pageA r x))
    where
      go : Case (fits r.pageA r x) → fits r.pageA r x ≡ false
      go (no! t) = t
      go (yes! t) = let w = ((into_a_means e h).so t).1.1.1.1.0 a f rest c in absurd (omega arith)

  -- or the last moved one not below the first of B.
  pub into_b_refused : r.kind ≡ redistribute → r.key < first_key r.entries → r.pageB ≢ r.pageA → (a : Ending r.entries) (f : Entry) (rest : List Entry)
      → x.entries ≡ f ∷ rest → f.key ≤ a.last.key → fits r.pageB r x ≡ false
  into_b_refused e h n a f rest c l = go (case (fits r.pageB r x))
    where
      go : Case (fits r.pageB r x) → fits r.pageB r x ≡ false
      go (no! t) = t
      go (yes! t) = let w = ((into_b_means e h n).so t).1.1.0 a f rest c in absurd (omega arith)
