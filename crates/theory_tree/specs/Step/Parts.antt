-- Counts, sizes, marks and matches where one level of a tree is rewritten.
use Rattle.std.specs.Prelude.{ℕ, suc, ◌<◌, ◌≡◌, refl, ◌≢◌, List, [], ◌∷◌, ◌++◌, length, set}
use Rattle.std.proofs.Common.{sym, ap, ◌∙◌, subst, append_assoc, arith, length-append}
use Rattle.def_base.specs.Tests.{eq_true, neq_false}
use Rattle.def_layout.specs.Entries.{insert_sorted, remove_key}
use Rattle.def_layout.specs.Pages.{Page, at}
use Rattle.def_layout.specs.Records.{Kind, Rec, batch_row, data_row}
use Rattle.def_model.specs.Change.{with_entries, cut_to_size, as_a, as_map, role, change_a, page_marked, takes, change}
use Rattle.def_model.specs.Change
use Rattle.def_model.specs.Redo.{when_named, places, redo_places, redo_record}
use Rattle.def_model.specs.TreeRules.{Node, flat, least, counted, root_least}
use Rattle.theory_tree.specs.Shape.Levels.{Match}
use Rattle.theory_tree.specs.Shape.Chains.{All}
use Rattle.theory_tree.specs.Shape.Trees.{Joined, joined_cut, joined_append, Every, all_cut, all_join, Direct}
use Rattle.theory_tree.specs.Change.Roles.{at_part, at_none}
use Rattle.theory_tree.specs.Shape.Marks.{counted_more}
use Rattle.theory_tree.specs.Shape.Sizes.{Sized, SizedLevel, Sizes, every_swap, sizes_swap}
use Rattle.theory_tree.specs.Shape.Rules.{Rooted}
use Rattle.theory_tree.specs.Step.Steps.{Adding, by_insert, by_undo_delete, Removing, by_delete, by_undo_insert, Noting, by_begin, by_commit, by_mark, by_end}

-- ---- the map after a record

-- Page numbers below the number due.
abbrev pub Lows : ℕ → List Page → Type 0
Lows num pages = (p : ℕ) → p < length pages → (at pages p).lsn < num

pub map_set : (num : ℕ) (r : Rec) (pages : List Page) → Lows num pages → 0 < length pages → role r 0 ≡ as_map
    → (at (redo_record num r pages) 0).marks ≡ set (at pages 0).marks (page_marked r) (takes r.kind)
unfolding change cut_to_size
map_set num r pages lows l e = ap (λ x. x.marks) (at_part num r pages 0 as_map l (lows 0 l) e refl)

pub map_same : (num : ℕ) (r : Rec) (pages : List Page) → 0 < length pages → role r 0 ≡ Change.none
    → (at (redo_record num r pages) 0).marks ≡ (at pages 0).marks
map_same num r pages l e = ap (λ x. x.marks) (at_none num r pages 0 l e)

-- ---- one level, or one page, is rewritten

pub counted_same : (ups : List (List Node)) (old new : List Node) (downs : List (List Node)) → length new ≡ length old
    → counted (ups ++ new ∷ downs) ≡ counted (ups ++ old ∷ downs)
unfolding counted
counted_same [] old new downs e = omega arith
counted_same (u ∷ ups) old new downs e = let i = counted_same ups old new downs e in omega arith

pub length_mid : (xs : List Node) (a b : Node) (ys : List Node) → length (xs ++ a ∷ ys) ≡ length (xs ++ b ∷ ys)
length_mid xs a b ys = length-append xs (a ∷ ys) ∙ sym (length-append xs (b ∷ ys))

pub length_two : (xs : List Node) (a b c : Node) (ys : List Node) → length (xs ++ a ∷ b ∷ ys) ≡ suc (length (xs ++ c ∷ ys))
length_two xs a b c ys = let h = length-append xs (a ∷ b ∷ ys) in let g = length-append xs (c ∷ ys) in omega arith

pub length_pair : (xs : List Node) (a b c d : Node) (ys : List Node) → length (xs ++ a ∷ b ∷ ys) ≡ length (xs ++ c ∷ d ∷ ys)
length_pair xs a b c d ys = length-append xs (a ∷ b ∷ ys) ∙ sym (length-append xs (c ∷ d ∷ ys))

-- A level under u is rewritten.
pub joined_under : (ups : List (List Node)) (u old new : List Node) (downs : List (List Node)) → Match (flat u) new → flat new ≡ flat old
    → Joined (ups ++ u ∷ old ∷ downs) → Joined (ups ++ u ∷ new ∷ downs)
unfolding Joined
joined_under ups u old new downs m e j =
    let (j₁, j₂) = joined_cut ups u (old ∷ downs) j in
    joined_append ups u (new ∷ downs) j₁ (m, below downs j₂.1)
  where
    below : (ds : List (List Node)) → Joined (old ∷ ds) → Joined (new ∷ ds)
    below [] j = tt
    below (d ∷ ds) j = (rw e j.0, j.1)

pub under : (ups : List (List Node)) (u x : List Node) (downs : List (List Node)) → (ups ++ u ∷ []) ++ x ∷ downs ≡ ups ++ u ∷ x ∷ downs
under ups u x downs = append_assoc ups (u ∷ []) (x ∷ downs)

sized_under : (ups : List (List Node)) (u : List Node) (d : ℕ) (ns : List Node) → All (Sized least) ns → SizedLevel (ups ++ u ∷ []) d ns
unfolding SizedLevel
sized_under [] u d ns a = a
sized_under (v ∷ ups) u d ns a = a

pub sizes_under : (ups : List (List Node)) (u old new : List Node) (downs : List (List Node)) → All (Sized least) new → Sizes (ups ++ u ∷ old ∷ downs)
    → Sizes (ups ++ u ∷ new ∷ downs)
sizes_under ups u old new downs a s =
    subst Sizes (under ups u new downs)
    (sizes_swap (ups ++ u ∷ []) old new downs (sized_under ups u (length downs) new a) (subst Sizes (sym (under ups u old downs)) s))

pub rooted_under : (ups : List (List Node)) (u old new : List Node) (downs : List (List Node)) → Rooted (ups ++ u ∷ old ∷ downs)
    → Rooted (ups ++ u ∷ new ∷ downs)
unfolding Rooted
rooted_under [] u old new downs r = r
rooted_under (v ∷ ups) u old new downs r = r

pub counted_under : (ups : List (List Node)) (u old new : List Node) (downs : List (List Node)) → length new ≡ length old
    → counted (ups ++ u ∷ new ∷ downs) ≡ counted (ups ++ u ∷ old ∷ downs)
counted_under ups u old new downs e = ap counted (sym (under ups u new downs)) ∙ counted_same (ups ++ u ∷ []) old new downs e ∙ ap counted (under ups u old downs)

pub counted_under_more : (ups : List (List Node)) (u old new : List Node) (downs : List (List Node)) → length new ≡ suc (length old)
    → counted (ups ++ u ∷ new ∷ downs) ≡ suc (counted (ups ++ u ∷ old ∷ downs))
counted_under_more ups u old new downs e = ap counted (sym (under ups u new downs)) ∙ counted_more (ups ++ u ∷ []) old new downs e ∙ ap (λ z. suc (counted z)) (under ups u old downs)

pub every_under : (P : Node → Type 0) (ups : List (List Node)) (u old new : List Node) (downs : List (List Node)) → (All P old → All P new)
    → Every P (ups ++ u ∷ old ∷ downs) → Every P (ups ++ u ∷ new ∷ downs)
every_under P ups u old new downs f e =
    subst (Every P) (under ups u new downs) (every_swap P (ups ++ u ∷ []) old new downs f (subst (Every P) (sym (under ups u old downs)) e))

pub sized_split : (ups : List (List Node)) (d : ℕ) (xs : List Node) (n l r : Node) (ys : List Node) → Direct ups xs n ys → Sized least l
    → Sized least r → SizedLevel ups d (xs ++ n ∷ ys) → SizedLevel ups d (xs ++ l ∷ r ∷ ys)
unfolding SizedLevel Direct All root_least
sized_split [] d xs n l r ys t a b f = rw (t.0, t.1) (a, (b, tt))
sized_split (u ∷ us) d xs n l r ys t a b f = let (p, q, s) = all_cut (Sized least) xs n ys f in all_join (Sized least) xs (l ∷ r ∷ ys) p (a, (b, s))

pub every_join : (P : Node → Type 0) (ups : List (List Node)) (ns : List Node) (downs : List (List Node)) → Every P ups → All P ns → Every P downs
    → Every P (ups ++ ns ∷ downs)
unfolding Every
every_join P [] ns downs a b c = (b, c)
every_join P (u ∷ ups) ns downs a b c = (a.0, every_join P ups ns downs a.1 b c)

-- ---- the records of updates

pub add_role_a : (kind : Kind) (batch previous a key second : ℕ) → Adding kind → role (data_row kind batch previous a key second) a ≡ as_a
unfolding role
add_role_a kind batch previous a key second by_insert = rw (eq_true a a refl)
add_role_a kind batch previous a key second by_undo_delete = rw (eq_true a a refl)

pub add_role_none : (kind : Kind) (batch previous a key second : ℕ) (p : ℕ) → Adding kind → p ≢ a
    → role (data_row kind batch previous a key second) p ≡ Change.none
unfolding role
add_role_none kind batch previous a key second p by_insert n = rw (neq_false n)
add_role_none kind batch previous a key second p by_undo_delete n = rw (neq_false n)

pub add_effect : (kind : Kind) (batch previous a key second : ℕ) → Adding kind → (x : Page)
    → change (data_row kind batch previous a key second) as_a x ≡ with_entries (insert_sorted key second x.entries) x
unfolding change change_a
add_effect kind batch previous a key second by_insert x = refl
add_effect kind batch previous a key second by_undo_delete x = refl

pub cut_role_a : (kind : Kind) (batch previous a key second u : ℕ) → Removing kind second u
    → role (data_row kind batch previous a key second) a ≡ as_a
unfolding role
cut_role_a kind batch previous a key second u by_delete = rw (eq_true a a refl)
cut_role_a kind batch previous a key second u by_undo_insert = rw (eq_true a a refl)

pub cut_role_none : (kind : Kind) (batch previous a key second u : ℕ) (p : ℕ) → Removing kind second u → p ≢ a
    → role (data_row kind batch previous a key second) p ≡ Change.none
unfolding role
cut_role_none kind batch previous a key second u p by_delete n = rw (neq_false n)
cut_role_none kind batch previous a key second u p by_undo_insert n = rw (neq_false n)

pub cut_effect : (kind : Kind) (batch previous a key second u : ℕ) → Removing kind second u → (x : Page)
    → change (data_row kind batch previous a key second) as_a x ≡ with_entries (remove_key key x.entries) x
unfolding change change_a
cut_effect kind batch previous a key second u by_delete x = refl
cut_effect kind batch previous a key second u by_undo_insert x = refl

pub note_same : (num : ℕ) (kind : Kind) (batch previous : ℕ) → Noting kind → (pages : List Page)
    → redo_record num (batch_row kind batch previous) pages ≡ pages
unfolding redo_record places when_named redo_places
note_same num kind batch previous by_begin pages = refl
note_same num kind batch previous by_commit pages = refl
note_same num kind batch previous by_mark pages = refl
note_same num kind batch previous by_end pages = refl
