-- What each step does to the records in the leaves: the seven changes of the tree nothing, an update what it says.
use Rattle.std.specs.Prelude.{ℕ, suc, ◌≡◌, refl, true, List, [], ◌∷◌, ◌++◌}
use Rattle.std.proofs.Common.{sym, ap, ◌∙◌, append_assoc}
use Rattle.def_layout.specs.declared.Entry.{Entry}
use Rattle.def_layout.specs.Entries.{top, insert_sorted, remove_key}
use Rattle.def_layout.specs.Pages.{Page}
use Rattle.def_layout.specs.Records.{Kind, begin, insert, delete, undo_insert, undo_delete, commit, abort_mark, end, split, link, unlink, merge, redistribute, raise, lower, Rec}
use Rattle.def_model.specs.TreeRules.{Node, flat, bottom, leaves}
use Rattle.theory_tree.specs.Change.LevelChanges.{split_flat, Merges, merge_flat, share_flat}
use Rattle.theory_tree.specs.Shape.Trees.{levels_at}
use Rattle.theory_tree.specs.Change.Split.{left_half, right_half}
use Rattle.theory_tree.specs.Change.Edit.{with_items}
use Rattle.theory_tree.specs.Change.Merge.{merged}
use Rattle.theory_tree.specs.Change.Share.{shared_left, shared_right}
use Rattle.theory_tree.specs.Shape.Rules.{Rules}
use Rattle.theory_tree.specs.Order.Covers.{insert_leaf, covers_at, remove_leaf}
use Rattle.theory_tree.specs.Step.Steps.{Adding, by_insert, by_undo_delete, Removing, by_delete, by_undo_insert, Noting, by_begin, by_commit, by_mark, by_end, old_root, new_root, lowered, Step, splits, links, unlinks, merges, shares, raises, lowers, puts, cuts, notes}

-- ---- where levels are rewritten

pub leaves_swap : (ups : List (List Node)) (old new : List Node) (downs : List (List Node)) → flat new ≡ flat old
    → leaves (ups ++ new ∷ downs) ≡ leaves (ups ++ old ∷ downs)
unfolding leaves bottom
leaves_swap [] old new [] e = e
leaves_swap [] old new (d ∷ ds) e = refl
leaves_swap (u ∷ []) old new downs e = leaves_swap [] old new downs e
leaves_swap (u ∷ v ∷ ups) old new downs e = leaves_swap (v ∷ ups) old new downs e

pub leaves_above : (ups : List (List Node)) (old new low : List Node) (downs : List (List Node))
    → leaves (ups ++ new ∷ low ∷ downs) ≡ leaves (ups ++ old ∷ low ∷ downs)
unfolding leaves bottom
leaves_above [] old new low downs = refl
leaves_above (u ∷ []) old new low downs = refl
leaves_above (u ∷ v ∷ ups) old new low downs = leaves_above (v ∷ ups) old new low downs

pub leaves_under : (ups : List (List Node)) (u old new : List Node) (downs : List (List Node)) → flat new ≡ flat old
    → leaves (ups ++ u ∷ new ∷ downs) ≡ leaves (ups ++ u ∷ old ∷ downs)
leaves_under ups u old new downs e =
    ap leaves (sym (append_assoc ups (u ∷ []) (new ∷ downs))) ∙ leaves_swap (ups ++ u ∷ []) old new downs e ∙ ap leaves (append_assoc ups (u ∷ []) (old ∷ downs))

pub leaves_last : (ups : List (List Node)) (l : List Node) → leaves (ups ++ l ∷ []) ≡ flat l
unfolding leaves bottom
leaves_last [] l = refl
leaves_last (u ∷ []) l = refl
leaves_last (u ∷ v ∷ ups) l = leaves_last (v ∷ ups) l

-- ---- the steps

-- The records in the leaves after a record of the log.
unfoldable pub records_after : Kind → ℕ → ℕ → List Entry → List Entry
records_after begin k v l = l
records_after insert k v l = insert_sorted k v l
records_after delete k v l = remove_key k l
records_after undo_insert k v l = remove_key k l
records_after undo_delete k v l = insert_sorted k v l
records_after commit k v l = l
records_after abort_mark k v l = l
records_after end k v l = l
records_after split k v l = l
records_after link k v l = l
records_after unlink k v l = l
records_after merge k v l = l
records_after redistribute k v l = l
records_after raise k v l = l
records_after lower k v l = l

after_adding : (kind : Kind) (k v : ℕ) (l : List Entry) → Adding kind → records_after kind k v l ≡ insert_sorted k v l
unfolding records_after
after_adding kind k v l by_insert = refl
after_adding kind k v l by_undo_delete = refl

after_removing : (kind : Kind) (k v u : ℕ) (l : List Entry) → Removing kind v u → records_after kind k v l ≡ remove_key k l
unfolding records_after
after_removing kind k v u l by_delete = refl
after_removing kind k v u l by_undo_insert = refl

after_noting : (kind : Kind) (k v : ℕ) (l : List Entry) → Noting kind → records_after kind k v l ≡ l
unfolding records_after
after_noting kind k v l by_begin = refl
after_noting kind k v l by_commit = refl
after_noting kind k v l by_mark = refl
after_noting kind k v l by_end = refl

merges_itself : (q r : Node) → Merges q r (merged q r)
merges_itself q r = record { same_page = refl; same_items = refl; same_high = refl }

raise_leaves : (r s : Node) (c : ℕ) (downs : List (List Node))
    → leaves ((new_root r s c ∷ []) ∷ (old_root r c ∷ s ∷ []) ∷ downs) ≡ leaves ((r ∷ s ∷ []) ∷ downs)
unfolding leaves bottom flat
raise_leaves r s c [] = refl
raise_leaves r s c (d ∷ ds) = refl

lower_leaves : (n q : Node) (downs : List (List Node)) → leaves ((lowered n q ∷ []) ∷ downs) ≡ leaves ((n ∷ []) ∷ (q ∷ []) ∷ downs)
unfolding leaves bottom flat
lower_leaves n q [] = refl
lower_leaves n q (d ∷ ds) = refl

pub step_leaves : (pages : List Page) (ls ls' : List (List Node)) (r : Rec) → Step pages ls r ls' → Rules pages ls
    → leaves ls' ≡ records_after r.kind r.key r.second (leaves ls)
unfolding records_after
step_leaves pages ls ls' r (splits ups xs n ys downs b key moved s full seven d g pos) k =
    leaves_swap ups (xs ++ n ∷ ys) _ downs (split_flat n (left_half n key moved) (right_half n b moved) s xs ys)
step_leaves pages ls ls' r (links ups xs p ys bs q t cs downs pre e post old space v l h m₁ m₂) k = leaves_above ups (xs ++ p ∷ ys) _ (bs ++ q ∷ t ∷ cs) downs
step_leaves pages ls ls' r (unlinks ups xs p ys bs q t cs downs pre e₁ e₂ post old v₁ k₁ v₂ k₂ qr m₁ m₂ fit) k = leaves_above ups (xs ++ p ∷ ys) _ (bs ++ q ∷ t ∷ cs) downs
step_leaves pages ls ls' r (merges ups u bs q t cs downs es e fs w v h m₁ m₂ space) k =
    leaves_under ups u (bs ++ q ∷ t ∷ cs) _ downs (merge_flat q t (merged q t) (merges_itself q t) bs cs)
step_leaves pages ls ls' r (shares ups u bs q t cs downs es e fs key moved w v h m₁ m₂ s z₁ z₂) k =
    leaves_under ups u (bs ++ q ∷ t ∷ cs) _ downs (share_flat q t (merged q t) (shared_left q key moved) (shared_right t key moved) (merges_itself q t) s bs cs)
step_leaves pages ls ls' r (raises a s downs c g pos) k = raise_leaves a s c downs
step_leaves pages ls ls' r (lowers n q downs e root only is ends) k = lower_leaves n q downs
step_leaves pages ls ls' r (puts kind batch previous key v ups xs n ys a low within absent space) k =
    let c = covers_at true key xs n ys (levels_at pages ups (xs ++ n ∷ ys) [] k.levels).chain low within in
    leaves_last ups _ ∙ insert_leaf key v 0 xs n (with_items (insert_sorted key v n.items) n) ys (suc top) c refl
    ∙ ap (insert_sorted key v) (sym (leaves_last ups (xs ++ n ∷ ys))) ∙ sym (after_adding kind key v (leaves (ups ++ (xs ++ n ∷ ys) ∷ [])) a)
step_leaves pages ls ls' r (cuts kind batch previous key v u ups xs n ys a low within there fit) k =
    let c = covers_at true key xs n ys (levels_at pages ups (xs ++ n ∷ ys) [] k.levels).chain low within in
    leaves_last ups _ ∙ remove_leaf key 0 xs n (with_items (remove_key key n.items) n) ys (suc top) c refl
    ∙ ap (remove_key key) (sym (leaves_last ups (xs ++ n ∷ ys))) ∙ sym (after_removing kind key v u (leaves (ups ++ (xs ++ n ∷ ys) ∷ [])) a)
step_leaves pages ls ls' r (notes kind batch previous q) k = sym (after_noting kind 0 0 (leaves ls) q)
