-- THE STEPS: what one record of an update does to the levels, one constructor a kind, stated by where the lists are cut.
use Rattle.std.specs.Prelude.{ℕ, suc, ◌≤◌, ◌<◌, ◌≡◌, List, [], ◌∷◌, ◌++◌, length}
use Rattle.std.proofs.Math.Option.{none, some}
use Rattle.def_layout.specs.declared.Entry.{Entry}
use Rattle.def_layout.specs.Entries.{top, entry, look, insert_sorted, remove_key}
use Rattle.def_layout.specs.Sizes.{room}
use Rattle.def_layout.specs.Pages.{Page, at}
use Rattle.def_layout.specs.Records.{Kind, begin, insert, delete, undo_insert, undo_delete, commit, abort_mark, end, Rec, batch_row, data_row, split_row, link_row, unlink_row, merge_row, redistribute_row, raise_row, lower_row}
use Rattle.def_model.specs.TreeRules.{Node, flat, first_page, least}
use Rattle.theory_tree.specs.Shape.Levels.{Match, from_of}
use Rattle.theory_tree.specs.Change.LevelChanges.{Splits}
use Rattle.theory_tree.specs.Shape.Trees.{Direct}
use Rattle.theory_tree.specs.Change.Split.{left_half, right_half}
use Rattle.theory_tree.specs.Change.Edit.{with_items}
use Rattle.theory_tree.specs.Change.Merge.{merged}
use Rattle.theory_tree.specs.Change.Share.{shared_left, shared_right}
use Rattle.theory_tree.specs.Shape.Marks.{Gives}
use Rattle.theory_tree.specs.Shape.Sizes.{Sized, SizedLevel}

-- ---- kinds of records

-- The kinds that put a record into a leaf and those that take one out. (An undo-insert carries no value.)
pub data Adding : Kind → Type 0 where
  by_insert : Adding insert
  by_undo_delete : Adding undo_delete

pub data Removing : Kind → ℕ → ℕ → Type 0 where
  by_delete : {v : ℕ} → Removing delete v v
  by_undo_insert : {u : ℕ} → Removing undo_insert 0 u

-- The kinds that change no page.
pub data Noting : Kind → Type 0 where
  by_begin : Noting begin
  by_commit : Noting commit
  by_mark : Noting abort_mark
  by_end : Noting end

-- ---- nodes after a change

abbrev pub linked : Node → Node → Node → Entry → List Entry → List Entry → Node
linked p q r e pre post = record { page = p.page; high = p.high; items = pre ++ entry q.high q.page ∷ entry e.key r.page ∷ post }

abbrev pub unlinked : Node → Node → Node → List Entry → List Entry → Node
unlinked p q r pre post = record { page = p.page; high = p.high; items = pre ++ entry r.high q.page ∷ post }

abbrev pub old_root : Node → ℕ → Node
old_root r c = record { page = c; high = r.high; items = r.items }

abbrev pub new_root : Node → Node → ℕ → Node
new_root r s c = record { page = 1; high = top; items = entry r.high c ∷ entry top s.page ∷ [] }

abbrev pub lowered : Node → Node → Node
lowered n q = record { page = 1; high = n.high; items = q.items }

-- THE STEPS, from levels to levels. (Above the level that changes stand the levels ups, below it downs; beside the node stand xs and ys, and
-- beside the nodes of the level below bs and cs; beside the entry stand pre and post, or es and fs in the whole level.)
pub data Step (pages : List Page) : List (List Node) → Rec → List (List Node) → Type 0 where
  -- A full page that stands for its entry alone gives its last seven entries to a page taken.
  splits : (ups : List (List Node)) (xs : List Node) (n : Node) (ys : List Node) (downs : List (List Node)) (b key : ℕ) (moved : List Entry)
      → Splits n (left_half n key moved) (right_half n b moved) → length n.items ≡ room → length moved ≡ 7 → Direct ups xs n ys
      → Gives (length pages) (at pages 0).marks b → 0 < b
      → Step pages (ups ++ (xs ++ n ∷ ys) ∷ downs) (split_row (length downs) n.page b key n.high (first_page ys 0) moved)
      (ups ++ (xs ++ left_half n key moved ∷ right_half n b moved ∷ ys) ∷ downs)
  -- An indirect page gets its entry.
  links : (ups : List (List Node)) (xs : List Node) (p : Node) (ys bs : List Node) (q r : Node) (cs : List Node) (downs : List (List Node))
      (pre : List Entry) (e : Entry) (post : List Entry)
      → p.items ≡ pre ++ e ∷ post → length p.items < room → e.val ≡ q.page → q.high < e.key → r.high ≡ e.key → Match (flat xs ++ pre) bs
      → Match (post ++ flat ys) cs
      → Step pages (ups ++ (xs ++ p ∷ ys) ∷ (bs ++ q ∷ r ∷ cs) ∷ downs) (link_row p.page q.page r.page q.high e.key)
      (ups ++ (xs ++ linked p q r e pre post ∷ ys) ∷ (bs ++ q ∷ r ∷ cs) ∷ downs)
  -- A page loses its entry and becomes indirect; the level keeps its sizes.
  unlinks : (ups : List (List Node)) (xs : List Node) (p : Node) (ys bs : List Node) (q r : Node) (cs : List Node) (downs : List (List Node))
      (pre : List Entry) (e₁ e₂ : Entry) (post : List Entry)
      → p.items ≡ pre ++ e₁ ∷ e₂ ∷ post → e₁.val ≡ q.page → e₁.key ≡ q.high → e₂.val ≡ r.page → e₂.key ≡ r.high → q.high < r.high
      → Match (flat xs ++ pre) bs → Match (post ++ flat ys) cs → SizedLevel ups (suc (length downs)) (xs ++ unlinked p q r pre post ∷ ys)
      → Step pages (ups ++ (xs ++ p ∷ ys) ∷ (bs ++ q ∷ r ∷ cs) ∷ downs) (unlink_row p.page q.page r.page q.high r.high)
      (ups ++ (xs ++ unlinked p q r pre post ∷ ys) ∷ (bs ++ q ∷ r ∷ cs) ∷ downs)
  -- An indirect page is joined to the page before it, and freed.
  merges : (ups : List (List Node)) (u bs : List Node) (q r : Node) (cs : List Node) (downs : List (List Node)) (es : List Entry) (e : Entry)
      (fs : List Entry)
      → flat u ≡ es ++ e ∷ fs → e.val ≡ q.page → r.high ≡ e.key → Match es bs → Match fs cs → length (q.items ++ r.items) ≤ room
      → Step pages (ups ++ u ∷ (bs ++ q ∷ r ∷ cs) ∷ downs) (merge_row q.page r.page r.high (first_page cs 0) r.items)
      (ups ++ u ∷ (bs ++ merged q r ∷ cs) ∷ downs)
  -- An indirect page and the page before it share their entries anew.
  shares : (ups : List (List Node)) (u bs : List Node) (q r : Node) (cs : List Node) (downs : List (List Node)) (es : List Entry) (e : Entry)
      (fs : List Entry) (key : ℕ) (moved : List Entry)
      → flat u ≡ es ++ e ∷ fs → e.val ≡ q.page → r.high ≡ e.key → Match es bs → Match fs cs
      → Splits (merged q r) (shared_left q key moved) (shared_right r key moved) → Sized least (shared_left q key moved)
      → Sized least (shared_right r key moved)
      → Step pages (ups ++ u ∷ (bs ++ q ∷ r ∷ cs) ∷ downs) (redistribute_row q.page r.page key moved)
      (ups ++ u ∷ (bs ++ shared_left q key moved ∷ shared_right r key moved ∷ cs) ∷ downs)
  -- The root with a right sibling: its contents go to a page taken.
  raises : (r s : Node) (downs : List (List Node)) (c : ℕ) → Gives (length pages) (at pages 0).marks c → 0 < c
      → Step pages ((r ∷ s ∷ []) ∷ downs) (raise_row (length downs) s.page c r.high r.items)
      ((new_root r s c ∷ []) ∷ (old_root r c ∷ s ∷ []) ∷ downs)
  -- The root with one link takes its child's contents; the child is freed.
  lowers : (n q : Node) (downs : List (List Node)) (e : Entry) → n.page ≡ 1 → n.items ≡ e ∷ [] → e.val ≡ q.page → q.high ≡ e.key
      → Step pages ((n ∷ []) ∷ (q ∷ []) ∷ downs) (lower_row (length downs) q.page q.items) ((lowered n q ∷ []) ∷ downs)
  -- A record is filed in the leaf that covers its key, and was not there.
  puts : (kind : Kind) (batch previous k v : ℕ) (ups : List (List Node)) (xs : List Node) (n : Node) (ys : List Node)
      → Adding kind → from_of 0 xs ≤ k → k ≤ n.high → look k n.items ≡ none → length n.items < room
      → Step pages (ups ++ (xs ++ n ∷ ys) ∷ []) (data_row kind batch previous n.page k v)
      (ups ++ (xs ++ with_items (insert_sorted k v n.items) n ∷ ys) ∷ [])
  -- A record is taken from the leaf that covers its key; the level keeps its sizes.
  cuts : (kind : Kind) (batch previous k v u : ℕ) (ups : List (List Node)) (xs : List Node) (n : Node) (ys : List Node)
      → Removing kind v u → from_of 0 xs ≤ k → k ≤ n.high → look k n.items ≡ some u
      → SizedLevel ups 0 (xs ++ with_items (remove_key k n.items) n ∷ ys)
      → Step pages (ups ++ (xs ++ n ∷ ys) ∷ []) (data_row kind batch previous n.page k v)
      (ups ++ (xs ++ with_items (remove_key k n.items) n ∷ ys) ∷ [])
  -- A record that changes no page.
  notes : {ls : List (List Node)} (kind : Kind) (batch previous : ℕ) → Noting kind → Step pages ls (batch_row kind batch previous) ls
