-- 01, "Going down to change key k": the records that an update writes, one after another.
use Rattle.std.specs.Prelude.{ℕ, zero, suc, ◌+◌, ◌-◌, ◌/◌, Bool, true, false, ◌&&◌, List, [], ◌∷◌, ◌++◌, length, get_or, take, drop, leb, ltb, eqb}
use Rattle.std.proofs.Math.Option.{Option, none, some}
use Rattle.def_base.specs.Tests.{pick}
use Rattle.def_layout.specs.declared.Entry.{Entry}
use Rattle.def_layout.specs.Entries.{no_entry, key_at}
use Rattle.def_layout.specs.Sizes.{room}
use Rattle.def_layout.specs.Pages.{Page, at, size}
use Rattle.def_layout.specs.Records.{Rec, Kind, split_row, link_row, unlink_row, merge_row, redistribute_row, raise_row, lower_row, data_row}
use Rattle.def_model.specs.Redo.{places, redo_record, redo_lefts}
use Rattle.def_model.specs.TreeRules.{least}
use Rattle.def_model.specs.Lookup.{entry_for, covering, first_of}

-- The pages and their left links, the log, the number due, the room (how many records may still be written), and why it stopped (0: it goes on; else 17 or 18,
-- the first that was met).
pub record Run : Type 0 where
  pub pages : List Page
  pub lefts : List ℕ
  pub log : List Rec
  pub due : ℕ
  pub room : ℕ
  pub stop : ℕ

abbrev pub going : Run → Bool
going s = eqb s.stop 0

abbrev pub stopped : ℕ → Run → Run
stopped n s = record { pages = s.pages; lefts = s.lefts; log = s.log; due = s.due; room = s.room; stop = n }

-- One record is logged and applied, if there is room for it.
unfoldable pub logged : Rec → Run → Run
logged r s = record { pages = redo_record s.due r s.pages; lefts = redo_lefts s.due r (places r) s.pages s.lefts; log = s.log ++ r ∷ []; due = suc s.due; room = s.room - 1; stop = 0 }

unfoldable pub emit_by : (goes has_room : Bool) → Rec → Run → Run
emit_by true true r s = logged r s
emit_by true false r s = stopped 17 s
emit_by false b r s = s

unfoldable pub emit : Rec → Run → Run
emit r s = emit_by (going s) (ltb 0 s.room) r s

-- ---- pages are taken

-- THE PAGE TAKEN when page `near` is split, or 1 is raised. 01: "The page taken is the free one with the highest number"; 0 if there is none. (`near` is
-- named, though 01 does not look at it, because which free page is taken is this definition's choice alone, and may come to depend on it.)
unfoldable pub highest : ℕ → List Bool → ℕ
highest zero marks = 0
highest (suc n) marks = let r = highest n marks in pick (get_or marks n true) r n

unfoldable pub fresh : List Page → ℕ → ℕ
fresh pages near = highest (length pages) (at pages 0).marks

-- A record that takes a page: room for the record is asked for first.
unfoldable pub taking_by : (no_page : Bool) → Rec → Run → Run
taking_by true r s = stopped 18 s
taking_by false r s = emit r s

unfoldable pub emit_taking : (ℕ → Rec) → ℕ → Run → Run
emit_taking f near s = taking_by (going s && ltb 0 s.room && eqb (fresh s.pages near) 0) (f (fresh s.pages near)) s

-- ---- split and link

-- 01: "A split of 14 leaves 7 and 7 .. the left page's high key becomes its last entry's."
unfoldable pub split_page : ℕ → Run → Run
split_page p s =
    let x = at s.pages p in
    emit_taking (λ b. split_row x.level p b (key_at x.entries 6) x.high x.right (drop 7 x.entries)) p s

-- A run, and the page that it has come to.
pub record At : Type 0 where
  pub run : Run
  pub page : ℕ

-- 01: "split P if it has 14 entries and go on in the half covering k". (Each decision is a function by clauses on its test.)
unfoldable pub room_by : (full : Bool) → ℕ → ℕ → Run → At
room_by false k p s = record { run = s; page = p }
room_by true k p s = let t = split_page p s in record { run = t; page = covering k p t.pages }

unfoldable pub make_room : ℕ → ℕ → Run → At
make_room k p s = room_by (eqb (size (at s.pages p)) room) k p s

-- The page after q is linked under p's entry w.
unfoldable pub link_child : ℕ → ℕ → ℕ → Run → Run
link_child p q w s = emit (link_row p q (at s.pages q).right (at s.pages q).high w) s

-- A run, an index page and its child that covers k.
pub record Pair : Type 0 where
  pub run : Run
  pub parent : ℕ
  pub child : ℕ

unfoldable pub linked_by : ℕ → Entry → At → Pair
linked_by k e a = let t = link_child a.page e.val e.key a.run in record { run = t; parent = a.page; child = covering k e.val t.pages }

unfoldable pub direct_by : (indirect : Bool) → ℕ → ℕ → Run → Entry → Pair
direct_by false k p s e = record { run = s; parent = p; child = e.val }
direct_by true k p s e = linked_by k e (make_room k p s)

unfoldable pub direct_for : ℕ → ℕ → Run → Entry → Pair
direct_for k p s e = direct_by (ltb (at s.pages e.val).high e.key) k p s e

-- Step 2: "At index page P, child Q has the least entry key not below k. If Q's high key is below that entry: .. link; Q becomes the half covering k."
unfoldable pub direct : ℕ → ℕ → Run → Pair
direct k p s = direct_for k p s (entry_for k (at s.pages p).entries)

-- ---- the root is raised

unfoldable pub raise_by : (alone : Bool) → Run → Run
raise_by true s = s
raise_by false s = let x = at s.pages 1 in emit_taking (λ c. raise_row x.level x.right c x.high x.entries) 1 s

-- Step 1: "If the root has a right sibling: raise."
unfoldable pub raise_root : Run → Run
raise_root s = raise_by (eqb (at s.pages 1).right 0) s

-- ---- adding

unfoldable pub descend_add : ℕ → ℕ → ℕ → Run → At
descend_add zero k p s = record { run = s; page = p }
descend_add (suc l) k p s = let d = direct k p s in descend_add l k d.child d.run

-- Step 4: "When adding, a full leaf is split."
unfoldable pub find_add : ℕ → Run → At
find_add k s =
    let t = raise_root s in
    let a = descend_add (at t.pages 1).level k 1 t in
    make_room k a.page a.run

-- AN ADDITION: an insert or an undo-delete.
unfoldable pub put_record : Kind → ℕ → ℕ → ℕ → ℕ → Run → Run
put_record kind batch previous k v s = let a = find_add k s in emit (data_row kind batch previous a.page k v) a.run

-- ---- joining

-- 01: "Redistribution gives the left page the larger half."
abbrev pub share : List Entry → List Entry → ℕ
share a b = (length a + length b + 1) / 2

unfoldable pub moved_by : (into_left : Bool) → List Entry → List Entry → List Entry
moved_by true a b = drop (length a) (take (share a b) (a ++ b))
moved_by false a b = drop (share a b) a

-- 01: "Join means merge if together they hold at most 14; otherwise redistribute, then link again."
unfoldable pub join_by : (fit_in_one : Bool) → ℕ → ℕ → ℕ → ℕ → Run → Run
join_by true p l r w s = let y = at s.pages r in emit (merge_row l r y.high y.right y.entries) s
join_by false p l r w s =
    let a = (at s.pages l).entries in
    let b = (at s.pages r).entries in
    link_child p l w (emit (redistribute_row l r (key_at (a ++ b) (share a b - 1)) (moved_by (ltb (length a) (share a b)) a b)) s)

unfoldable pub join : ℕ → ℕ → ℕ → ℕ → Run → Run
join p l r w s = join_by (leb (size (at s.pages l) + size (at s.pages r)) room) p l r w s

-- The entry after, and the entry before, the one that leads to k.
unfoldable pub next_entry : ℕ → List Entry → Option Entry
next_entry k [] = none
next_entry k (e ∷ es) = pick (ltb e.key k) (next_entry k es) (first_of es)

unfoldable pub entry_before : ℕ → Entry → List Entry → Entry
entry_before k d [] = d
entry_before k d (e ∷ es) = pick (ltb e.key k) (entry_before k e es) d

-- 01: "link an indirect page after R".
unfoldable pub link_after_by : (indirect : Bool) → ℕ → ℕ → ℕ → Run → Run
link_after_by false p r w s = s
link_after_by true p r w s = link_child p r w s

unfoldable pub link_after : ℕ → ℕ → ℕ → Run → Run
link_after p r w s = link_after_by (ltb (at s.pages r).high w) p r w s

-- 01: "unlink R; join Q and R"; "unlink Q; join L and Q".
unfoldable pub unlink_join : ℕ → ℕ → ℕ → Run → Run
unlink_join p l r t = let w = (at t.pages r).high in join p l r w (emit (unlink_row p l r (at t.pages l).high w) t)

-- The left neighbour of q: the child d of the entry before, or the page after it that has just been linked.
unfoldable pub join_left : ℕ → ℕ → ℕ → Run → Run
join_left p d q t = unlink_join p (pick (eqb (at t.pages d).right q) d (at t.pages d).right) q t

-- 01: "If Q is not P's last child, take R, the next ..; If Q is last, take its left neighbour L, linking it first if indirect".
unfoldable pub join_by_entry : Option Entry → ℕ → ℕ → Entry → Run → Run
join_by_entry (some f) p q d s = unlink_join p q f.val (link_after p f.val f.key s)
join_by_entry none p q d s = join_left p d.val q (link_after p d.val d.key s)

unfoldable pub restock : ℕ → ℕ → At → Run
restock k q a =
    let es = (at a.run.pages a.page).entries in
    join_by_entry (next_entry k es) a.page q (entry_before k no_entry es) a.run

-- 01: "Go on in the page covering k."
unfoldable pub refind : ℕ → ℕ → Run → At
refind k p t = record { run = t; page = covering k (entry_for k (at t.pages p).entries).val t.pages }

-- Step 3: "if Q has 4 entries: split P if full", then join.
unfoldable pub stocked_by : (has_least : Bool) → ℕ → Pair → At
stocked_by false k d = record { run = d.run; page = d.child }
stocked_by true k d = let a = make_room k d.parent d.run in refind k a.page (restock k d.child a)

unfoldable pub stocked : ℕ → Pair → At
stocked k d = stocked_by (eqb (size (at d.run.pages d.child)) least) k d

-- ---- removing

unfoldable pub lower_root : ℕ → Run → Run
lower_root q s = emit (lower_row (at s.pages q).level q (at s.pages q).entries) s

-- Step 3: "if P is the root with one link, lower it and repeat from there."
abbrev pub lone : Pair → Bool
lone d = eqb d.parent 1 && eqb (size (at d.run.pages d.parent)) 1

unfoldable pub step_by : (lone_link : Bool) → ℕ → Pair → At
step_by true k d = record { run = lower_root d.child d.run; page = 1 }
step_by false k d = stocked k d

unfoldable pub descend_remove : ℕ → ℕ → ℕ → Run → At
descend_remove zero k p s = record { run = s; page = p }
descend_remove (suc l) k p s = let d = direct k p s in let a = step_by (lone d) k d in descend_remove l k a.page a.run

-- A REMOVAL: a delete or an undo-insert.
unfoldable pub remove_record : Kind → ℕ → ℕ → ℕ → ℕ → Run → Run
remove_record kind batch previous k v s =
    let t = raise_root s in
    let a = descend_remove (at t.pages 1).level k 1 t in
    emit (data_row kind batch previous a.page k v) a.run
