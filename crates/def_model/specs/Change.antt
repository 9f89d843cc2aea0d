-- What a log record does to each page that it changes: once, for live work and for redo.
use Rattle.std.specs.Prelude.{ℕ, suc, ◌-◌, ◌%◌, ◌≡◌, refl, Bool, true, false, ◌&&◌, List, [], ◌∷◌, ◌++◌, length, take, drop, set, leb, ltb, eqb}
use Rattle.def_base.specs.Tests.{pick}
use Rattle.def_layout.specs.declared.Entry.{Entry}
use Rattle.def_layout.specs.Entries.{entry, top, insert_sorted, remove_key}
use Rattle.def_layout.specs.Sizes.{room}
use Rattle.def_layout.specs.Pages.{Page, node_at, freed}
use Rattle.def_layout.specs.declared.page.PageKind.{PageKind}
use Rattle.def_layout.specs.declared.page.PageKind.TheVariants.{Free, Leaf, Index, Map}
use Rattle.def_layout.specs.Records.{Rec, Kind, begin, insert, delete, undo_insert, undo_delete, commit, abort_mark, end, split, link, unlink, merge, redistribute, raise, lower}

-- ---- entries

-- Link: the entry (w, b) becomes (u, b), (w, c).
unfoldable pub link_in : ℕ → ℕ → ℕ → ℕ → List Entry → List Entry
link_in b u c w [] = []
link_in b u c w (e ∷ es) = pick (ltb e.key w) (e ∷ link_in b u c w es) (entry u b ∷ entry w c ∷ es)

-- Unlink: the entries (u, b) and the one after it become (w, b).
unfoldable pub unlink_in : ℕ → ℕ → ℕ → List Entry → List Entry
unlink_in b u w [] = []
unlink_in b u w (e ∷ []) = e ∷ []
unlink_in b u w (e ∷ f ∷ es) = pick (ltb e.key u) (e ∷ unlink_in b u w (f ∷ es)) (entry w b ∷ es)

abbrev pub first_key : List Entry → ℕ
first_key [] = 0
first_key (e ∷ es) = e.key

-- What a page keeps where its last entries, as many as `moved`, go.
abbrev pub kept : List Entry → List Entry → List Entry
kept moved es = take (length es - length moved) es

-- ---- a page with some fields anew

abbrev pub with_lsn : ℕ → Page → Page
with_lsn n x = record { kind = x.kind; level = x.level; right = x.right; high = x.high; lsn = n; own = x.own; entries = x.entries; marks = x.marks }

abbrev pub with_entries : List Entry → Page → Page
with_entries es x = record { kind = x.kind; level = x.level; right = x.right; high = x.high; lsn = x.lsn; own = x.own; entries = es; marks = x.marks }

abbrev pub with_marks : List Bool → Page → Page
with_marks m x = record { kind = x.kind; level = x.level; right = x.right; high = x.high; lsn = x.lsn; own = x.own; entries = x.entries; marks = m }

abbrev pub with_chain : ℕ → ℕ → List Entry → Page → Page
with_chain right high es x = record { kind = x.kind; level = x.level; right = right; high = high; lsn = x.lsn; own = x.own; entries = es; marks = x.marks }

-- A page has four bits for its level and room for 14 entries, and the map has none; no change that fits its page goes beyond.
unfoldable pub entries_in : PageKind → List Entry → List Entry
entries_in Free es = take room es
entries_in Leaf es = take room es
entries_in Index es = take room es
entries_in Map es = []

unfoldable pub cut_to_size : Page → Page
cut_to_size x = record { kind = x.kind; level = x.level % 16; right = x.right; high = x.high; lsn = x.lsn; own = x.own; entries = entries_in x.kind x.entries; marks = x.marks }

-- ---- the pages that a record changes

-- A page's part in a record.
pub data Role : Type 0 where
  none as_a as_b as_c as_map : Role

-- Which of A, B, C and the map a kind changes. 01: "each page it changes, the map where a page is taken or freed".
pub record Shape : Type 0 where
  pub a : Bool
  pub b : Bool
  pub c : Bool
  pub m : Bool

abbrev pub changes : (a b c m : Bool) → Shape
changes a b c m = record { a = a; b = b; c = c; m = m }

abbrev pub shape : Kind → Shape
shape begin = changes false false false false
shape insert = changes true false false false
shape delete = changes true false false false
shape undo_insert = changes true false false false
shape undo_delete = changes true false false false
shape commit = changes false false false false
shape abort_mark = changes false false false false
shape end = changes false false false false
shape split = changes true true false true
shape link = changes true false false false
shape unlink = changes true false false false
shape merge = changes true true false true
shape redistribute = changes true true false false
shape raise = changes true false true true
shape lower = changes true true false true

-- A page that a record names twice has its first part.
unfoldable pub role : Rec → ℕ → Role
role r p =
    pick ((shape r.kind).a && eqb p r.pageA) as_a
    (pick ((shape r.kind).b && eqb p r.pageB) as_b
    (pick ((shape r.kind).c && eqb p r.pageC) as_c
    (pick ((shape r.kind).m && eqb p 0) as_map none)))

abbrev pub hit : Role → Bool
hit none = false
hit as_a = true
hit as_b = true
hit as_c = true
hit as_map = true

-- ---- the change, by kind and role

-- 01 on 13: "into A if not above key, else into B".
abbrev pub into_a : Rec → Bool
into_a r = leb (first_key r.entries) r.key

unfoldable pub share_in_a : (goes_into_a : Bool) → Rec → List Entry → List Entry
share_in_a true r es = es ++ r.entries
share_in_a false r es = kept r.entries es

unfoldable pub share_in_b : (goes_into_a : Bool) → Rec → List Entry → List Entry
share_in_b true r es = drop (length r.entries) es
share_in_b false r es = r.entries ++ es

unfoldable pub change_a : Kind → Rec → Page → Page
change_a begin r x = x
change_a insert r x = with_entries (insert_sorted r.key r.second x.entries) x
change_a delete r x = with_entries (remove_key r.key x.entries) x
change_a undo_insert r x = with_entries (remove_key r.key x.entries) x
change_a undo_delete r x = with_entries (insert_sorted r.key r.second x.entries) x
change_a commit r x = x
change_a abort_mark r x = x
change_a end r x = x
change_a split r x = with_chain r.pageB r.key (kept r.entries x.entries) x
change_a link r x = with_entries (link_in r.pageB r.key r.pageC r.second x.entries) x
change_a unlink r x = with_entries (unlink_in r.pageB r.key r.second x.entries) x
change_a merge r x = with_chain r.right r.key (x.entries ++ r.entries) x
change_a redistribute r x = with_chain x.right r.key (share_in_a (into_a r) r x.entries) x
change_a raise r x = node_at x.own (suc r.level) 0 top (entry r.key r.pageC ∷ entry top r.pageB ∷ [])
change_a lower r x = node_at x.own r.level 0 x.high r.entries

unfoldable pub change_b : Kind → Rec → Page → Page
change_b begin r x = x
change_b insert r x = x
change_b delete r x = x
change_b undo_insert r x = x
change_b undo_delete r x = x
change_b commit r x = x
change_b abort_mark r x = x
change_b end r x = x
change_b split r x = node_at r.pageB r.level r.right r.second r.entries
change_b link r x = x
change_b unlink r x = x
change_b merge r x = freed x.own
change_b redistribute r x = with_entries (share_in_b (into_a r) r x.entries) x
change_b raise r x = x
change_b lower r x = freed x.own

-- Only a raise changes C: it becomes the root's old self.
unfoldable pub change_c : Rec → Page → Page
change_c r x = node_at r.pageC r.level r.pageB r.key r.entries

-- The page taken or freed, and whether it is taken.
abbrev pub page_marked : Rec → ℕ
page_marked r = pick (shape r.kind).c r.pageC r.pageB

abbrev pub takes : Kind → Bool
takes begin = false
takes insert = false
takes delete = false
takes undo_insert = false
takes undo_delete = false
takes commit = false
takes abort_mark = false
takes end = false
takes split = true
takes link = false
takes unlink = false
takes merge = false
takes redistribute = false
takes raise = true
takes lower = false

unfoldable pub change : Rec → Role → Page → Page
change r none x = x
change r as_a x = change_a r.kind r x
change r as_b x = change_b r.kind r x
change r as_c x = change_c r x
change r as_map x = with_marks (set x.marks (page_marked r) (takes r.kind)) x

-- Record r, number n, at page p. 01: "A record's number goes into each page it changes".
abbrev pub act : ℕ → ℕ → Rec → Page → Page
act p n r x = with_lsn n (cut_to_size (change r (role r p) x))

abbrev pub hits : ℕ → Rec → Bool
hits p r = hit (role r p)

pub act_stamp : (p n : ℕ) (r : Rec) (x : Page) → (act p n r x).lsn ≡ n
act_stamp p n r x = refl
