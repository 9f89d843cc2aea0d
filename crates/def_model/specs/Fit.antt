-- Refusal 5. 01: "a change to be redone meets a page whose kind, level, count, entries, links or map bit are not those its row, judged on
-- that page alone, starts from".
use Rattle.std.specs.Prelude.{ℕ, suc, ◌+◌, ◌-◌, Bool, true, false, not, ◌&&◌, ◌||◌, List, [], ◌∷◌, ◌++◌, length, get_or, take, drop, leb, ltb, eqb}
use Rattle.std.proofs.Math.Option.{Option, none, some}
use Rattle.def_base.specs.Tests.{pick}
use Rattle.def_layout.specs.declared.Entry.{Entry}
use Rattle.def_layout.specs.Entries.{entry_at, look, same_entries, ten_bits}
use Rattle.def_layout.specs.Sizes.{room}
use Rattle.def_layout.specs.Pages.{Page, size, kind_is, kind_at}
use Rattle.def_layout.specs.declared.page.PageKind.TheVariants.{Free, Leaf, Index}
use Rattle.def_layout.specs.Records.{Rec, Kind, begin, insert, delete, undo_insert, undo_delete, commit, abort_mark, end, split, link, unlink, merge, redistribute, raise, lower}
use Rattle.def_model.specs.Change
use Rattle.def_model.specs.Change.{Role, role, as_a, as_b, as_c, as_map, kept, into_a, takes, page_marked}

unfoldable pub found : {A : Type 0} → Option A → Bool
found none = false
found (some x) = true

unfoldable pub found_value : ℕ → Option ℕ → Bool
found_value v none = false
found_value v (some u) = eqb u v

-- One past the last key, or `from` where there is no entry.
unfoldable pub after : ℕ → List Entry → ℕ
after from [] = from
after from (e ∷ es) = after (suc e.key) es

abbrev pub last_key_is : ℕ → List Entry → Bool
last_key_is k es = eqb (after 0 es) (suc k)

-- The key stands nowhere among the entries, in order or not.
unfoldable pub nowhere : ℕ → List Entry → Bool
nowhere k [] = true
nowhere k (e ∷ es) = not (eqb e.key k) && nowhere k es

-- The first of the second list stands after the last of the first. Where one of them is empty there is nothing to ask.
unfoldable pub in_order : List Entry → List Entry → Bool
in_order xs [] = true
in_order xs (e ∷ es) = leb (after 0 xs) e.key

-- The entry found for w is (w, b), and u lies strictly between the key before it and w.
unfoldable pub link_fits : ℕ → ℕ → ℕ → ℕ → List Entry → Bool
link_fits b u w from [] = false
link_fits b u w from (e ∷ es) = pick (ltb e.key w) (link_fits b u w (suc e.key) es) (eqb e.key w && (eqb e.val b && (leb from u && ltb u w)))

-- The entry found for u is (u, b), and the one after it (w, c).
unfoldable pub side_by_side : ℕ → ℕ → ℕ → ℕ → List Entry → Bool
side_by_side b u c w [] = false
side_by_side b u c w (e ∷ []) = false
side_by_side b u c w (e ∷ f ∷ es) =
    pick (ltb e.key u) (side_by_side b u c w (f ∷ es)) (eqb e.key u && (eqb e.val b && (eqb f.key w && eqb f.val c)))

abbrev pub is_leaf : Page → Bool
is_leaf x = kind_is x.kind Leaf

abbrev pub is_index : Page → Bool
is_index x = kind_is x.kind Index

abbrev pub is_node : Page → Bool
is_node x = is_leaf x || is_index x

abbrev pub at_level : ℕ → Page → Bool
at_level l x = kind_is x.kind (kind_at l) && eqb x.level l

abbrev pub has_room : ℕ → Page → Bool
has_room n x = leb (size x + n) room

-- In an index the entries have nothing above the child's ten bits.
abbrev pub children_in : Page → List Entry → Bool
children_in x es = is_leaf x || ten_bits es

-- The page's last entries, as many as `es` has, are `es`.
abbrev pub ends_with : List Entry → Page → Bool
ends_with es x = same_entries (drop (size x - length es) x.entries) es

-- In 12 and 13 alike the first moved entry stands after the receiving A's last, the last moved one before the receiving B's first; with none
-- moved there is nothing to ask. The page that gives is judged by place alone.

-- A redistribution, on the receiving or the giving page.
unfoldable pub share_fits_a : Bool → Rec → Page → Bool
share_fits_a true r x = has_room (length r.entries) x && (last_key_is r.key (x.entries ++ r.entries) && (in_order x.entries r.entries && children_in x r.entries))
share_fits_a false r x = ends_with r.entries x && last_key_is r.key (kept r.entries x.entries)

unfoldable pub share_fits_b : Bool → Rec → Page → Bool
share_fits_b true r x = same_entries (take (length r.entries) x.entries) r.entries
share_fits_b false r x = has_room (length r.entries) x && (in_order r.entries x.entries && children_in x r.entries)

unfoldable pub fits_a : Kind → Rec → Page → Bool
fits_a begin r x = true
fits_a insert r x = is_leaf x && (has_room 1 x && nowhere r.key x.entries)
fits_a delete r x = is_leaf x && found_value r.second (look r.key x.entries)
fits_a undo_insert r x = is_leaf x && found (look r.key x.entries)
fits_a undo_delete r x = is_leaf x && (has_room 1 x && nowhere r.key x.entries)
fits_a commit r x = true
fits_a abort_mark r x = true
fits_a end r x = true
fits_a split r x =
    at_level r.level x && (eqb (size x) room && (ends_with r.entries x && (last_key_is r.key (kept r.entries x.entries) && eqb x.right r.right)))
fits_a link r x = is_index x && (has_room 1 x && link_fits r.pageB r.key r.second 0 x.entries)
fits_a unlink r x = is_index x && side_by_side r.pageB r.key r.pageC r.second x.entries
fits_a merge r x =
    is_node x && (has_room (length r.entries) x && (eqb x.right r.pageB && (in_order x.entries r.entries && children_in x r.entries)))
fits_a redistribute r x = is_node x && (eqb x.right r.pageB && share_fits_a (into_a r) r x)
fits_a raise r x = at_level r.level x && (same_entries x.entries r.entries && (eqb x.right r.pageB && ltb r.level 15))
fits_a lower r x = at_level (suc r.level) x && (eqb (size x) 1 && (eqb (entry_at x.entries 0).val r.pageB && eqb x.right 0))

unfoldable pub fits_b : Kind → Rec → Page → Bool
fits_b begin r x = true
fits_b insert r x = true
fits_b delete r x = true
fits_b undo_insert r x = true
fits_b undo_delete r x = true
fits_b commit r x = true
fits_b abort_mark r x = true
fits_b end r x = true
fits_b split r x = kind_is x.kind Free
fits_b link r x = true
fits_b unlink r x = true
fits_b merge r x = is_node x && (same_entries x.entries r.entries && eqb x.right r.right)
fits_b redistribute r x = is_node x && share_fits_b (into_a r) r x
fits_b raise r x = true
fits_b lower r x = at_level r.level x && (same_entries x.entries r.entries && eqb x.right 0)

-- The bit of the page taken is clear, of the page freed set.
unfoldable pub fits_map : Bool → ℕ → List Bool → Bool
fits_map true b m = not (get_or m b true)
fits_map false b m = get_or m b false

unfoldable pub fits_role : Rec → Role → Page → Bool
fits_role r Change.none x = true
fits_role r as_a x = fits_a r.kind r x
fits_role r as_b x = fits_b r.kind r x
fits_role r as_c x = kind_is x.kind Free
fits_role r as_map x = fits_map (takes r.kind) (page_marked r) x.marks

-- Page p, judged by record r.
abbrev pub fits : ℕ → Rec → Page → Bool
fits p r x = fits_role r (role r p) x
