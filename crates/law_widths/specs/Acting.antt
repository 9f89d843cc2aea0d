-- ANY RECORD, ANY PAGE: where a page's numbers fit their fields, and the record's are as narrow as its fields, what the record makes of the page fits too.
use Rattle.std.specs.Prelude.{ℕ, suc, ◌-◌, ◌≤◌, ◌<◌, ◌^◌, ◌≡◌, refl, Bool, true, false, ◌&&◌, List, [], take, set}
use Rattle.std.proofs.Common.{sym, ap, ◌∙◌, subst, arith, mod-lt, length-set, length-take, lit<}
use Rattle.std.proofs.Math.ListN.{length}
use Rattle.std.proofs.Math.Dec.{eqb}
use Rattle.def_base.specs.Tests.{pick, Case, yes!, no!, case, clash}
use Rattle.def_layout.specs.declared.Entry.{Entry}
use Rattle.def_layout.specs.Entries.{top, entry_at}
use Rattle.def_layout.specs.Sizes.{room}
use Rattle.def_layout.specs.Pages.{Page, node_at, freed, map_bits}
use Rattle.def_layout.specs.declared.page.PageKind.{PageKind}
use Rattle.def_layout.specs.declared.page.PageKind.TheVariants.{Free, Leaf, Index, Map}
use Rattle.def_layout.specs.Records.{Rec, Kind, begin, insert, delete, undo_insert, undo_delete, commit, abort_mark, end, split, link, unlink, merge, redistribute, raise, lower}
use Rattle.def_model.specs.Change.{with_lsn, entries_in, cut_to_size, Role, as_a, as_b, as_c, as_map, shape, role, into_a, change_a, change_b, change_c, page_marked, takes, change, act}
use Rattle.def_model.specs.Change
use Rattle.law_bytes.specs.EntryBytes.{EntryFits}
use Rattle.law_bytes.specs.PageBytes.{NodeFits, BodyFits, Fits}
use Rattle.law_bytes.specs.RecordBytes.{Fits as RecordFits}
use Rattle.law_widths.specs.Each.{Each, each_append, each_take}
use Rattle.law_widths.specs.Fine.{Fine, fine_at, at_fine, fine_insert, fine_remove, fine_link, fine_unlink, fine_share_a, fine_share_b}

-- ---- what is asked of the record

-- The pages that become right links and own numbers: a split's B, a raise's B and C.
unfoldable pub Links : Kind → Rec → Type 0
Links begin r = Unit {0}
Links insert r = Unit {0}
Links delete r = Unit {0}
Links undo_insert r = Unit {0}
Links undo_delete r = Unit {0}
Links commit r = Unit {0}
Links abort_mark r = Unit {0}
Links end r = Unit {0}
Links split r = r.pageB < 1024
Links link r = Unit {0}
Links unlink r = Unit {0}
Links merge r = Unit {0}
Links redistribute r = Unit {0}
Links raise r = (r.pageB < 1024) × (r.pageC < 1024)
Links lower r = Unit {0}

-- The numbers that a record puts into pages. (Its level and the number of its entries are cut to size.)
pub record Narrow (r : Rec) : Type 0 where
  pub pageB : r.pageB < 2 ^ 32
  pub pageC : r.pageC < 2 ^ 32
  pub links : Links r.kind r
  pub right : r.right < 1024
  pub key : r.key < 2 ^ 32
  pub second : r.second < 2 ^ 32
  pub entry : (i : ℕ) → EntryFits (entry_at r.entries i)

-- A record that fits its slot is one.
pub slot_narrow : (m : ℕ) (r : Rec) → RecordFits m r → Narrow r
unfolding Links
slot_narrow m r f =
    record {
      pageB = omega (arith, f.pageB);
      pageC = omega (arith, f.pageC);
      links = go r.kind;
      right = f.right;
      key = f.key;
      second = f.second;
      entry = f.entry;
    }
  where
    go : (k : Kind) → Links k r
    go begin = tt
    go insert = tt
    go delete = tt
    go undo_insert = tt
    go undo_delete = tt
    go commit = tt
    go abort_mark = tt
    go end = tt
    go split = f.pageB
    go link = tt
    go unlink = tt
    go merge = tt
    go redistribute = tt
    go raise = (f.pageB, f.pageC)
    go lower = tt

-- Only a raise changes C.
as_c_raise : (k : Kind) (r : Rec) → (shape k).c ≡ true → Links k r → (r.pageB < 1024) × (r.pageC < 1024)
unfolding Links
as_c_raise begin r e l = clash (sym e)
as_c_raise insert r e l = clash (sym e)
as_c_raise delete r e l = clash (sym e)
as_c_raise undo_insert r e l = clash (sym e)
as_c_raise undo_delete r e l = clash (sym e)
as_c_raise commit r e l = clash (sym e)
as_c_raise abort_mark r e l = clash (sym e)
as_c_raise end r e l = clash (sym e)
as_c_raise split r e l = clash (sym e)
as_c_raise link r e l = clash (sym e)
as_c_raise unlink r e l = clash (sym e)
as_c_raise merge r e l = clash (sym e)
as_c_raise redistribute r e l = clash (sym e)
as_c_raise raise r e l = l
as_c_raise lower r e l = clash (sym e)

-- ---- what fits once a page is cut to size

-- The map has a mark for every page, and no other page has marks.
abbrev MarksFit : PageKind → List Bool → Type 0
MarksFit Free m = m ≡ []
MarksFit Leaf m = m ≡ []
MarksFit Index m = m ≡ []
MarksFit Map m = length m ≡ map_bits

record Loose (x : Page) : Type 0 where
  right : x.right < 1024
  high : x.high < 2 ^ 32
  own : x.own < 1024
  entries : Fine x.entries
  marks : MarksFit x.kind x.marks

fits_loose : (x : Page) → Fits x → Loose x
unfolding BodyFits Each
fits_loose x h = let (e, m) = of_body x.kind h.body in record { right = h.right; high = h.high; own = h.own; entries = e; marks = m }
  where
    of_body : (k : PageKind) → BodyFits k x → Fine x.entries × MarksFit k x.marks
    of_body Free b = (at_fine x.entries b.entry, b.marks)
    of_body Leaf b = (at_fine x.entries b.entry, b.marks)
    of_body Index b = (at_fine x.entries b.entry, b.marks)
    of_body Map b = (subst Fine (sym b.entries) tt, b.marks)

pub fits_fine : (x : Page) → Fits x → Fine x.entries
fits_fine x h = (fits_loose x h).entries

loose_fits : (m : ℕ) (x : Page) → m < 2 ^ 32 → Loose x → Fits (with_lsn m (cut_to_size x))
unfolding entries_in cut_to_size BodyFits
loose_fits m x l h =
    record {
      level = mod-lt x.level (lit< tt);
      right = h.right;
      high = h.high;
      lsn = l;
      own = h.own;
      body = cut_body x.kind refl h.marks;
    }
  where
    few : length (take room x.entries) ≤ 14
    few = let t = length-take room x.entries in omega arith

    node_body : (y : Page) → y.entries ≡ take room x.entries → y.marks ≡ [] → NodeFits y
    node_body y e k =
        record {
          count = subst (λ es. length es ≤ 14) (sym e) few;
          entry = fine_at y.entries (subst Fine (sym e) (each_take EntryFits room x.entries h.entries));
          marks = k;
        }

    cut_body : (k : PageKind) → x.kind ≡ k → MarksFit k x.marks → BodyFits k (with_lsn m (cut_to_size x))
    cut_body Free e k = node_body (with_lsn m (cut_to_size x)) (ap (λ z. entries_in z x.entries) e) k
    cut_body Leaf e k = node_body (with_lsn m (cut_to_size x)) (ap (λ z. entries_in z x.entries) e) k
    cut_body Index e k = node_body (with_lsn m (cut_to_size x)) (ap (λ z. entries_in z x.entries) e) k
    cut_body Map e k = record { entries = ap (λ z. entries_in z x.entries) e; marks = k }

-- ---- the changes

-- Only the entries change.
loose_entries : (es : List Entry) (x : Page) → Fine es → Loose x → Loose (Change.with_entries es x)
loose_entries es x k h = record { right = h.right; high = h.high; own = h.own; entries = k; marks = h.marks }

loose_chain : (right high : ℕ) (es : List Entry) (x : Page) → right < 1024 → high < 2 ^ 32 → Fine es → Loose x → Loose (Change.with_chain right high es x)
loose_chain right high es x a b k h = record { right = a; high = b; own = h.own; entries = k; marks = h.marks }

loose_node : (own level right high : ℕ) (es : List Entry) → own < 1024 → right < 1024 → high < 2 ^ 32 → Fine es → Loose (node_at own level right high es)
loose_node own level right high es o a b k = record { right = a; high = b; own = o; entries = k; marks = by_test (eqb level 0) }
  where
    by_test : (b : Bool) → MarksFit (pick b Leaf Index) []
    by_test true = refl
    by_test false = refl

loose_freed : (own : ℕ) → own < 1024 → Loose (freed own)
unfolding Each
loose_freed own o = record { right = lit< tt; high = lit< tt; own = o; entries = tt; marks = refl }

-- A mark is set, or cleared.
marks_set : (k : PageKind) (m : List Bool) (p : ℕ) (t : Bool) → MarksFit k m → MarksFit k (set m p t)
marks_set Free m p t h = ap (λ z. set z p t) h
marks_set Leaf m p t h = ap (λ z. set z p t) h
marks_set Index m p t h = ap (λ z. set z p t) h
marks_set Map m p t h = length-set m p t ∙ h

-- Without part C there is no such role.
never : (a b c m : Bool) → c ≡ false → pick a as_a (pick b as_b (pick c as_c (pick m as_map Change.none))) ≡ as_c → ⊥
never true b c m z e = let k : ◌≡◌ {A = ℕ} 0 1 = cc in omega arith
never false true c m z e = let k : ◌≡◌ {A = ℕ} 0 1 = cc in omega arith
never false false true m z e = let k : ◌≡◌ {A = ℕ} 0 1 = cc in omega arith
never false false false true z e = let k : ◌≡◌ {A = ℕ} 0 1 = cc in omega arith
never false false false false z e = let k : ◌≡◌ {A = ℕ} 0 1 = cc in omega arith

module _ (r : Rec) (f : Narrow r) where
  moved : Fine r.entries
  moved = at_fine r.entries f.entry

  loose_a : (k : Kind) → Links k r → (x : Page) → Loose x → Loose (change_a k r x)
  unfolding change_a Each Links
  loose_a begin l x h = h
  loose_a insert l x h = loose_entries _ x (fine_insert r.key r.second x.entries f.key f.second h.entries) h
  loose_a delete l x h = loose_entries _ x (fine_remove r.key x.entries h.entries) h
  loose_a undo_insert l x h = loose_entries _ x (fine_remove r.key x.entries h.entries) h
  loose_a undo_delete l x h = loose_entries _ x (fine_insert r.key r.second x.entries f.key f.second h.entries) h
  loose_a commit l x h = h
  loose_a abort_mark l x h = h
  loose_a end l x h = h
  loose_a split l x h = loose_chain _ _ _ x l f.key (each_take EntryFits (length x.entries - length r.entries) x.entries h.entries) h
  loose_a link l x h =
      loose_entries _ x
      (fine_link r.pageB r.key r.pageC r.second x.entries (f.key, f.pageB) (f.second, f.pageC) h.entries) h
  loose_a unlink l x h = loose_entries _ x (fine_unlink r.pageB r.key r.second x.entries (f.second, f.pageB) h.entries) h
  loose_a merge l x h = loose_chain _ _ _ x f.right f.key (each_append EntryFits x.entries r.entries h.entries moved) h
  loose_a redistribute l x h = loose_chain _ _ _ x h.right f.key (fine_share_a (into_a r) r x.entries moved h.entries) h
  loose_a raise l x h =
      loose_node x.own (suc r.level) 0 top _ h.own (lit< tt) (lit< tt)
      ((f.key, f.pageC), ((lit< tt, f.pageB), tt))
  loose_a lower l x h = loose_node x.own r.level 0 x.high r.entries h.own (lit< tt) h.high moved

  loose_b : (k : Kind) → Links k r → (x : Page) → Loose x → Loose (change_b k r x)
  unfolding change_b Links
  loose_b begin l x h = h
  loose_b insert l x h = h
  loose_b delete l x h = h
  loose_b undo_insert l x h = h
  loose_b undo_delete l x h = h
  loose_b commit l x h = h
  loose_b abort_mark l x h = h
  loose_b end l x h = h
  loose_b split l x h = loose_node r.pageB r.level r.right r.second r.entries l f.right f.second moved
  loose_b link l x h = h
  loose_b unlink l x h = h
  loose_b merge l x h = loose_freed x.own h.own
  loose_b redistribute l x h = loose_entries _ x (fine_share_b (into_a r) r x.entries moved h.entries) h
  loose_b raise l x h = h
  loose_b lower l x h = loose_freed x.own h.own

  loose_change : (o : Role) → (o ≡ as_c → (r.pageB < 1024) × (r.pageC < 1024)) → (x : Page) → Loose x → Loose (change r o x)
  unfolding change change_c
  loose_change Change.none c x h = h
  loose_change as_a c x h = loose_a r.kind f.links x h
  loose_change as_b c x h = loose_b r.kind f.links x h
  loose_change as_c c x h = loose_node r.pageC r.level r.pageB r.key r.entries (c refl).1 (c refl).0 f.key moved
  loose_change as_map c x h =
      record { right = h.right; high = h.high; own = h.own; entries = h.entries; marks = marks_set x.kind x.marks (page_marked r) (takes r.kind) h.marks }

  -- A page has part C only of a kind that changes C.
  c_part : (p : ℕ) → role r p ≡ as_c → (r.pageB < 1024) × (r.pageC < 1024)
  unfolding role
  c_part p e = go (case (shape r.kind).c) e
    where
      go : Case (shape r.kind).c → role r p ≡ as_c → (r.pageB < 1024) × (r.pageC < 1024)
      go (yes! t) w = as_c_raise r.kind r t f.links
      go (no! t) w = absurd (never ((shape r.kind).a && eqb p r.pageA) ((shape r.kind).b && eqb p r.pageB) ((shape r.kind).c && eqb p r.pageC) ((shape r.kind).m && eqb p 0) (rw t) w)

-- WHAT A RECORD MAKES OF A PAGE fits its fields, whatever the page's kind and part.
pub act_fits : (p n : ℕ) (r : Rec) (x : Page) → n < 2 ^ 32 → Narrow r → Fits x → Fits (act p n r x)
act_fits p n r x l f h = loose_fits n (change r (role r p) x) l (loose_change r f (role r p) (c_part r f p) x (fits_loose x h))
