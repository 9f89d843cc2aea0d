-- A page that a record changes, from the numbers that the program puts together.
use Rattle.std.specs.Prelude.{◌≡◌, ◌≢◌, refl, ℕ, ◌-◌, ◌%◌, ◌≤◌, Bool, true, false, take, drop, set, leb, eqb}
use Rattle.std.proofs.Math.Path.{ap, ap₂, sym}
use Rattle.std.proofs.Common.{◌∙◌, arith}
use mathlib.Core.List.{List, [], ◌++◌}
use Rattle.std.proofs.Math.Seq.{set_out}
use Rattle.def_base.specs.Tests.{pick, le_true}
use Rattle.def_layout.specs.declared.Entry.{Entry}
use Rattle.def_layout.specs.Entries.{entry_at, key_at}
use Rattle.def_layout.specs.Numbers.{tab}
use Rattle.def_layout.specs.Pages.{Page, kind_at, map_bits}
use Rattle.def_layout.specs.declared.page.PageKind.{PageKind}
use Rattle.def_layout.specs.declared.page.PageKind.TheVariants.{Free, Leaf, Index, Map}
use Rattle.def_layout.specs.Records.{Rec}
use Rattle.law_bytes.specs.Tables.{tab_length}
use Rattle.law_bytes.specs.EntryBytes.{used}
use Rattle.codec_entries.specs.Turns.{used_cons}
use Rattle.codec_slot.specs.Typed.{rec_of}
use Rattle.codec_page.specs.declared.Page as program
use Rattle.codec_page.specs.Typed.{typed, used_entries, used_marks, map_mark, used_entries_node, used_marks_node}
use Rattle.codec_map.specs.Turns.{marks}
use Rattle.def_model.specs.Change.{first_key, into_a, share_in_a, share_in_b, with_chain, with_marks, entries_in, cut_to_size}
use Rattle.record_apply.specs.declared.Record.{Record}
use Rattle.record_apply.specs.Lists.{at_most_room}

-- The record that the program's numbers stand for.
abbrev pub rec : Record → Rec
rec r =
    rec_of r.kind r.count r.level r.batch r.previous r.a r.b r.c r.key r.second r.right r.entries

-- A page with entries.
abbrev pub node_of : (kind : PageKind) (level own right high : ℕ) → List Entry → Page
node_of kind level own right high es =
    record { kind = kind; level = level % 16; right = right; high = high; lsn = 0; own = own; entries = es; marks = [] }

-- A level's pages are leaves or index pages.
pub level_kind : (level : ℕ) → kind_at level ≢ Map
level_kind level = go (eqb level 0)
  where
    go : (t : Bool) → pick t Leaf Index ≢ Map
    go true e = cc
    go false e = cc

-- ---- a redistribution's side

pub into_a_none : (r : Record) → r.count ≡ 0 → true ≡ into_a (rec r)
unfolding tab
into_a_none r e = sym (rw e (le_true 0 r.key (omega arith)))

pub into_a_first : (r : Record) → (r.count ≡ 0 → ⊥) → leb (key_at r.entries 0) r.key ≡ into_a (rec r)
into_a_first r n =
    sym (ap (λ (l : List Entry). leb (first_key l) r.key) (used_cons r.entries r.count 0 (omega arith)))

module _ (r : Record) (n : ℕ) (es : List Entry) (room : n ≤ 14) where
  pub share_a_in : (l : List Entry) → into_a (rec r) ≡ true → l ≡ take 14 (used n es ++ used r.count r.entries)
      → l ≡ take 14 (share_in_a (into_a (rec r)) (rec r) (used n es))
  unfolding share_in_a
  share_a_in l t e = rw t e

  pub share_a_out : (k : ℕ) (fs : List Entry) → into_a (rec r) ≡ false → k ≤ 14 → used k fs ≡ take (n - r.count) (used n es)
      → used k fs ≡ take 14 (share_in_a (into_a (rec r)) (rec r) (used n es))
  unfolding share_in_a
  share_a_out k fs t h e = at_most_room k fs (share_in_a (into_a (rec r)) (rec r) (used n es)) h (e ∙ sym (rw (t, tab_length n (entry_at es), tab_length r.count (entry_at r.entries))))

  pub share_b_in : (k : ℕ) (fs : List Entry) → into_a (rec r) ≡ true → k ≤ 14 → used k fs ≡ drop r.count (used n es)
      → used k fs ≡ take 14 (share_in_b (into_a (rec r)) (rec r) (used n es))
  unfolding share_in_b
  share_b_in k fs t h e = at_most_room k fs (share_in_b (into_a (rec r)) (rec r) (used n es)) h (e ∙ sym (rw (t, tab_length r.count (entry_at r.entries))))

  pub share_b_out : (l : List Entry) → into_a (rec r) ≡ false → l ≡ take 14 (used r.count r.entries ++ used n es)
      → l ≡ take 14 (share_in_b (into_a (rec r)) (rec r) (used n es))
  unfolding share_in_b
  share_b_out l t e = rw t e

-- ---- pages

-- A page of the program's with its level in four bits.
abbrev pub sized : program.Page → (count right high : ℕ) → List Entry → program.Page
sized x count right high es =
    record { kind = x.kind; level = x.level % 16; count = count; right = right; high = high; lsn = x.lsn; own = x.own; entries = es }

abbrev shaped : program.Page → (right high : ℕ) → List Entry → List Bool → Page
shaped x right high es ms =
    record { kind = x.kind; level = x.level % 16; right = right; high = high; lsn = x.lsn; own = x.own; entries = es; marks = ms }

-- What is cut of a page's entries, by its kind.
pub entries_in_node : (k : PageKind) (es : List Entry) → k ≢ Map → entries_in k es ≡ take 14 es
unfolding entries_in
entries_in_node Free es h = refl
entries_in_node Leaf es h = refl
entries_in_node Index es h = refl
entries_in_node Map es h = absurd (h refl)

pub node_entries : (k : PageKind) (n : ℕ) (es : List Entry) → k ≢ Map → n ≤ 14 → used n es ≡ entries_in k (used n es)
node_entries k n es q h = at_most_room n es (used n es) h refl ∙ sym (entries_in_node k (used n es) q)

kind_entries : (k : PageKind) (n : ℕ) (es : List Entry) → n ≤ 14 → used_entries k n es ≡ entries_in k (used_entries k n es)
unfolding entries_in used_entries
kind_entries Free n es h = at_most_room n es (used n es) h refl
kind_entries Leaf n es h = at_most_room n es (used n es) h refl
kind_entries Index n es h = at_most_room n es (used n es) h refl
kind_entries Map n es h = refl

pub cut_typed : (x : program.Page) → x.count ≤ 14 → typed (sized x x.count x.right x.high x.entries) ≡ cut_to_size (typed x)
unfolding typed cut_to_size
cut_typed x h = ap (λ (l : List Entry). shaped x x.right x.high l (used_marks x.kind x.entries)) (kind_entries x.kind x.count x.entries h)

pub renew_typed : (x : program.Page) (right high n : ℕ) (es : List Entry) → x.kind ≢ Map → n ≤ 14
    → typed (sized x n right high es) ≡ cut_to_size (with_chain right high (used n es) (typed x))
unfolding typed cut_to_size
renew_typed x right high n es k h =
    ap₂ (λ (l : List Entry) (m : List Bool). shaped x right high l m) (used_entries_node n es x.kind k ∙ node_entries x.kind n es k h)
    (used_marks_node es x.kind k ∙ sym (used_marks_node x.entries x.kind k))

-- The map keeps its marks, and takes no entries.
pub renew_map : (x : program.Page) (right high : ℕ) (l : List Entry) → x.kind ≡ Map
    → typed (sized x x.count right high x.entries) ≡ cut_to_size (with_chain right high l (typed x))
unfolding typed cut_to_size used_entries entries_in
renew_map x right high l k =
    ap (λ (es : List Entry). shaped x right high es (used_marks x.kind x.entries))
    (ap (λ (q : PageKind). used_entries q x.count x.entries) k ∙ sym (ap (λ (q : PageKind). entries_in q l) k))

pub node_typed : (kind : PageKind) (level own right high n : ℕ) (es : List Entry) → kind ≢ Map
    → typed (record { kind = kind; level = level % 16; count = n; right = right; high = high; lsn = 0; own = own; entries = es })
    ≡ node_of kind level own right high (used n es)
unfolding typed
node_typed kind level own right high n es k =
    ap₂ (λ (l : List Entry) (m : List Bool). record { kind = kind; level = level % 16; right = right; high = high; lsn = 0; own = own; entries = l; marks = m })
    (used_entries_node n es kind k) (used_marks_node es kind k)

-- ---- marks

module _ (x : program.Page) (q : ℕ) (on : Bool) where
  pub mark_node : x.count ≤ 14 → (y : Page) → x.kind ≢ Map → y ≡ cut_to_size (typed x) → y ≡ cut_to_size (with_marks (set (typed x).marks q on) (typed x))
  unfolding typed cut_to_size
  mark_node h y k e =
      e ∙ ap (λ (m : List Bool). shaped x x.right x.high (entries_in x.kind (used_entries x.kind x.count x.entries)) m) (rw (used_marks_node x.entries x.kind k))

  -- A page number past the marks marks none.
  pub same_marks : 896 ≤ q → marks x.entries ≡ set (marks x.entries) q on
  same_marks l = sym (set_out (marks x.entries) q on (omega (arith, tab_length map_bits (map_mark x.entries))))

  pub mark_typed : (es : List Entry) → x.kind ≡ Map → marks es ≡ set (marks x.entries) q on
      → typed (sized x x.count x.right x.high es) ≡ cut_to_size (with_marks (set (typed x).marks q on) (typed x))
  unfolding typed cut_to_size used_entries used_marks entries_in
  mark_typed es k e = rw k (ap (λ (m : List Bool). record { kind = Map; level = x.level % 16; right = x.right; high = x.high; lsn = x.lsn; own = x.own; entries = []; marks = m }) e)
