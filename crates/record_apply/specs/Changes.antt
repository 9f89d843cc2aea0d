-- The change of A, B, C or the map, kind by kind, from what the program's steps yield.
use Rattle.std.specs.Prelude.{◌≡◌, refl, ℕ, suc, ◌+◌, ◌-◌, ◌%◌, ◌<◌, ◌≤◌, true, false, set, eqb}
use Rattle.std.proofs.Math.Path.{ap, sym, subst}
use Rattle.std.proofs.Common.{ap₂, ◌∙◌, length-take, take_all}
use native.Mathlib.Omega.{arith}
use Rattle.std.proofs.Math.Decide.{dec_lt}
use mathlib.Core.List.{List, [], ◌∷◌, ◌++◌}
use Rattle.std.proofs.Math.ListN.{take}
use Rattle.def_base.specs.Tests.{pick, neq_false}
use Rattle.def_layout.specs.declared.Entry.{Entry}
use Rattle.def_layout.specs.Entries.{entry, entry_at, top, insert_sorted, remove_key}
use Rattle.def_layout.specs.Numbers.{tab}
use Rattle.def_layout.specs.Pages.{Page, kind_at, node_at, freed}
use Rattle.def_layout.specs.declared.page.PageKind.{PageKind}
use Rattle.def_layout.specs.declared.page.PageKind.TheVariants.{Free, Leaf, Index, Map}
use Rattle.def_layout.specs.Records.{Kind, kind_of}
use Rattle.law_bytes.specs.Tables.{tab_length}
use Rattle.law_bytes.specs.Ranges.{Run, in_run, past}
use Rattle.law_bytes.specs.EntryBytes.{used}
use Rattle.codec_page.specs.declared.Page as program
use Rattle.codec_page.specs.Typed.{typed, used_entries}
use Rattle.def_model.specs.Change.{Role, kept, link_in, unlink_in, into_a, share_in_a, share_in_b, with_entries, with_chain, with_marks, with_lsn, entries_in, cut_to_size, change_a, change_b, change, takes, shape, role, as_map, act}
use Rattle.record_apply.specs.declared.Record.{Record}
use Rattle.record_apply.specs.Lists.{at_most_room}
use Rattle.record_apply.specs.Pages.{rec, node_of, node_entries, level_kind}
use Rattle.record_apply.specs.Roles.{but_b, but_marks, quiet_low, quiet_past, quiet_mid}

take_room : (l : List Entry) → take 14 (take 14 l) ≡ take 14 l
take_room l = take_all 14 (take 14 l) (omega (arith, length-take 14 l))

chain_cut : (right high : ℕ) (es l : List Entry) (x : Page) → entries_in x.kind l ≡ entries_in x.kind es → cut_to_size (with_chain right high l x) ≡ cut_to_size (with_chain right high es x)
unfolding cut_to_size
chain_cut right high es l x e =
    ap (λ (m : List Entry). record { kind = x.kind; level = x.level % 16; right = right; high = high; lsn = x.lsn; own = x.own; entries = m; marks = x.marks }) e

entries_alike : (f : List Entry → List Entry) (n : ℕ) (es l : List Entry) → l ≡ take 14 (f (used n es)) → (k : PageKind)
    → entries_in k l ≡ entries_in k (f (used_entries k n es))
unfolding entries_in used_entries
entries_alike f n es l q Free = ap (λ (m : List Entry). take 14 m) q ∙ take_room (f (used n es))
entries_alike f n es l q Leaf = ap (λ (m : List Entry). take 14 m) q ∙ take_room (f (used n es))
entries_alike f n es l q Index = ap (λ (m : List Entry). take 14 m) q ∙ take_room (f (used n es))
entries_alike f n es l q Map = refl

-- ---- new pages

pub filled : (level own right high n : ℕ) (es : List Entry) (y : Page) → n ≤ 14
    → y ≡ node_of (kind_at level) level own right high (used n es) → y ≡ cut_to_size (node_at own level right high (used n es))
unfolding cut_to_size
filled level own right high n es y h e =
    e ∙ ap (λ (l : List Entry). record { kind = kind_at level; level = level % 16; right = right; high = high; lsn = 0; own = own; entries = l; marks = [] })
    (node_entries (kind_at level) n es (level_kind level) h)

pub freed_typed : (own n : ℕ) (es : List Entry) (y : Page) → n ≡ 0 → y ≡ node_of Free 0 own 0 0 (used n es) → y ≡ cut_to_size (freed own)
unfolding entries_in cut_to_size tab
freed_typed own n es y z e = e ∙ ap (λ (k : ℕ). node_of Free 0 own 0 0 (used k es)) z

pub raised : (level own k c b : ℕ) (l : List Entry) (y : Page) → l ≡ entry k c ∷ entry top b ∷ [] → y ≡ node_of Index (level % 16 + 1) own 0 top l
    → y ≡ cut_to_size (node_at own (suc level) 0 top (entry k c ∷ entry top b ∷ []))
unfolding entries_in cut_to_size
raised level own k c b l y q e =
    let s : (level % 16 + 1) % 16 ≡ suc level % 16 = omega arith in
    let z : eqb (suc level) 0 ≡ false = neq_false (λ (o : suc level ≡ 0). omega arith) in
    e ∙ ap₂ (λ (n : ℕ) (m : List Entry). record { kind = Index; level = n; right = 0; high = top; lsn = 0; own = own; entries = m; marks = [] }) s q
    ∙ sym (rw z)

-- ---- A

module _ (r : Record) (x : program.Page) (y : Page) where
  abbrev A : Kind → Type 0
  A k = y ≡ cut_to_size (change_a k (rec r) (typed x))

  abbrev B : Kind → Type 0
  B k = y ≡ cut_to_size (change_b k (rec r) (typed x))

  pub a_raise : r.kind ≡ 14 → y ≡ cut_to_size (node_at x.own (suc r.level) 0 top (entry r.key r.c ∷ entry top r.b ∷ [])) → A (kind_of r.kind)
  unfolding change_a kind_of typed
  a_raise k e = e ∙ ap (λ (n : ℕ). cut_to_size (change_a (kind_of n) (rec r) (typed x))) (sym k)

  pub a_lower : r.kind ≡ 15 → y ≡ cut_to_size (node_at x.own r.level 0 x.high (used r.count r.entries)) → A (kind_of r.kind)
  unfolding change_a kind_of typed
  a_lower k e = e ∙ ap (λ (n : ℕ). cut_to_size (change_a (kind_of n) (rec r) (typed x))) (sym k)

  -- Other kinds leave A as it is.
  pub a_low : r.kind < 2 → y ≡ cut_to_size (typed x) → A (kind_of r.kind)
  unfolding change_a
  a_low h e = quiet_low A e r.kind h

  pub a_other : 5 ≤ r.kind → (r.kind ≡ 5 → ⊥) → (r.kind ≡ 9 → ⊥) → (r.kind ≡ 10 → ⊥) → (r.kind ≡ 11 → ⊥) → (r.kind ≡ 12 → ⊥) → (r.kind ≡ 13 → ⊥)
      → (r.kind ≡ 14 → ⊥) → (r.kind ≡ 15 → ⊥) → y ≡ cut_to_size (typed x) → A (kind_of r.kind)
  unfolding change_a
  a_other h n5 n9 n10 n11 n12 n13 n14 n15 e =
      let k = r.kind in
      elim (dec_lt k 9) [
        | yes q ↦ quiet_mid A e e e e k (past 5 k h n5) q
        | no q ↦
            let s : 9 ≤ k = omega arith in
            quiet_past A e k (past 15 k (past 14 k (past 13 k (past 12 k (past 11 k (past 10 k (past 9 k s n9) n10) n11) n12) n13) n14) n15)
      ]

  -- ---- B

  pub b_split : r.kind ≡ 9 → y ≡ cut_to_size (node_at r.b r.level r.right r.second (used r.count r.entries)) → B (kind_of r.kind)
  unfolding change_b kind_of
  b_split k e = e ∙ ap (λ (n : ℕ). cut_to_size (change_b (kind_of n) (rec r) (typed x))) (sym k)

  pub b_merge : r.kind ≡ 12 → y ≡ cut_to_size (freed x.own) → B (kind_of r.kind)
  unfolding change_b kind_of typed
  b_merge k e = e ∙ ap (λ (n : ℕ). cut_to_size (change_b (kind_of n) (rec r) (typed x))) (sym k)

  pub b_lower : r.kind ≡ 15 → y ≡ cut_to_size (freed x.own) → B (kind_of r.kind)
  unfolding change_b kind_of typed
  b_lower k e = e ∙ ap (λ (n : ℕ). cut_to_size (change_b (kind_of n) (rec r) (typed x))) (sym k)

  pub b_other : (r.kind ≡ 9 → ⊥) → (r.kind ≡ 12 → ⊥) → (r.kind ≡ 13 → ⊥) → (r.kind ≡ 15 → ⊥) → y ≡ cut_to_size (typed x) → B (kind_of r.kind)
  unfolding change_b
  b_other n9 n12 n13 n15 e = but_b B r.kind (e, e, e, e, e, e, e, e, e, e, e) n9 n12 n13 n15

  -- ---- the map

  abbrev M : Kind → Type 0
  M k = y ≡ cut_to_size (with_marks (set (typed x).marks (pick (shape k).c r.c r.b) (takes k)) (typed x))

  pub map_split : r.kind ≡ 9 → y ≡ cut_to_size (with_marks (set (typed x).marks r.b true) (typed x)) → y ≡ cut_to_size (change (rec r) as_map (typed x))
  unfolding change kind_of
  map_split k e = subst (λ (n : ℕ). M (kind_of n)) (sym k) e

  pub map_raise : r.kind ≡ 14 → y ≡ cut_to_size (with_marks (set (typed x).marks r.c true) (typed x)) → y ≡ cut_to_size (change (rec r) as_map (typed x))
  unfolding change kind_of
  map_raise k e = subst (λ (n : ℕ). M (kind_of n)) (sym k) e

  pub map_other : (r.kind ≡ 9 → ⊥) → (r.kind ≡ 14 → ⊥) → y ≡ cut_to_size (with_marks (set (typed x).marks r.b false) (typed x)) → y ≡ cut_to_size (change (rec r) as_map (typed x))
  unfolding change
  map_other n9 n14 e = but_marks M r.kind (e, e, e, e, e, e, e, e, e, e, e, e, e) n9 n14

  -- ---- A and B with entries anew

  by_chain : (f : List Entry → List Entry) (right high : ℕ) (l : List Entry) → l ≡ take 14 (f (used x.count x.entries))
      → y ≡ cut_to_size (with_chain right high l (typed x)) → y ≡ cut_to_size (with_chain right high (f (typed x).entries) (typed x))
  unfolding typed
  by_chain f right high l q e = e ∙ chain_cut right high (f (typed x).entries) l (typed x) (entries_alike f x.count x.entries l q x.kind)

  module _ (l : List Entry) where
    pub a_insert : r.kind ≡ 2 → l ≡ take 14 (insert_sorted r.key r.second (used x.count x.entries)) → y ≡ cut_to_size (with_entries l (typed x)) → A (kind_of r.kind)
    unfolding change_a kind_of
    a_insert k q e =
        by_chain (λ es. insert_sorted r.key r.second es) (typed x).right (typed x).high l q e
        ∙ ap (λ (n : ℕ). cut_to_size (change_a (kind_of n) (rec r) (typed x))) (sym k)

    pub a_undo_delete : r.kind ≡ 5 → l ≡ take 14 (insert_sorted r.key r.second (used x.count x.entries)) → y ≡ cut_to_size (with_entries l (typed x)) → A (kind_of r.kind)
    unfolding change_a kind_of
    a_undo_delete k q e =
        by_chain (λ es. insert_sorted r.key r.second es) (typed x).right (typed x).high l q e
        ∙ ap (λ (n : ℕ). cut_to_size (change_a (kind_of n) (rec r) (typed x))) (sym k)

    pub a_delete : 3 ≤ r.kind → r.kind < 5 → l ≡ take 14 (remove_key r.key (used x.count x.entries)) → y ≡ cut_to_size (with_entries l (typed x)) → A (kind_of r.kind)
    unfolding change_a kind_of Run
    a_delete h k q e =
        let d = by_chain (λ es. remove_key r.key es) (typed x).right (typed x).high l q e in
        in_run (λ (n : ℕ). A (kind_of n)) 2 3 r.kind (d, (d, tt)) h k

    pub a_link : r.kind ≡ 10 → l ≡ take 14 (link_in r.b r.key r.c r.second (used x.count x.entries)) → y ≡ cut_to_size (with_entries l (typed x)) → A (kind_of r.kind)
    unfolding change_a kind_of
    a_link k q e =
        by_chain (λ es. link_in r.b r.key r.c r.second es) (typed x).right (typed x).high l q e
        ∙ ap (λ (n : ℕ). cut_to_size (change_a (kind_of n) (rec r) (typed x))) (sym k)

    pub a_unlink : r.kind ≡ 11 → l ≡ take 14 (unlink_in r.b r.key r.second (used x.count x.entries)) → y ≡ cut_to_size (with_entries l (typed x)) → A (kind_of r.kind)
    unfolding change_a kind_of
    a_unlink k q e =
        by_chain (λ es. unlink_in r.b r.key r.second es) (typed x).right (typed x).high l q e
        ∙ ap (λ (n : ℕ). cut_to_size (change_a (kind_of n) (rec r) (typed x))) (sym k)

    pub a_merge : r.kind ≡ 12 → l ≡ take 14 (used x.count x.entries ++ used r.count r.entries) → y ≡ cut_to_size (with_chain r.right r.key l (typed x)) → A (kind_of r.kind)
    unfolding change_a kind_of
    a_merge k q e =
        by_chain (λ es. es ++ used r.count r.entries) r.right r.key l q e
        ∙ ap (λ (n : ℕ). cut_to_size (change_a (kind_of n) (rec r) (typed x))) (sym k)

    pub a_share : r.kind ≡ 13 → l ≡ take 14 (share_in_a (into_a (rec r)) (rec r) (used x.count x.entries)) → y ≡ cut_to_size (with_chain x.right r.key l (typed x)) → A (kind_of r.kind)
    unfolding change_a kind_of typed
    a_share k q e =
        by_chain (λ es. share_in_a (into_a (rec r)) (rec r) es) x.right r.key l q e
        ∙ ap (λ (n : ℕ). cut_to_size (change_a (kind_of n) (rec r) (typed x))) (sym k)

    pub b_share : r.kind ≡ 13 → l ≡ take 14 (share_in_b (into_a (rec r)) (rec r) (used x.count x.entries)) → y ≡ cut_to_size (with_entries l (typed x)) → B (kind_of r.kind)
    unfolding change_b kind_of
    b_share k q e =
        by_chain (λ es. share_in_b (into_a (rec r)) (rec r) es) (typed x).right (typed x).high l q e
        ∙ ap (λ (n : ℕ). cut_to_size (change_b (kind_of n) (rec r) (typed x))) (sym k)

  pub a_split : (n : ℕ) (es : List Entry) → r.kind ≡ 9 → n ≤ 14 → used n es ≡ take (x.count - r.count) (used x.count x.entries)
      → y ≡ cut_to_size (with_chain r.b r.key (used n es) (typed x)) → A (kind_of r.kind)
  unfolding change_a kind_of
  a_split n es k h q e =
      by_chain (λ fs. kept (used r.count r.entries) fs) r.b r.key (used n es)
      (at_most_room n es (kept (used r.count r.entries) (used x.count x.entries)) h
      (q ∙ sym (rw (tab_length r.count (entry_at r.entries), tab_length x.count (entry_at x.entries))))) e
      ∙ ap (λ (n : ℕ). cut_to_size (change_a (kind_of n) (rec r) (typed x))) (sym k)

-- The number put in.
pub stamped : (r : Record) (n p : ℕ) (o : Role) (x : program.Page) (y : program.Page) → o ≡ role (rec r) p → typed y ≡ cut_to_size (change (rec r) o (typed x))
    → with_lsn n (typed y) ≡ act p n (rec r) (typed x)
stamped r n p o x y e h = ap (λ (z : Page). with_lsn n z) (h ∙ ap (λ (q : Role). cut_to_size (change (rec r) q (typed x))) e)
