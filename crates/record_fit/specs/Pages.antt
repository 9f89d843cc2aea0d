-- What refusal 5 asks of a page, in the program's numbers: its kind, its entries, and each kind's row.
use Rattle.std.specs.Prelude.{◌≡◌, Bool, ◌&&◌, List, length, take, drop, ltb, leb}
use Rattle.std.proofs.Math.Path.{refl, ap, sym}
use Rattle.std.proofs.Common.{◌∙◌, arith}
use Prim.Native.Nat.{ℕ, suc, ◌+◌, ◌-◌}
use Rattle.std.proofs.Math.Dec.{eqb}
use Rattle.def_base.specs.Tests.{neq_false}
use Rattle.def_layout.specs.declared.Entry.{Entry}
use Rattle.def_layout.specs.Entries.{entry_at, look, same_entries}
use denote.Enum.Bare.{sameb}
use Rattle.def_layout.specs.contracts.page.PageKind.{the_type}
use Rattle.def_layout.specs.Pages.{kind_is, kind_at}
use Rattle.def_layout.specs.declared.page.PageKind.{PageKind}
use Rattle.def_layout.specs.declared.page.PageKind.TheVariants.{Free, Leaf, Index}
use Rattle.def_layout.specs.Records.{insert, delete, undo_insert, undo_delete, split, link, unlink, merge, raise, lower}
use Rattle.law_bytes.specs.Tables.{tab_length}
use Rattle.law_bytes.specs.EntryBytes.{used}
use Rattle.codec_entries.specs.Arrays.{used_take}
use Rattle.codec_page.specs.declared.Page as program
use Rattle.codec_page.specs.Typed.{typed}
use Rattle.law_bytes.specs.PageKinds.{same_kind}
use Rattle.def_model.specs.Fit.{found, found_value, nowhere, in_order, last_key_is, link_fits, side_by_side, is_leaf, is_index, is_node, at_level, children_in, fits_a, fits_b}
use Rattle.record_apply.specs.declared.Record.{Record}
use Rattle.record_apply.specs.Pages.{rec}

-- ---- kinds

module _ (x : program.Page) where
  pub leaf_is : sameb the_type x.kind Leaf ≡ is_leaf (typed x)
  unfolding typed
  leaf_is = same_kind x.kind Leaf

  pub index_is : sameb the_type x.kind Index ≡ is_index (typed x)
  unfolding typed
  index_is = same_kind x.kind Index

  pub free_is : sameb the_type x.kind Free ≡ kind_is (typed x).kind Free
  unfolding typed
  free_is = same_kind x.kind Free

  pub level_is : (k : PageKind) (l : ℕ) (t : Bool) → k ≡ kind_at l → t ≡ sameb the_type x.kind k && eqb x.level l → t ≡ at_level l (typed x)
  unfolding typed
  level_is k l t e p = p ∙ ap (λ (b : Bool). b && eqb x.level l) (same_kind x.kind k ∙ ap (kind_is x.kind) e)

  pub next_level_is : (l : ℕ) (t b : Bool) → b ≡ eqb x.level (suc l) → t ≡ is_index (typed x) && b → t ≡ at_level (suc l) (typed x)
  unfolding typed
  next_level_is l t b e p =
      p ∙ ap (λ (c : Bool). kind_is x.kind Index && c) e
      ∙ sym (rw (neq_false (λ (o : suc l ≡ 0). omega arith)))

  pub right_is : (typed x).right ≡ x.right
  unfolding typed
  right_is = refl

-- ---- the rows, on the entries in use

module _ (r : Record) (x : program.Page) (n : ℕ) (e : (typed x).entries ≡ used n x.entries) where
  abbrev m : ℕ
  m = r.count

  abbrev es : List Entry
  es = x.entries

  abbrev fs : List Entry
  fs = r.entries

  pub n_is : length (typed x).entries ≡ n
  n_is = ap (λ (l : List Entry). length l) e ∙ tab_length n (entry_at es)

  pub m_is : length (used m fs) ≡ m
  m_is = tab_length m (entry_at fs)

  new_row : is_leaf (typed x) && (leb (length (typed x).entries + 1) 14 && nowhere r.key (typed x).entries)
      ≡ is_leaf (typed x) && (leb (n + 1) 14 && nowhere r.key (used n es))
  new_row = rw (n_is, e)

  pub insert_row : fits_a insert (rec r) (typed x) ≡ is_leaf (typed x) && (leb (n + 1) 14 && nowhere r.key (used n es))
  unfolding fits_a
  insert_row = new_row

  pub undo_delete_row : fits_a undo_delete (rec r) (typed x) ≡ is_leaf (typed x) && (leb (n + 1) 14 && nowhere r.key (used n es))
  unfolding fits_a
  undo_delete_row = new_row

  pub delete_row : fits_a delete (rec r) (typed x) ≡ is_leaf (typed x) && found_value r.second (look r.key (used n es))
  unfolding fits_a
  delete_row = rw e

  pub undo_insert_row : fits_a undo_insert (rec r) (typed x) ≡ is_leaf (typed x) && found (look r.key (used n es))
  unfolding fits_a
  undo_insert_row = rw e

  pub last_kept : (k : ℕ) → k ≡ n - m → used k es ≡ take (n - m) (used n es)
  last_kept k p = ap (λ (j : ℕ). used j es) p ∙ used_take es (n - m) n (omega arith)

  pub split_row : (k : ℕ) → k ≡ n - m → fits_a split (rec r) (typed x)
      ≡ at_level r.level (typed x) && (eqb n 14 && (same_entries (drop (n - m) (used n es)) (used m fs) && (last_key_is r.key (used k es) && eqb x.right r.right)))
  unfolding fits_a
  split_row k p = rw (n_is, e, m_is, right_is x, last_kept k p)

  pub link_row : fits_a link (rec r) (typed x) ≡ is_index (typed x) && (leb (n + 1) 14 && link_fits r.b r.key r.second 0 (used n es))
  unfolding fits_a
  link_row = rw (n_is, e)

  pub unlink_row : fits_a unlink (rec r) (typed x) ≡ is_index (typed x) && side_by_side r.b r.key r.c r.second (used n es)
  unfolding fits_a
  unlink_row = rw e

  pub merge_row : fits_a merge (rec r) (typed x)
      ≡ is_node (typed x) && (leb (n + m) 14 && (eqb x.right r.b && (in_order (used n es) (used m fs) && children_in (typed x) (used m fs))))
  unfolding fits_a
  merge_row = rw (n_is, e, m_is, right_is x)

  pub raise_row : fits_a raise (rec r) (typed x) ≡ at_level r.level (typed x) && (same_entries (used n es) (used m fs) && (eqb x.right r.b && ltb r.level 15))
  unfolding fits_a
  raise_row = rw (e, right_is x)

  pub lower_row : fits_a lower (rec r) (typed x) ≡ at_level (suc r.level) (typed x) && (eqb n 1 && (eqb (entry_at (used n es) 0).val r.b && eqb x.right 0))
  unfolding fits_a
  lower_row = rw (n_is, e, right_is x)

  pub lower_b_row : fits_b lower (rec r) (typed x) ≡ at_level r.level (typed x) && (same_entries (used n es) (used m fs) && eqb x.right 0)
  unfolding fits_b
  lower_b_row = rw (e, right_is x)
