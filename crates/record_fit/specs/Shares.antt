-- A redistribution's rows, and the row of the page that a merge frees, on the entries in use.
use Rattle.std.specs.Prelude.{◌≡◌, ℕ, ◌+◌, ◌-◌, true, false, ◌&&◌, List, ◌++◌, take, drop, leb, eqb}
use Rattle.std.proofs.Math.Path.{refl}
use Rattle.def_layout.specs.declared.Entry.{Entry}
use Rattle.def_layout.specs.Entries.{same_entries}
use Rattle.def_layout.specs.Records.{merge, redistribute}
use Rattle.law_bytes.specs.EntryBytes.{used}
use Rattle.codec_page.specs.declared.Page as program
use Rattle.codec_page.specs.Typed.{typed}
use Rattle.def_model.specs.Change.{into_a}
use Rattle.def_model.specs.Fit.{in_order, last_key_is, is_node, children_in, share_fits_a, share_fits_b, fits_a, fits_b}
use Rattle.record_apply.specs.declared.Record.{Record}
use Rattle.record_apply.specs.Pages.{rec}
use Rattle.record_fit.specs.Pages.{right_is, n_is, m_is, last_kept}

module _ (r : Record) (x : program.Page) (n : ℕ) (e : (typed x).entries ≡ used n x.entries) where
  abbrev m : ℕ
  m = r.count

  abbrev es : List Entry
  es = x.entries

  abbrev fs : List Entry
  fs = r.entries

  pub share_row : fits_a redistribute (rec r) (typed x) ≡ is_node (typed x) && (eqb x.right r.b && share_fits_a (into_a (rec r)) (rec r) (typed x))
  unfolding fits_a
  share_row = rw (right_is x)

  pub share_in_row : into_a (rec r) ≡ true → share_fits_a (into_a (rec r)) (rec r) (typed x) ≡ leb (n + m) 14 && (last_key_is r.key (used n es ++ used m fs) && (in_order (used n es) (used m fs) && children_in (typed x) (used m fs)))
  unfolding share_fits_a
  share_in_row t = rw (t, n_is r x n e, e, m_is r x n e)

  pub share_out_row : (k : ℕ) → k ≡ n - m → into_a (rec r) ≡ false → share_fits_a (into_a (rec r)) (rec r) (typed x)
      ≡ same_entries (drop (n - m) (used n es)) (used m fs) && last_key_is r.key (used k es)
  unfolding share_fits_a
  share_out_row k p t = rw (t, n_is r x n e, e, m_is r x n e, last_kept r x n e k p)

  pub share_b_in_row : into_a (rec r) ≡ true → share_fits_b (into_a (rec r)) (rec r) (typed x) ≡ same_entries (take m (used n es)) (used m fs)
  unfolding share_fits_b
  share_b_in_row t = rw (t, e, m_is r x n e)

  pub share_b_out_row : into_a (rec r) ≡ false → share_fits_b (into_a (rec r)) (rec r) (typed x) ≡ leb (n + m) 14 && (in_order (used m fs) (used n es) && children_in (typed x) (used m fs))
  unfolding share_fits_b
  share_b_out_row t = rw (t, n_is r x n e, e, m_is r x n e)

  pub merge_b_row : fits_b merge (rec r) (typed x) ≡ is_node (typed x) && (same_entries (used n es) (used m fs) && eqb x.right r.right)
  unfolding fits_b
  merge_b_row = rw (e, right_is x)

  pub share_b_row : fits_b redistribute (rec r) (typed x) ≡ is_node (typed x) && share_fits_b (into_a (rec r)) (rec r) (typed x)
  unfolding fits_b
  share_b_row = refl
