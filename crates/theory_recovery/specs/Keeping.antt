-- What a call that passed leaves: a longer history in the working areas, and a first part of it in the stable ones.
use Prim.Native.Nat.{ℕ, zero, suc, ◌+◌, ◌*◌, ◌≤◌, ◌<◌, ◌^◌}
use Rattle.std.proofs.Math.Path.{◌≡◌, refl, sym, subst}
use Rattle.std.proofs.Common.{ap, ◌∙◌, arith, length-append, take-append-drop}
use mathlib.Core.List.{List, [], ◌∷◌, ◌++◌, append_assoc, append-nil}
use Rattle.std.proofs.Math.Decide.{dec_le}
use Rattle.std.specs.Prelude.{length, take, drop}
use Rattle.std.proofs.Math.ListN.{set, length-set}
use Rattle.def_layout.specs.Pages.{Page, at, map_bits}
use Rattle.def_layout.specs.Records.{Rec}
use Rattle.def_layout.specs.Sizes.{slot_size}
use Rattle.def_model.specs.Update.{Run}
use Rattle.def_model.specs.Areas.{Store, store_page, log_stores}
use Rattle.def_model.specs.OnBytes.{Lent, store_all_bytes}
use Rattle.theory_redo.specs.Current.{Behind, Current, behind_more, behind_set}
use Rattle.theory_history.specs.Origin.{Origin}
use Rattle.theory_history.specs.Start.{slides_after, pages_after, length_after, after_current}
use Rattle.theory_history.specs.History.{History, Standing}
use Rattle.theory_history.specs.Growing.{history_first}
use Rattle.theory_ranges.specs.Histories.{RangedHistory, ranged_history_trail, ranged_history_more, ranged_first}
use Rattle.law_areas.specs.Lengths.{Lengths}
use Rattle.law_areas.specs.Pages.{HoldsPages}
use Rattle.law_areas.specs.Logs.{HoldsLog}
use Rattle.law_areas.specs.Storing.{LogStored, PageStored, log_stored_first, log_stores_count, write_out_first, write_out_last}
use Rattle.theory_calls.specs.Passing.{Walk, calm, by_commit_record, Stored, nothing, the_log, log_and_page}
use Rattle.theory_recovery.specs.Invariant.{Sure}

-- Stable areas that hold a log, each page a first part of it.
pub record Kept (o : Origin) (n : ℕ) (l : Lent) (log : List Rec) : Type 0 where
  pub pages : List Page
  pub count : length pages ≡ n
  pub stored : HoldsPages l.stable_pages pages
  pub logged : HoldsLog l.stable_log log
  pub behind : Behind 1 o.base log pages

-- Some first part of the rest was stored.
pub record Part (o : Origin) (n : ℕ) (l : Lent) (stable rest : List Rec) : Type 0 where
  pub part : List Rec
  pub tail : List Rec
  pub whole : rest ≡ part ++ tail
  pub kept : Kept o n l (stable ++ part)

-- The history that a walk writes is ranged.
pub walk_ranged : (o : Origin) (n : ℕ) → n ≤ map_bits → {s t : Run} (log : List Rec) → Walk (slides_after o log) s t → Standing o n s (slides_after o log) → t.due ≤ 2 ^ 32 → RangedHistory o n s.log → RangedHistory o n t.log
walk_ranged o n most log (calm p) x l h = ranged_history_trail o n most p x l h
walk_ranged o n most {s = s} log (by_commit_record {sl' = sl'} {r = r} y) x l h = ranged_history_more o n most s (slides_after o log) sl' r x y l h

module _ (o : Origin) (n m : ℕ) (l : Lent) (z : Lengths l n m) (stable : List Rec) (s : Sure o n l stable) (rest : List Rec) (t : Run) (is : t.log ≡ stable ++ rest) (st : Standing o n t (slides_after o t.log)) (within : length t.log ≤ m) where
  room : slot_size * (length stable + length rest) ≤ length l.stable_log
  room =
      let e = length-append stable rest in
      let f : length t.log ≡ length (stable ++ rest) = ap length is in
      let g = z.stable_log in
      omega arith

  from_log : (j : ℕ) (k : Lent) → LogStored l k (stable ++ take j rest) → Part o n k stable rest
  from_log j k w =
      record {
        part = take j rest;
        tail = drop j rest;
        whole = sym (take-append-drop j rest);
        kept = record { pages = s.pages; count = s.count; stored = subst (λ b. HoldsPages b s.pages) (sym w.stable_pages) s.stored; logged = w.stable_log; behind = behind_more 1 o.base stable (take j rest) s.pages s.behind };
      }

  -- Of the stores of every unstored record, the first j.
  pub log_part : (j : ℕ) → LogStored l (store_all_bytes (take j (log_stores (length stable) t.log)) l) (stable ++ take j rest)
  log_part j = subst (λ q. LogStored l (store_all_bytes (take j (log_stores (length stable) q)) l) (stable ++ take j rest)) (sym is) (log_stored_first l stable rest s.logged room j)

  pub kept_log : (j : ℕ) → Kept o n (store_all_bytes (take j (log_stores (length stable) t.log)) l) (stable ++ take j rest)
  unfolding from_log
  kept_log j = (from_log j _ (log_part j)).kept

  pub count_log : length (log_stores (length stable) t.log) ≡ length rest
  count_log = ap (λ q. length (log_stores (length stable) q)) is ∙ log_stores_count stable rest

  run_page : (p : ℕ) → p < n → at t.pages p ≡ at (pages_after o n (stable ++ rest)) p
  run_page p h = ap (λ q. at q p) (st.pages ∙ ap (pages_after o n) is)

  from_page : (p : ℕ) → p < n → (k : Lent) → PageStored l k (set s.pages p (at t.pages p)) (stable ++ rest) → Part o n k stable rest
  unfolding Current
  from_page p h k w =
      let c = length_after o n (stable ++ rest) in
      record {
        part = rest;
        tail = [];
        whole = sym (append-nil rest);
        kept = record {
          pages = set s.pages p (at t.pages p);
          count = length-set s.pages p (at t.pages p) ∙ s.count;
          stored = w.stable_pages;
          logged = w.stable_log;
          behind = behind_set 1 o.base (stable ++ rest) s.pages p (at t.pages p) (run_page p h ∙ after_current o n (stable ++ rest) p (omega arith)) (behind_more 1 o.base stable rest s.pages s.behind);
        };
      }

  -- OF ANY STORES, THE FIRST j.
  pub parts_kept : (j : ℕ) (ts : List Store) → Stored n stable t ts → Part o n (store_all_bytes (take j ts) l) stable rest
  unfolding store_all_bytes
  parts_kept j [] nothing = record { part = []; tail = rest; whole = refl; kept = record { pages = s.pages; count = s.count; stored = subst (λ k. HoldsPages (store_all_bytes k l).stable_pages s.pages) (no_stores j) s.stored; logged = subst (λ k. HoldsLog (store_all_bytes k l).stable_log (stable ++ [])) (no_stores j) (subst (HoldsLog l.stable_log) (sym (append-nil stable)) s.logged); behind = subst (λ q. Behind 1 o.base q s.pages) (sym (append-nil stable)) s.behind } }
    where
      no_stores : (j : ℕ) → ◌≡◌ {A = List Store} [] (take j [])
      no_stores zero = refl
      no_stores (suc j) = refl
  parts_kept j _ the_log = from_log j _ (log_part j)
  parts_kept j _ (log_and_page p h) = go (dec_le j (length rest))
    where
      at_p : Page
      at_p = at t.pages p

      go : Dec (j ≤ length rest) → Part o n (store_all_bytes (take j (log_stores (length stable) t.log ++ store_page p at_p ∷ [])) l) stable rest
      go (yes i) = from_log j _ (subst (λ q. LogStored l (store_all_bytes (take j (log_stores (length stable) q ++ store_page p at_p ∷ [])) l) (stable ++ take j rest)) (sym is) (write_out_first l stable rest p at_p s.logged room j i))
      go (no i) =
          from_page p h _
          (subst (λ q. PageStored l (store_all_bytes (take j (log_stores (length stable) q ++ store_page p at_p ∷ [])) l) (set s.pages p at_p) (stable ++ rest)) (sym is)
          (write_out_last l s.pages stable rest p at_p s.stored (let e = s.count in omega arith) s.logged room j (omega arith)))

  -- ---- sure again

  module _ (ranged : RangedHistory o n t.log) where
    pub sure_part : (k : Lent) (part tail : List Rec) → rest ≡ part ++ tail → Kept o n k (stable ++ part) → Sure o n k (stable ++ part)
    sure_part k part tail e p =
        let q : t.log ≡ (stable ++ part) ++ tail = is ∙ ap (stable ++◌) e ∙ sym (append_assoc stable part tail) in
        record {
          least = s.least;
          most = s.most;
          pages = p.pages;
          count = p.count;
          stored = p.stored;
          logged = p.logged;
          history = history_first o n s.least s.most (stable ++ part) tail (subst (History o n) q st.history);
          ranged = ranged_first o n (stable ++ part) tail (subst (RangedHistory o n) q ranged);
          behind = p.behind;
        }
