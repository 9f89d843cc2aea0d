-- The way through the parts of soundness, in the order of the code: what each test leaves if it fails, and what is known where none does.
use Prim.Native.Nat.{ℕ, suc, ◌*◌, ◌≤◌}
use Rattle.std.specs.Prelude.{◌≡◌, refl, Bool, true, false, take, leb, Some, None}
use Rattle.std.proofs.Math.Path.{sym, ap, subst}
use Rattle.std.proofs.Common.{ap₂, ◌∙◌, subst₂, arith}
use mathlib.Core.List.{List, [], map}
use Rattle.std.proofs.Math.ListN.{length}
use Rattle.def_base.specs.Tests.{and_true, true_le}
use Rattle.def_layout.specs.declared.Desk.{Desk}
use Rattle.def_layout.specs.Desks.{eight_rows, same_desk}
use Rattle.def_layout.specs.Pages.{Page}
use Rattle.def_layout.specs.Sizes.{page_size, slot_size}
use Rattle.def_layout.specs.Records.{Rec}
use Rattle.def_model.specs.Areas.{blocks_ok}
use Rattle.def_model.specs.Areas as areas
use Rattle.def_model.specs.Log.{records_of, slots_ok, log_area}
use Rattle.def_model.specs.Batches.{open_batches, chain_ok, row_of, desk_of, pending_count}
use Rattle.def_model.specs.Pending.{pending_ok}
use Rattle.def_model.specs.TreeRules.{tree_ok, free_pages}
use Rattle.def_model.specs.Links.{lefts_ok}
use Rattle.def_model.specs.Sound.{numbers_ok, reserves_ok, same_slots, sound}
use Rattle.def_model.specs.Calls.{run_of}
use Rattle.def_model.specs.OnBytes.{read_areas, read_lefts}
use Rattle.law_bytes.specs.Words.{Bytes}
use Rattle.law_bytes.specs.PageAreas.{blocks_by, pages_of, lefts_of}
use Rattle.law_bytes.specs.LogAreas.{slots_of}
use Rattle.law_bytes.specs.DeskRows.{place_of, LowRows}
use Rattle.log_pending.specs.Reading.{reads_few}
use Rattle.log_chain.specs.Families.{rows_used}
use Rattle.sound_pending.specs.Rule.{RuleIs}
use Rattle.log_judge.specs.declared.Said.{Said}
use Rattle.log_judge.specs.Judging.{Judgement}
use Rattle.log_judge.specs.Accepted.{Accepted, accepted, accepted_low, total, total_open}
use Rattle.law_areas.specs.Logs.{HoldsLog, read_log_length}
use Rattle.area_lengths.specs.Lent.{lent}
use Rattle.record_pages.specs.Pages.{Pages}
use Rattle.tree_write.specs.Shows.{Shows}
use Rattle.sound_parts.specs.LaidWork.{LaidWork, laid_work}
use Rattle.sound_parts.specs.Desks.{desk_with}
use Rattle.sound_parts.specs.Stored.{stored_is}
use Rattle.sound_parts.specs.Reserves.{reserves_by, reserves_are}
use Rattle.sound_register.specs.declared.Standing.{Standing}
use Rattle.sound_register.specs.Logs.{log_shown, area_is, area_fits, area_holds_log, holds_first}
use Rattle.law_bytes.specs.DeskSame.{desk_same}
use Rattle.sound_register.specs.Parts.{parts_of, work_read, lefts_read, sound_is, without_layouts, without_log, without_numbers, without_tree, without_desk, without_stored, without_reserves, without_pending, all_ten}
use Rattle.sound_register.specs.Reserved.{Reserved}
use Rattle.sound_register.specs.Standing.{pages_in, log_in, linked_ok, Known, Stands}

-- What the comparison of the two logs says, of whatever log the working area shows.
abbrev StoredSays : ℕ → List ℕ → List ℕ → ℕ → ℕ → Bool → Type 0
StoredSays m wl sl logged stored t = (l : List Rec) → length l ≡ logged → slots_of m wl ≡ log_area m l → t ≡ stored_is m (slots_of m sl) l stored

module _ (n m : ℕ) (wp wl sl : List ℕ) (d : Desk) (of_pages : length wp ≡ page_size * n) (of_log : length wl ≡ slot_size * m) (of_stable : length sl ≡ slot_size * m) where
  abbrev by_parts : (sp : List ℕ) → sound (read_areas (lent wp sp wl sl)) d ≡ parts_of n m (blocks_by true n wp) (areas.pages_of (blocks_by true n wp)) (lefts_of n wp) (slots_of m wl) (slots_of m sl) d
  by_parts sp = sound_is n m wp wl sl d of_pages of_log of_stable sp

  -- ---- a part that fails

  fails : parts_of n m (blocks_by true n wp) (areas.pages_of (blocks_by true n wp)) (lefts_of n wp) (slots_of m wl) (slots_of m sl) d ≡ false → Stands n m wp wl sl d None
  fails e = λ sp. by_parts sp ∙ e

  pub pages_broken : {t : Bool} → t ≡ blocks_ok n 0 (blocks_by true n wp) → t ≡ false → Stands n m wp wl sl d None
  pages_broken et e = fails (without_layouts _ _ _ _ _ _ _ _ _ _ (sym et ∙ e))

  pub log_broken : Judgement n (slots_of m wl) None → Stands n m wp wl sl d None
  log_broken e = fails (without_log _ _ _ _ _ _ _ _ _ _ e)

  -- ---- after the layouts and the log

  module _ (laid : blocks_ok n 0 (blocks_by true n wp) ≡ true) (j : Said) (judged : Judgement n (slots_of m wl) (Some j)) where
    area : LaidWork n wp
    area = laid_work n wp laid of_pages

    both : (slots_ok n 1 (slots_of m wl) ≡ true) × (chain_ok 1 (records_of (slots_of m wl)) [] ≡ true)
    both = and_true (slots_ok n 1 (slots_of m wl)) (chain_ok 1 (records_of (slots_of m wl)) []) judged.0

    taken : Accepted m wl (records_of (slots_of m wl))
    taken = accepted n m wl both.0 both.1

    log_size : j.logged ≡ length (records_of (slots_of m wl))
    unfolding desk_of
    log_size = ap (λ (x : Desk). x.logged) (judged.1.desk 0)

    said : desk_with j.batches.rows j.logged d.stored ≡ desk_of (records_of (slots_of m wl)) d.stored
    said = judged.1.desk d.stored

    rows_said : j.batches.rows ≡ eight_rows (map row_of (open_batches (records_of (slots_of m wl))))
    unfolding desk_of
    rows_said = ap (λ (x : Desk). x.rows) (judged.1.desk 0)

    -- The tests in the definitions' words.
    numbers_are : {t : Bool} → t ≡ numbers_ok j.logged (pages_of n wp) → numbers_ok (length (records_of (slots_of m wl))) (areas.pages_of (blocks_by true n wp)) ≡ t
    numbers_are et = ap₂ numbers_ok (sym log_size) area.shown ∙ sym et

    tree_is : {t : Bool} → t ≡ linked_ok (pages_of n wp) (lefts_of n wp) → linked_ok (areas.pages_of (blocks_by true n wp)) (lefts_of n wp) ≡ t
    tree_is et = ap (λ (xs : List Page). linked_ok xs (lefts_of n wp)) area.shown ∙ sym et

    desk_as : {t : Bool} → t ≡ same_desk d (desk_with j.batches.rows j.logged d.stored) → same_desk d (desk_of (records_of (slots_of m wl)) d.stored) ≡ t
    desk_as et = ap (same_desk d) (sym said) ∙ sym et

    stored_as : {t : Bool} → StoredSays m wl sl j.logged d.stored t → stored_is m (slots_of m sl) (records_of (slots_of m wl)) d.stored ≡ t
    stored_as et = sym (et (records_of (slots_of m wl)) (sym log_size) (area_is n m wl both.0))

    module _ {t : Bool} (e : t ≡ false) where
      pub desk_other : t ≡ same_desk d (desk_with j.batches.rows j.logged d.stored) → Stands n m wp wl sl d None
      desk_other et = fails (without_desk _ _ _ _ _ _ _ _ _ _ (desk_as et ∙ e))

      pub numbers_high : t ≡ numbers_ok j.logged (pages_of n wp) → Stands n m wp wl sl d None
      numbers_high et = fails (without_numbers _ _ _ _ _ _ _ _ _ _ (numbers_are et ∙ e))

      pub stored_other : StoredSays m wl sl j.logged d.stored t → Stands n m wp wl sl d None
      stored_other et = fails (without_stored _ _ _ _ _ _ _ _ _ _ (stored_as et ∙ e))

      pub tree_broken : t ≡ linked_ok (pages_of n wp) (lefts_of n wp) → Stands n m wp wl sl d None
      tree_broken et = fails (without_tree _ _ _ _ _ _ _ _ _ _ (tree_is et ∙ e))

    -- ---- after the desk, which is what the log says

    module _ {u : Bool} (eu : u ≡ same_desk d (desk_with j.batches.rows j.logged d.stored)) (same : u ≡ true) where
      desk_is : d ≡ desk_of (records_of (slots_of m wl)) d.stored
      desk_is = desk_same d (desk_of (records_of (slots_of m wl)) d.stored) (desk_as eu ∙ same)

      rows_are : d.rows ≡ eight_rows (map row_of (open_batches (records_of (slots_of m wl))))
      unfolding desk_of
      rows_are = ap (λ (x : Desk). x.rows) desk_is

      logged_is : d.logged ≡ length (records_of (slots_of m wl))
      unfolding desk_of
      logged_is = ap (λ (x : Desk). x.logged) desk_is

      pending_is : total d.rows ≡ pending_count (open_batches (records_of (slots_of m wl)))
      pending_is = ap total rows_are ∙ total_open (open_batches (records_of (slots_of m wl))) taken.holds.few

      used_is : place_of 0 d.rows ≡ length (open_batches (records_of (slots_of m wl)))
      used_is = rows_used d.rows (records_of (slots_of m wl)) (open_batches (records_of (slots_of m wl))) taken.holds rows_are

      pub counts_low : m ≤ 16384 → (d.logged ≤ 16384) × LowRows d.rows × (total d.rows ≤ 16384)
      counts_low few =
          let l : length (records_of (slots_of m wl)) ≤ m = reads_few m wl (records_of (slots_of m wl)) taken.reads in (
            omega (arith, logged_is),
            subst LowRows (sym rows_are) (accepted_low m wl (records_of (slots_of m wl)) few taken),
            omega (arith, pending_is, taken.holds.count),
          )

      reserves_as : {t : Bool} → t ≡ reserves_by m (free_pages (pages_of n wp)) d.logged (total d.rows) (place_of 0 d.rows)
          → reserves_ok m (areas.pages_of (blocks_by true n wp)) (records_of (slots_of m wl)) (open_batches (records_of (slots_of m wl))) ≡ t
      reserves_as et =
          ap (λ (xs : List Page). reserves_ok m xs (records_of (slots_of m wl)) (open_batches (records_of (slots_of m wl)))) area.shown
          ∙ reserves_are m (pages_of n wp) (records_of (slots_of m wl)) (open_batches (records_of (slots_of m wl)))
          ∙ sym (et ∙ rw (logged_is, pending_is, used_is))

      rule_is : {t : Bool} → RuleIs (pages_of n wp) m wl j.batches.rows t → pending_ok (areas.pages_of (blocks_by true n wp)) (open_batches (records_of (slots_of m wl))) ≡ t
      rule_is et =
          ap (λ (xs : List Page). pending_ok xs (open_batches (records_of (slots_of m wl)))) area.shown
          ∙ sym (et (records_of (slots_of m wl)) (open_batches (records_of (slots_of m wl))) (record { reads = taken.reads; holds = taken.holds; rows = rows_said }))

      pub reserves_short : (ms : List Bool) → Reserved m (pages_of n wp) d ms None → Stands n m wp wl sl d None
      reserves_short ms e = fails (without_reserves _ _ _ _ _ _ _ _ _ _ (reserves_as (sym e)))

      pub rule_broken : {t : Bool} → RuleIs (pages_of n wp) m wl j.batches.rows t → t ≡ false → Stands n m wp wl sl d None
      rule_broken et e = fails (without_pending _ _ _ _ _ _ _ _ _ _ (rule_is et ∙ e))

      -- ---- all parts

      in_pages : Pages n wp (pages_of n wp) (read_lefts wp)
      in_pages = subst (Pages n wp (pages_of n wp)) (sym (lefts_read n wp of_pages)) (record { bytes = area.bytes; links = area.links; fits = area.fits; size = area.size })

      pages_shown : pages_of n wp ≡ pages_in wp
      pages_shown = sym (ap areas.pages_of (work_read n wp of_pages) ∙ area.shown)

      records_shown : records_of (slots_of m wl) ≡ log_in wl
      records_shown = ap records_of (sym (log_shown m wl of_log))

      run_shown : (sp : List ℕ) → Shows n m wp wl (record { logged = d.logged; stop = None }) (run_of (read_areas (lent wp sp wl sl)))
      unfolding run_of read_areas
      run_shown sp =
          let k : length (log_in wl) ≡ d.logged = ap length (sym records_shown) ∙ sym logged_is in
          record {
            pages = subst (λ (xs : List Page). Pages n wp xs (read_lefts wp)) pages_shown in_pages;
            log = subst (HoldsLog wl) records_shown (area_holds_log n m wl both.0 of_log);
            size = of_log;
            logged = k;
            due = ap suc k;
            room = omega (arith, k, read_log_length m wl of_log);
            stop = refl;
          }

      module _ (w : Bytes wl) (s : Standing) (held : Reserved m (pages_of n wp) d j.batches.marked (Some s)) where
        stored_both : stored_is m (slots_of m sl) (records_of (slots_of m wl)) d.stored ≡ true
            → (d.stored ≤ length (records_of (slots_of m wl))) × HoldsLog sl (take d.stored (records_of (slots_of m wl)))
        stored_both e =
            let p = and_true (leb d.stored (length (records_of (slots_of m wl)))) (same_slots (slots_of m sl) (log_area m (take d.stored (records_of (slots_of m wl))))) e in (
              true_le d.stored (length (records_of (slots_of m wl))) p.0,
              holds_first m d.stored sl (records_of (slots_of m wl)) of_stable (reads_few m wl (records_of (slots_of m wl)) taken.reads) (area_fits n m wl both.0 w) p.1,
            )

        known_so : stored_is m (slots_of m sl) (records_of (slots_of m wl)) d.stored ≡ true → Known n m wp wl sl d s (pages_of n wp) (records_of (slots_of m wl))
        known_so e =
            let k = stored_both e in
            record {
              pages = in_pages;
              log = area_holds_log n m wl both.0 of_log;
              stable = k.1;
              fits = area_fits n m wl both.0 w;
              shows = run_shown;
              reads = taken.reads;
              holds = taken.holds;
              desk = desk_is;
              rows = rows_are;
              logged = logged_is;
              stored = k.0;
              marked = held.1.marked ∙ judged.1.marked;
              pending = held.1.pending ∙ pending_is;
              free = held.1.free;
            }

        pub all_kept : {numbers stored tree rule : Bool}
            → numbers ≡ numbers_ok j.logged (pages_of n wp) → numbers ≡ true
            → StoredSays m wl sl j.logged d.stored stored → stored ≡ true
            → tree ≡ linked_ok (pages_of n wp) (lefts_of n wp) → tree ≡ true
            → RuleIs (pages_of n wp) m wl j.batches.rows rule → rule ≡ true
            → Stands n m wp wl sl d (Some s)
        all_kept en n! es s! et t! er r! =
            let Stored_on = stored_as es ∙ s! in
            let both_on = and_true (tree_ok (areas.pages_of (blocks_by true n wp))) (lefts_ok (areas.pages_of (blocks_by true n wp)) (lefts_of n wp)) (tree_is et ∙ t!) in (
              λ sp.
                  by_parts sp
                  ∙ all_ten _ _ _ _ _ _ _ _ _ _ laid both.0 both.1 (numbers_are en ∙ n!) both_on.0 (rule_is er ∙ r!) (desk_as eu ∙ same) Stored_on (reserves_as (sym held.0)) both_on.1,
              subst₂ (λ (xs : List Page) (l : List Rec). Known n m wp wl sl d s xs l) pages_shown records_shown (known_so Stored_on),
            )
