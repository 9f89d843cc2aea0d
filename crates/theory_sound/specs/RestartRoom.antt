-- A RESTART WITH ENOUGH SLOTS AND PAGES FINISHES, and with 18 no page is free.
use Rattle.std.specs.Prelude.{ℕ, ◌*◌, ◌≤◌, ◌≡◌, true, List, length}
use Rattle.std.proofs.Common.{arith}
use Rattle.def_layout.specs.declared.Entry.{Entry}
use Rattle.def_layout.specs.Pages.{map_bits}
use Rattle.def_model.specs.Areas.{Areas}
use Rattle.def_model.specs.Batches.{open_batches, pending_count}
use Rattle.def_model.specs.TreeRules.{free_pages}
use Rattle.def_model.specs.Update.{Run}
use Rattle.def_model.specs.Sound.{reserve, reserves_ok}
use Rattle.def_model.specs.Restart.{stable_log, stable_slots, redone_pages, redone, settle, restarted}
use Rattle.def_recovery.specs.Demand3.{with_room}
use Rattle.theory_history.specs.Core.{Core}
use Rattle.theory_sound.specs.SoundAfter.{used_within, reserved}
use Rattle.theory_sound.specs.SettleRoom.{settle_spent}
use Rattle.theory_sound.specs.SettleFull.{settle_full}

-- Room has no part in what is sound.
core_room : (n k : ℕ) (s : Run) (sl : List Entry) → Core n s sl → Core n (with_room k s) sl
core_room n k s sl c =
    record {
      size = c.size;
      tree = c.tree;
      lows = c.lows;
      laid = c.laid;
      rows = c.rows;
      names = c.names;
      chain = c.chain;
      small = c.small;
      settles = c.settles;
      due = c.due;
      goes = c.goes;
    }

module _ (n : ℕ) (most : n ≤ map_bits) (a : Areas) (sl : List Entry) (c : Core n (redone a) sl) where
  -- With 01's reserves.
  pub reserves_finish : reserves_ok (stable_slots a) (redone_pages a) (stable_log a) (open_batches (stable_log a)) ≡ true → (restarted a).stop ≡ 0
  unfolding restarted redone reserve
  reserves_finish e =
      let r = reserved (stable_slots a) (redone_pages a) (stable_log a) (open_batches (stable_log a)) e in
      let x = r.slots_free in
      (settle_spent n most (redone a) sl c (omega arith) r.pages_free).goes

  -- With their pages, and room for as many records as they have slots.
  pub reserves_end : 7 * pending_count (open_batches (stable_log a)) ≤ free_pages (redone_pages a)
      → (settle (with_room (reserve (pending_count (open_batches (stable_log a))) (length (open_batches (stable_log a)))) (redone a))).stop ≡ 0
  unfolding redone
  reserves_end h =
      let k = reserve (pending_count (open_batches (stable_log a))) (length (open_batches (stable_log a))) in
      let u = used_within (redone_pages a) in
      (settle_spent n most (with_room k (redone a)) sl (core_room n k (redone a) sl c) (omega arith) (omega arith)).goes

  pub redone_no_page : (k : ℕ) → (settle (with_room k (redone a))).stop ≡ 18 → free_pages (settle (with_room k (redone a))).pages ≡ 0
  redone_no_page k = settle_full n most (with_room k (redone a)) sl (core_room n k (redone a) sl c)
