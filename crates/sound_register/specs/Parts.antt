-- SOUND part by part, in the words of the code that tests the parts: it is false with any of them, and else what the last of them say.
use Rattle.std.specs.Prelude.{ℕ, ◌*◌, ◌/◌, ◌≡◌, Bool, ◌&&◌, length}
use Rattle.std.proofs.Math.Path.{refl}
use Rattle.std.proofs.Common.{ap, ◌∙◌, arith}
use Rattle.std.proofs.Math.Bool.{true, false}
use mathlib.Core.List.{List, []}
use Rattle.def_layout.specs.declared.Desk.{Desk}
use Rattle.def_layout.specs.Desks.{same_desk}
use Rattle.def_layout.specs.Pages.{Page}
use Rattle.def_layout.specs.PageBytes.{Block, read_block}
use Rattle.def_layout.specs.Sizes.{page_size, slot_size}
use Rattle.def_layout.specs.RecordBytes.{Slot, read_slot}
use Rattle.def_model.specs.Areas.{blocks_ok}
use Rattle.def_model.specs.Areas as areas
use Rattle.def_model.specs.Log.{records_of, slots_ok}
use Rattle.def_model.specs.Batches.{open_batches, chain_ok, desk_of}
use Rattle.def_model.specs.Pending.{pending_ok}
use Rattle.def_model.specs.TreeRules.{tree_ok}
use Rattle.def_model.specs.Links.{lefts_ok}
use Rattle.def_model.specs.Sound.{layouts_ok, numbers_ok, log_ok, desk_ok, stored_ok, reserves_ok, sound}
use Rattle.def_model.specs.OnBytes.{read_pages, read_work, read_lefts, read_areas}
use Rattle.law_bytes.specs.Pieces.{read_all_length}
use Rattle.law_bytes.specs.PageAreas.{judged, blocks_of, blocks_by, lefts_of}
use Rattle.law_bytes.specs.LogAreas.{slots_of}
use Rattle.law_areas.specs.AsPieces.{read_pages_is, read_work_is, read_lefts_is}
use Rattle.area_lengths.specs.Lent.{lent}
use Rattle.sound_parts.specs.Stored.{stored_is}
use Rattle.sound_register.specs.Logs.{log_shown}

-- ---- a conjunction

right_off : (a : Bool) {b : Bool} → b ≡ false → a && b ≡ false
right_off true e = e
right_off false e = refl

-- The parts as `sound` has them: layouts; slots, chain and log numbers; tree; pending rule; desk; stored log; reserves; left links.
unfoldable pub ten : (layouts slots chain numbers tree pending desk stored reserves lefts : Bool) → Bool
ten layouts slots chain numbers tree pending desk stored reserves lefts =
    layouts && ((slots && (chain && numbers)) && (tree && (pending && (desk && (stored && (reserves && lefts))))))

module _ (a s c n t p d k r l : Bool) where
  pub without_layouts : a ≡ false → ten a s c n t p d k r l ≡ false
  unfolding ten
  without_layouts e = rw e

  pub without_log : s && c ≡ false → ten a s c n t p d k r l ≡ false
  unfolding ten
  without_log e = right_off a (ap (λ (x : Bool). x && (t && (p && (d && (k && (r && l)))))) (both s c e))
    where
      both : (x y : Bool) → x && y ≡ false → x && (y && n) ≡ false
      both true y e = rw e
      both false y e = refl

  pub without_numbers : n ≡ false → ten a s c n t p d k r l ≡ false
  unfolding ten
  without_numbers e = rw e (right_off a (ap (λ (x : Bool). x && (t && (p && (d && (k && (r && l)))))) (right_off s (right_off c refl))))

  -- The tree's rules, or its left links.
  pub without_tree : t && l ≡ false → ten a s c n t p d k r l ≡ false
  unfolding ten
  without_tree e = right_off a (right_off (s && (c && n)) (go t e))
    where
      go : (t : Bool) → t && l ≡ false → t && (p && (d && (k && (r && l)))) ≡ false
      go true e = rw e (right_off p (right_off d (right_off k (right_off r refl))))
      go false e = refl

  pub without_desk : d ≡ false → ten a s c n t p d k r l ≡ false
  unfolding ten
  without_desk e = rw e (right_off a (right_off (s && (c && n)) (right_off t (right_off p refl))))

  pub without_stored : k ≡ false → ten a s c n t p d k r l ≡ false
  unfolding ten
  without_stored e = rw e (right_off a (right_off (s && (c && n)) (right_off t (right_off p (right_off d refl)))))

  pub without_reserves : r ≡ false → ten a s c n t p d k r l ≡ false
  unfolding ten
  without_reserves e = rw e (right_off a (right_off (s && (c && n)) (right_off t (right_off p (right_off d (right_off k refl))))))

  pub without_pending : p ≡ false → ten a s c n t p d k r l ≡ false
  unfolding ten
  without_pending e = rw e (right_off a (right_off (s && (c && n)) (right_off t refl)))

  pub all_ten : a ≡ true → s ≡ true → c ≡ true → n ≡ true → t ≡ true → p ≡ true → d ≡ true → k ≡ true → r ≡ true → l ≡ true → ten a s c n t p d k r l ≡ true
  unfolding ten
  all_ten ea es ec en et ep ed ek er el = rw (ea, es, ec, en, et, ep, ed, ek, er, el)

-- ---- on bytes

-- The parts of n blocks and of m slots, working and stable; `pages` are what the blocks show.
abbrev pub parts_of : ℕ → ℕ → List Block → List Page → List ℕ → List Slot → List Slot → Desk → Bool
parts_of n m blocks pages lefts slots stable d =
    ten (blocks_ok n 0 blocks) (slots_ok n 1 slots) (chain_ok 1 (records_of slots) []) (numbers_ok (length (records_of slots)) pages) (tree_ok pages)
    (pending_ok pages (open_batches (records_of slots))) (same_desk d (desk_of (records_of slots) d.stored))
    (stored_is m stable (records_of slots) d.stored) (reserves_ok m pages (records_of slots) (open_batches (records_of slots))) (lefts_ok pages lefts)

pub pages_read : (n : ℕ) (b : List ℕ) → length b ≡ page_size * n → read_pages b ≡ blocks_of n b
pages_read n b size = let e : length b / page_size ≡ n = omega arith in read_pages_is b ∙ ap (λ (k : ℕ). blocks_of k b) e

pub work_read : (n : ℕ) (b : List ℕ) → length b ≡ page_size * n → read_work b ≡ blocks_by true n b
work_read n b size = let e : length b / page_size ≡ n = omega arith in read_work_is b ∙ ap (λ (k : ℕ). blocks_by true k b) e

pub lefts_read : (n : ℕ) (b : List ℕ) → length b ≡ page_size * n → read_lefts b ≡ lefts_of n b
lefts_read n b size = let e : length b / page_size ≡ n = omega arith in read_lefts_is b ∙ ap (λ (k : ℕ). lefts_of k b) e

module _ (n m : ℕ) (wp wl sl : List ℕ) (d : Desk) (of_pages : length wp ≡ page_size * n) (of_log : length wl ≡ slot_size * m) (of_stable : length sl ≡ slot_size * m) where
  pub sound_is : (sp : List ℕ) → sound (read_areas (lent wp sp wl sl)) d ≡ parts_of n m (blocks_by true n wp) (areas.pages_of (blocks_by true n wp)) (lefts_of n wp) (slots_of m wl) (slots_of m sl) d
  unfolding sound ten read_areas layouts_ok log_ok desk_ok stored_ok
  sound_is sp =
      rw (
        work_read n wp of_pages,
        lefts_read n wp of_pages,
        log_shown m wl of_log,
        log_shown m sl of_stable,
        read_all_length page_size (λ (x : List ℕ). read_block (judged true x)) n wp,
        read_all_length slot_size read_slot m wl,
        read_all_length slot_size read_slot m sl,
      )
