-- Stores on the bytes of the lent areas: those of pages in order, or of slots in order, are one part written over.
use Rattle.std.specs.Prelude.{◌≡◌, refl, ℕ, suc, ◌+◌, ◌-◌, ◌*◌, ◌≤◌, List, [], ◌∷◌, ◌++◌, map, take, drop, length}
use Rattle.std.proofs.Common.{ap, ap₂, sym, ◌∙◌, arith, append-nil, take-append-drop}
use Rattle.def_layout.specs.Pages.{Page}
use Rattle.def_layout.specs.PageBytes.{page, page_bytes, block_bytes}
use Rattle.def_layout.specs.Sizes.{page_size, slot_size}
use Rattle.def_layout.specs.RecordBytes.{Slot, slot_bytes}
use Rattle.def_model.specs.Areas.{Store, slot_stores}
use Rattle.def_model.specs.Calls.{page_stores}
use Rattle.def_model.specs.OnBytes.{Lent, joined, put_part, pages_bytes, log_bytes, store_bytes, store_all_bytes}
use Rattle.law_bytes.specs.Patch.{patch, patch_patch}
use Rattle.law_bytes.specs.Pieces.{All}
use Rattle.law_bytes.specs.PageBytes.{page_bytes_length}
use Rattle.law_areas.specs.Parts.{Wide, mul_up}
use Rattle.law_areas.specs.Held.{put_is, put_length}

-- The lent areas with other stable pages, or another stable log.
abbrev pub with_pages : Lent → List ℕ → Lent
with_pages l b = record { work_pages = l.work_pages; stable_pages = b; work_log = l.work_log; stable_log = l.stable_log }

abbrev pub with_log : Lent → List ℕ → Lent
with_log l b = record { work_pages = l.work_pages; stable_pages = l.stable_pages; work_log = l.work_log; stable_log = b }

pub stores_append : (a b : List Store) (l : Lent) → store_all_bytes (a ++ b) l ≡ store_all_bytes b (store_all_bytes a l)
unfolding store_all_bytes
stores_append [] b l = refl
stores_append (t ∷ a) b l = stores_append a b (store_bytes t l)

-- ---- stores in order

put_none : (i : ℕ) (b : List ℕ) → put_part i [] b ≡ b
unfolding put_part
put_none i b =
    let e : i + 0 ≡ i = omega arith in
    ap₂ (λ (x : List ℕ) (k : ℕ). x ++ drop k b) (append-nil (take i b)) e ∙ take-append-drop i b

-- Two parts, one next to the other.
put_put : (w i : ℕ) (x y b : List ℕ) → length x ≡ w → w * suc i ≤ length b → put_part (w * suc i) y (put_part (w * i) x b) ≡ put_part (w * i) (x ++ y) b
put_put w i x y b e h =
    put_is (w * suc i) y (put_part (w * i) x b) ∙ ap (λ (r : List ℕ). patch r (w * suc i) y) (put_is (w * i) x b)
    ∙ patch_patch b (w * i) (w * suc i) x y (omega (arith, mul_up w i)) h
    ∙ sym (put_is (w * i) (x ++ y) b)

-- PAGES from place p on.
pub page_stores_bytes : (p : ℕ) (xs : List Page) (l : Lent) → page_size * (p + length xs) ≤ length l.stable_pages
    → store_all_bytes (page_stores p xs) l ≡ with_pages l (put_part (page_size * p) (pages_bytes (map page xs)) l.stable_pages)
unfolding page_stores store_all_bytes store_bytes pages_bytes joined block_bytes
page_stores_bytes p [] l h = ap (with_pages l) (sym (put_none (page_size * p) l.stable_pages))
page_stores_bytes p (x ∷ xs) l h =
    let b : List ℕ = put_part (page_size * p) (page_bytes x) l.stable_pages in
    let e : length b ≡ length l.stable_pages = put_length (page_size * p) (page_bytes x) l.stable_pages (omega (arith, page_bytes_length x)) in
    page_stores_bytes (suc p) xs (with_pages l b) (omega arith)
    ∙ ap (with_pages l) (put_put page_size p (page_bytes x) (pages_bytes (map page xs)) l.stable_pages (page_bytes_length x) (omega arith))

-- SLOTS from place i on.
pub slot_stores_bytes : (i : ℕ) (s : List Slot) (l : Lent) → Wide slot_size (map slot_bytes s) → slot_size * (i + length s) ≤ length l.stable_log
    → store_all_bytes (slot_stores (suc i) s) l ≡ with_log l (put_part (slot_size * i) (log_bytes s) l.stable_log)
unfolding slot_stores store_all_bytes store_bytes log_bytes joined All
slot_stores_bytes i [] l w h = ap (with_log l) (sym (put_none (slot_size * i) l.stable_log))
slot_stores_bytes i (x ∷ s) l w h =
    let n : suc i - 1 ≡ i = omega arith in
    let b : List ℕ = put_part (slot_size * i) (slot_bytes x) l.stable_log in
    let e : length b ≡ length l.stable_log = put_length (slot_size * i) (slot_bytes x) l.stable_log (omega (arith, w.0)) in
    ap (λ (k : ℕ). store_all_bytes (slot_stores (suc (suc i)) s) (with_log l (put_part (slot_size * k) (slot_bytes x) l.stable_log))) n
    ∙ slot_stores_bytes (suc i) s (with_log l b) w.1 (omega arith)
    ∙ ap (with_log l) (put_put slot_size i (slot_bytes x) (log_bytes s) l.stable_log w.0 (omega arith))
