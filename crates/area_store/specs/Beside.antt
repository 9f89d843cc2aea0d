-- What is lent beside an area that is stored to makes no difference: the pages to a store of a slot, the working areas to any store.
use Rattle.std.specs.Prelude.{◌≡◌, refl, ℕ, zero, suc, ◌-◌, ◌*◌, List, [], ◌∷◌, take, length}
use Rattle.std.proofs.Common.{ap, sym, ◌∙◌}
use Rattle.def_layout.specs.PageBytes.{page_bytes}
use Rattle.def_layout.specs.Sizes.{page_size, slot_size}
use Rattle.def_layout.specs.RecordBytes.{Slot, slot_bytes}
use Rattle.def_model.specs.Areas.{Store, store_page, store_slot, slot_stores}
use Rattle.def_model.specs.OnBytes.{Lent, put_part, store_bytes, store_all_bytes}
use Rattle.area_lengths.specs.Lent.{lent}
use Rattle.area_store.specs.Parts.{SlotsAt}

-- LEFT of a stable log by the first stores of the slots from `from` up to `to`, whatever pages are lent.
abbrev pub SlotsLeft : (from to budget : ℕ) (wl sl sl' : List ℕ) → Type 0
SlotsLeft from to budget wl sl sl' =
    (wp sp : List ℕ) (xs : List Slot) → length xs ≡ to - from → SlotsAt wl from xs
    → lent wp sp wl sl' ≡ store_all_bytes (take budget (slot_stores (suc from) xs)) (lent wp sp wl sl)

-- ---- other pages

take_slot_stores : (b n : ℕ) (s : List Slot) → take b (slot_stores n s) ≡ slot_stores n (take b s)
unfolding slot_stores
take_slot_stores zero n s = refl
take_slot_stores (suc b) n [] = refl
take_slot_stores (suc b) n (x ∷ s) = ap (λ (ts : List Store). store_slot n x ∷ ts) (take_slot_stores b (suc n) s)

slots_alone : (n : ℕ) (xs : List Slot) (wp sp wp' sp' wl sl : List ℕ)
    → store_all_bytes (slot_stores n xs) (lent wp sp wl sl) ≡ lent wp sp wl (store_all_bytes (slot_stores n xs) (lent wp' sp' wl sl)).stable_log
unfolding slot_stores store_all_bytes store_bytes
slots_alone n [] wp sp wp' sp' wl sl = refl
slots_alone n (x ∷ xs) wp sp wp' sp' wl sl = slots_alone (suc n) xs wp sp wp' sp' wl (put_part (slot_size * (n - 1)) (slot_bytes x) sl)

pub any_pages : (n budget : ℕ) (xs : List Slot) (wp sp wp' sp' wl sl : List ℕ) (after : Lent) → after ≡ store_all_bytes (take budget (slot_stores n xs)) (lent wp' sp' wl sl)
    → lent wp sp wl after.stable_log ≡ store_all_bytes (take budget (slot_stores n xs)) (lent wp sp wl sl)
any_pages n budget xs wp sp wp' sp' wl sl after e =
    let t = take_slot_stores budget n xs in
    ap (λ (l : Lent). lent wp sp wl l.stable_log) (e ∙ ap (λ (ts : List Store). store_all_bytes ts (lent wp' sp' wl sl)) t)
    ∙ sym (ap (λ (ts : List Store). store_all_bytes ts (lent wp sp wl sl)) t ∙ slots_alone n (take budget xs) wp sp wp' sp' wl sl)

-- ---- other working areas

work_alone : (ts : List Store) (wp sp wl sl wp' wl' : List ℕ)
    → store_all_bytes ts (lent wp sp wl sl) ≡ lent wp (store_all_bytes ts (lent wp' sp wl' sl)).stable_pages wl (store_all_bytes ts (lent wp' sp wl' sl)).stable_log
unfolding store_all_bytes store_bytes
work_alone [] wp sp wl sl wp' wl' = refl
work_alone (store_page p x ∷ ts) wp sp wl sl wp' wl' = work_alone ts wp (put_part (page_size * p) (page_bytes x) sp) wl sl wp' wl'
work_alone (store_slot n x ∷ ts) wp sp wl sl wp' wl' = work_alone ts wp sp wl (put_part (slot_size * (n - 1)) (slot_bytes x) sl) wp' wl'

pub any_work : (ts : List Store) (wp sp wl sl wp' wl' : List ℕ) (after : Lent) → after ≡ store_all_bytes ts (lent wp' sp wl' sl)
    → ((store_all_bytes ts (lent wp sp wl sl)).stable_pages ≡ after.stable_pages) × ((store_all_bytes ts (lent wp sp wl sl)).stable_log ≡ after.stable_log)
any_work ts wp sp wl sl wp' wl' after e =
    let q = work_alone ts wp sp wl sl wp' wl' in
    (ap (λ (l : Lent). l.stable_pages) q ∙ ap (λ (l : Lent). l.stable_pages) (sym e), ap (λ (l : Lent). l.stable_log) q ∙ ap (λ (l : Lent). l.stable_log) (sym e))
