-- The four lent areas as one record, and what their lengths are where refusal 1 finds nothing.
use Rattle.std.specs.Prelude.{◌≡◌, ℕ, ◌*◌, ◌/◌, ◌≤◌, true, List, length}
use Rattle.std.proofs.Common.{sym, ◌∙◌}
use Rattle.def_model.specs.OnBytes.{Lent, lengths_ok}
use Rattle.law_areas.specs.Lengths.{Lengths, lengths_said}

-- Working pages, stable pages, working log, stable log: in the order in which calls take them.
abbrev pub lent : List ℕ → List ℕ → List ℕ → List ℕ → Lent
lent wp sp wl sl = record { work_pages = wp; stable_pages = sp; work_log = wl; stable_log = sl }

-- n pages and m slots, as the lengths give them: 16 to 896 pages of 128 bytes, 64 to 16,384 slots of 144, lent twice.
abbrev pub Sized : List ℕ → List ℕ → List ℕ → List ℕ → Type 0
Sized wp sp wl sl =
    (length wp ≡ 128 * (length wp / 128)) × (16 ≤ length wp / 128) × (length wp / 128 ≤ 896) × (length sp ≡ length wp)
    × (length wl ≡ 144 * (length wl / 144)) × (64 ≤ length wl / 144) × (length wl / 144 ≤ 16384) × (length sl ≡ length wl)

-- SAID by refusal 1, where it finds nothing.
pub lengths_numbers : (wp sp wl sl : List ℕ) → lengths_ok (lent wp sp wl sl) ≡ true → Sized wp sp wl sl
lengths_numbers wp sp wl sl e = of (lengths_said (lent wp sp wl sl) e)
  where
    of : Lengths (lent wp sp wl sl) (length wp / 128) (length wl / 144) → Sized wp sp wl sl
    of h =
        (h.work_pages, h.least_pages, h.most_pages, h.stable_pages ∙ sym h.work_pages, h.work_log, h.least_slots, h.most_slots, h.stable_log ∙ sym h.work_log)
