-- What a formatting or a loading leaves of four lent areas, whose stores are carried out by a budget.
use Rattle.std.specs.Prelude.{◌≡◌, refl, ℕ, suc, ◌+◌, ◌-◌, ◌*◌, ◌/◌, ◌≤◌, List, [], ◌++◌, map, take, drop, length, replicate}
use Rattle.std.proofs.Common.{ap, ap₂, sym, ◌∙◌, subst, arith, append_assoc, length-append, drop_at}
use Rattle.std.proofs.lemmas.List.{length-replicate, replicate-append-replicate}
use Rattle.def_layout.specs.declared.Entry.{Entry}
use Rattle.def_layout.specs.Numbers.{zeros}
use Rattle.def_layout.specs.Entries.{top}
use Rattle.def_layout.specs.Pages.{Page, zero_page, map_page, first_marks, node_at}
use Rattle.def_layout.specs.PageBytes.{page, page_bytes, block_bytes}
use Rattle.def_layout.specs.Sizes.{page_size, slot_size}
use Rattle.def_layout.specs.RecordBytes.{empty, slot_bytes}
use Rattle.def_model.specs.Areas.{Store, slot_stores}
use Rattle.def_model.specs.Loading.{tree_count, loaded_count, loaded_pages}
use Rattle.def_model.specs.Calls.{formatted_pages, page_stores, format_stores}
use Rattle.def_model.specs.OnBytes.{Lent, joined, pages_bytes, log_bytes, store_all_bytes}
use Rattle.law_bytes.specs.Patch.{patch, patch_zero, patch_patch}
use Rattle.law_bytes.specs.PageBytes.{page_bytes_length}
use Rattle.law_areas.specs.Parts.{map_same, wide_blank}
use Rattle.law_areas.specs.Pages.{zero_pages_bytes}
use Rattle.law_areas.specs.Logs.{empty_bytes}
use Rattle.theory_load.specs.Loaded.{loaded_length}
use Rattle.theory_load.specs.LoadedOrigin.{formatted_loaded}
use Rattle.area_lengths.specs.Lent.{lent}
use Rattle.area_store.specs.declared.Area.TheVariants.{Pages, Slots}
use Rattle.area_store.specs.declared.Stores.{Stores}
use Rattle.area_store.specs.Lists.{Lists, Leads}
use Rattle.area_store.specs.Parts.{log_at, pages_at, slots_span, pages_span, both}
use Rattle.area_store.specs.Beside.{any_work}

-- Of n pages and m slots: all of the working areas, and of the stable ones what the first stores leave.
pub record Started (es : List Entry) (budget : ℕ) (l after : Lent) : Type 0 where
  pub work_pages : after.work_pages ≡ pages_bytes (map page (loaded_pages (length l.work_pages / page_size) es))
  pub work_log : after.work_log ≡ log_bytes (replicate (length l.work_log / slot_size) empty)
  pub stable_pages : after.stable_pages
      ≡ (store_all_bytes (take budget (format_stores (loaded_pages (length l.work_pages / page_size) es) (length l.work_log / slot_size))) l).stable_pages
  pub stable_log : after.stable_log
      ≡ (store_all_bytes (take budget (format_stores (loaded_pages (length l.work_pages / page_size) es) (length l.work_log / slot_size))) l).stable_log

-- ---- the working areas

formatted_bytes : (n : ℕ)
    → pages_bytes (map page (formatted_pages n)) ≡ page_bytes (map_page first_marks) ++ (page_bytes (node_at 1 0 0 top []) ++ zeros (page_size * (n - 2)))
unfolding formatted_pages pages_bytes joined block_bytes
formatted_bytes n =
    ap (λ (r : List ℕ). page_bytes (map_page first_marks) ++ (page_bytes (node_at 1 0 0 top []) ++ r))
    (ap pages_bytes (map_same page (n - 2) zero_page) ∙ zero_pages_bytes (n - 2))

drop_zeros : (k n : ℕ) → n ≤ k → drop n (zeros k) ≡ zeros (k - n)
drop_zeros k n h =
    let e : k ≡ n + (k - n) = omega arith in
    ap (λ (j : ℕ). drop n (zeros j)) e ∙ ap (drop n) (sym (replicate-append-replicate n (k - n) 0)) ∙ drop_at (zeros n) (zeros (k - n)) n (length-replicate n 0)

-- A loading of no records: zeros, the map and the root written over them.
pub pages_formatted : (s₁ s₂ s₃ : List ℕ) (x y : Page) (k n : ℕ) → s₁ ≡ zeros k → x ≡ map_page first_marks → s₂ ≡ patch s₁ 0 (page_bytes x)
    → y ≡ node_at 1 0 0 top [] → s₃ ≡ patch s₂ 128 (page_bytes y) → k ≡ 128 * n → 2 ≤ n → s₃ ≡ pages_bytes (map page (loaded_pages n []))
pages_formatted s₁ s₂ s₃ x y k n e₁ ex e₂ ey e₃ ek h =
    let a : List ℕ = page_bytes x in
    let b : List ℕ = page_bytes y in
    let l : length (zeros k) ≡ k = length-replicate k 0 in
    let r : k - 256 ≡ 128 * (n - 2) = omega arith in
    e₃ ∙ ap (λ (s : List ℕ). patch s 128 b) (e₂ ∙ ap (λ (s : List ℕ). patch s 0 a) e₁)
    ∙ patch_patch (zeros k) 0 128 a b (omega (arith, page_bytes_length x)) (omega arith)
    ∙ patch_zero (zeros k) (a ++ b) 256 (length-append a b ∙ omega (arith, page_bytes_length x, page_bytes_length y))
    ∙ ap (λ (z : List ℕ). (a ++ b) ++ z) (drop_zeros k 256 (omega arith) ∙ ap zeros r)
    ∙ append_assoc a b (zeros (128 * (n - 2)))
    ∙ ap₂ (λ (u v : Page). page_bytes u ++ (page_bytes v ++ zeros (128 * (n - 2)))) ex ey
    ∙ sym (formatted_bytes n)
    ∙ ap (λ xs. pages_bytes (map page xs)) (formatted_loaded n)

pub log_formatted : (s : List ℕ) (k m : ℕ) → s ≡ zeros k → k ≡ 144 * m → s ≡ log_bytes (replicate m empty)
log_formatted s k m e h = e ∙ ap zeros h ∙ sym (empty_bytes m)

-- ---- the stores

-- The list of them: n pages, then m slots.
abbrev pub all_parts : ℕ → ℕ → Stores
all_parts n m = record { first = record { area = Pages; from = 0; count = n }; rest = record { area = Slots; from = 0; count = m } }

start_list : (es : List Entry) (n m : ℕ) (wp wl : List ℕ) → suc (loaded_count (length es)) ≤ n → wp ≡ pages_bytes (map page (loaded_pages n es)) → wl ≡ log_bytes (replicate m empty)
    → Lists wp wl (all_parts n m) (format_stores (loaded_pages n es) m)
unfolding format_stores slot_bytes
start_list es n m wp wl h pages log =
    both wp wl (all_parts n m) (page_stores 0 (loaded_pages n es)) (slot_stores 1 (replicate m empty))
    (pages_span wp wl 0 n (loaded_pages n es) (loaded_length n es h) (pages_at wp (loaded_pages n es) pages))
    (slots_span wp wl 0 m (replicate m empty) (length-replicate m empty) (log_at wl (replicate m empty) (wide_blank slot_size slot_bytes empty refl m) log))

-- THE WHOLE.
pub started : (es : List Entry) (budget : ℕ) (wp sp wl sl wp' sp' wl' sl' : List ℕ) → suc (loaded_count (length es)) ≤ length wp / 128
    → wp' ≡ pages_bytes (map page (loaded_pages (length wp / 128) es)) → wl' ≡ log_bytes (replicate (length wl / 144) empty)
    → length wp' ≡ length wp → length wl' ≡ length wl
    → Leads (all_parts (length wp' / 128) (length wl' / 144)) budget wp' wl' (lent wp' sp wl' sl) (lent wp' sp' wl' sl')
    → Started es budget (lent wp sp wl sl) (lent wp' sp' wl' sl')
started es budget wp sp wl sl wp' sp' wl' sl' h pages log same_pages same_log stored =
    let n : ℕ = length wp / 128 in
    let m : ℕ = length wl / 144 in
    let ts : List Store = take budget (format_stores (loaded_pages n es) m) in
    let en : length wp' / 128 ≡ n = ap (λ (k : ℕ). k / 128) same_pages in
    let em : length wl' / 144 ≡ m = ap (λ (k : ℕ). k / 144) same_log in
    let list : Lists wp' wl' (all_parts (length wp' / 128) (length wl' / 144)) (format_stores (loaded_pages n es) m) =
    subst (λ (s : Stores). Lists wp' wl' s (format_stores (loaded_pages n es) m)) (sym (ap₂ all_parts en em)) (start_list es n m wp' wl' h pages log) in
    let s = any_work ts wp sp wl sl wp' wl' (lent wp' sp' wl' sl') (stored (format_stores (loaded_pages n es) m) list) in
    record { work_pages = pages; work_log = log; stable_pages = sym s.0; stable_log = sym s.1 }

pub none_fit : (n : ℕ) → 16 ≤ n → suc (loaded_count 0) ≤ n
unfolding tree_count
none_fit n h = omega arith
