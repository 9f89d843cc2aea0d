-- Pages that each hold the changes of a first part of the log become, by redo of the whole log, the pages of the whole log.
use Rattle.std.specs.Prelude.{ℕ, ◌+◌, ◌<◌, ◌≡◌, List, [], ◌∷◌, ◌++◌, length, set}
use Rattle.std.proofs.Common.{sym, ap, ◌∙◌, subst, append_assoc, append-nil, arith, length-append, length-set, get_or-set_same, get_or-set_other, ext_get_or}
use Rattle.std.proofs.Math.Decide.{ℕ_discrete}
use Rattle.def_layout.specs.Pages.{Page, zero_page, at}
use Rattle.def_layout.specs.Records.{Rec}
use Rattle.def_model.specs.Change.{act, hits, act_stamp}
use Rattle.def_model.specs.Redo.{redo_record, replay}
use Rattle.theory_redo.specs.OnePage.{run1, run, redo, run_append, below1, lsn_run, redo_law}
use Rattle.theory_redo.specs.Area.{lsn_of, length_redo_record, length_replay, get_record, get_replay}

-- What the records from number n on make of page p, each done once.
abbrev pub page_run : ℕ → ℕ → List Rec → Page → Page
page_run p n log x = run lsn_of (hits p) (act p) n log x

-- Each page holds the changes of a first part of the log; which part, may differ from page to page. (`base`: the pages before the log.)
unfoldable pub Behind : ℕ → (ℕ → Page) → List Rec → List Page → Type 0
Behind n base log pages = (p : ℕ) → p < length pages → (a : List Rec) × (b : List Rec) × (log ≡ a ++ b) × (at pages p ≡ page_run p n a (base p))

-- Each page holds the changes of the whole log.
unfoldable pub Current : ℕ → (ℕ → Page) → List Rec → List Page → Type 0
Current n base log pages = (p : ℕ) → p < length pages → at pages p ≡ page_run p n log (base p)

-- REDO MAKES PAGES CURRENT.
pub redo_current : (n : ℕ) (base : ℕ → Page) (log : List Rec) (pages : List Page) → ((p : ℕ) → (base p).lsn < n)
    → Behind n base log pages → Current n base log (replay n log pages)
unfolding Behind Current
redo_current n base log pages low h p l =
    let k : p < length pages = rw length_replay at l in
    let (a, b, e, w) = h p k in
    let z = redo_law lsn_of (hits p) (act p) (act_stamp p) n a b (base p) (at pages p) (low p) w in
    get_replay n log pages p k ∙ (subst (λ u. redo lsn_of (hits p) (act p) n u (at pages p) ≡ page_run p n u (base p)) (sym e) z)

-- Pages that are current are the same pages.
pub current_unique : (n : ℕ) (base : ℕ → Page) (log : List Rec) (xs ys : List Page) → length xs ≡ length ys
    → Current n base log xs → Current n base log ys → xs ≡ ys
unfolding Current
current_unique n base log xs ys l a b = ext_get_or zero_page xs ys l (λ p h. a p h ∙ sym (b p (omega arith)))

-- ---- how pages come to be so

pub current_behind : (n : ℕ) (base : ℕ → Page) (log : List Rec) (pages : List Page) → Current n base log pages → Behind n base log pages
unfolding Behind Current
current_behind n base log pages c p h = (log, [], sym (append-nil log), c p h)

-- Before any record.
pub base_current : (n : ℕ) (base : ℕ → Page) (pages : List Page) → ((p : ℕ) → p < length pages → at pages p ≡ base p) → Current n base [] pages
unfolding Current run
base_current n base pages h p l = h p l

-- The log grows, and the pages stay.
pub behind_more : (n : ℕ) (base : ℕ → Page) (log more : List Rec) (pages : List Page) → Behind n base log pages → Behind n base (log ++ more) pages
unfolding Behind
behind_more n base log more pages h p l =
    let (a, b, e, w) = h p l in
    (a, b ++ more, ap (◌++ more) e ∙ append_assoc a b more, w)

-- A page is written out: it is current.
pub behind_set : (n : ℕ) (base : ℕ → Page) (log : List Rec) (pages : List Page) (q : ℕ) (x : Page) → x ≡ page_run q n log (base q)
    → Behind n base log pages → Behind n base log (set pages q x)
unfolding Behind
behind_set n base log pages q x e h p l = go (ℕ_discrete p q)
  where
    k : p < length pages
    k = rw length-set at l

    go : Dec (p ≡ q) → (a : List Rec) × (b : List Rec) × (log ≡ a ++ b) × (at (set pages q x) p ≡ page_run p n a (base p))
    go (yes w) = (
      log,
      [],
      sym (append-nil log),
      subst (λ z. at (set pages z x) p ≡ page_run p n log (base p)) w (get_or-set_same pages p x zero_page k ∙ subst (λ z. x ≡ page_run z n log (base z)) (sym w) e),
    )
    go (no d) = let (a, b, f, w) = h p k in (a, b, f, get_or-set_other pages q p x zero_page d ∙ w)

-- One record is logged and applied.
pub current_more : (n : ℕ) (base : ℕ → Page) (log : List Rec) (r : Rec) (pages : List Page) → ((p : ℕ) → (base p).lsn < n)
    → Current n base log pages → Current n base (log ++ r ∷ []) (redo_record (n + length log) r pages)
unfolding Current run
current_more n base log r pages low c p l =
    let k : p < length pages = rw length_redo_record at l in
    let e = c p k in
    let b : (at pages p).lsn < n + length log = subst (λ x. x.lsn < n + length log) (sym e) (lsn_run lsn_of (hits p) (act p) (act_stamp p) n log (base p) (low p)) in
    get_record (n + length log) r pages p k
    ∙ below1 lsn_of (hits p) (act p) (act_stamp p) (n + length log) r (at pages p) b
    ∙ ap (run1 lsn_of (hits p) (act p) (n + length log) r) e
    ∙ sym (run_append lsn_of (hits p) (act p) n log (r ∷ []) (base p))

-- The numbers of current pages are below the number due.
pub current_numbers : (n : ℕ) (base : ℕ → Page) (log : List Rec) (pages : List Page) → ((p : ℕ) → (base p).lsn < n) → Current n base log pages
    → (p : ℕ) → p < length pages → (at pages p).lsn < n + length log
unfolding Current
current_numbers n base log pages low c p h =
    subst (λ x. x.lsn < n + length log) (sym (c p h)) (lsn_run lsn_of (hits p) (act p) (act_stamp p) n log (base p) (low p))

-- Of pages that are behind, too.
pub behind_numbers : (n : ℕ) (base : ℕ → Page) (log : List Rec) (pages : List Page) → ((p : ℕ) → (base p).lsn < n) → Behind n base log pages
    → (p : ℕ) → p < length pages → (at pages p).lsn < n + length log
unfolding Behind
behind_numbers n base log pages low c p h =
    let (a, b, e, w) = c p h in
    let l = lsn_run lsn_of (hits p) (act p) (act_stamp p) n a (base p) (low p) in
    let m : length log ≡ length a + length b = ap length e ∙ length-append a b in
    let k : (at pages p).lsn < n + length a = subst (λ x. x.lsn < n + length a) (sym w) l in
    omega arith
