-- What a log leads to from an origin: its pages, page by page and whatever their count, and its slides.
use Rattle.std.specs.Prelude.{ℕ, suc, ◌+◌, ◌≡◌, refl, List, [], ◌∷◌, ◌++◌, length}
use Rattle.std.proofs.Common.{ap, ◌∙◌, arith}
use Rattle.def_layout.specs.declared.Entry.{Entry}
use Rattle.def_layout.specs.Pages.{Page}
use Rattle.def_layout.specs.Records.{Rec}
use Rattle.def_model.specs.Redo.{replay, redo_record}
use Rattle.theory_redo.specs.Area.{length_replay, replay_append}
use Rattle.theory_redo.specs.Current.{Current, Behind, behind_more, base_current, redo_current, current_behind, current_numbers}
use Rattle.theory_tree.specs.Step.Parts.{Lows}
use Rattle.theory_ledger.specs.Telling.{slides_of}
use Rattle.theory_history.specs.Origin.{Origin, origin_pages, origin_length, origin_page, origin_lows}

-- THE SLIDES THAT A LOG LEADS TO.
abbrev pub slides_after : Origin → List Rec → List Entry
slides_after o log = slides_of o.slides log

-- THE PAGES THAT A LOG LEADS TO, of n pages.
unfoldable pub pages_after : Origin → ℕ → List Rec → List Page
pages_after o n log = replay 1 log (origin_pages o n)

pub after_is : (o : Origin) (n : ℕ) (log : List Rec) → pages_after o n log ≡ replay 1 log (origin_pages o n)
unfolding pages_after
after_is o n log = refl

pub length_after : (o : Origin) (n : ℕ) (log : List Rec) → length (pages_after o n log) ≡ n
unfolding pages_after
length_after o n log = length_replay 1 log (origin_pages o n) ∙ origin_length o n

pub pages_more : (o : Origin) (n : ℕ) (log : List Rec) (r : Rec) → pages_after o n (log ++ r ∷ []) ≡ redo_record (suc (length log)) r (pages_after o n log)
unfolding pages_after replay
pages_more o n log r =
    let e : 1 + length log ≡ suc (length log) = omega arith in
    replay_append 1 log (r ∷ []) (origin_pages o n) ∙ ap (λ m. redo_record m r (replay 1 log (origin_pages o n))) e

-- Before the first record each page is the origin's.
pub start_behind : (o : Origin) (n : ℕ) → Behind 1 o.base [] (origin_pages o n)
start_behind o n =
    current_behind 1 o.base [] (origin_pages o n) (base_current 1 o.base (origin_pages o n) (λ p h. let e = origin_length o n in origin_page o n p (omega arith)))

-- They are current, page by page.
pub after_current : (o : Origin) (n : ℕ) (log : List Rec) → Current 1 o.base log (pages_after o n log)
unfolding pages_after
after_current o n log =
    redo_current 1 o.base log (origin_pages o n) (origin_lows o)
    (behind_more 1 o.base [] log (origin_pages o n) (start_behind o n))

pub after_lows : (o : Origin) (n : ℕ) (log : List Rec) → Lows (suc (length log)) (pages_after o n log)
after_lows o n log p h =
    let l = current_numbers 1 o.base log (pages_after o n log) (origin_lows o) (after_current o n log) p h in
    omega arith
