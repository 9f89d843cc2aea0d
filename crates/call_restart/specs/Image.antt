-- THE IMAGE that a restart starts from, as bytes: how 3 and 4 refuse it, and what is known of it where they do not.
use Rattle.std.specs.Prelude.{ℕ, ◌*◌, ◌≤◌, ◌≡◌, Bool, ◌&&◌, Result, MatchResult}
use Rattle.std.proofs.Math.Path.{refl, sym, ap, ap₂, subst}
use Rattle.std.proofs.Common.{◌∙◌, arith}
use Rattle.std.proofs.Math.Bool.{true, false}
use Rattle.std.proofs.Math.Option.{some}
use mathlib.Core.List.{List, [], map}
use Rattle.std.proofs.Math.ListN.{length}
use Rattle.def_base.specs.Tests.{and_true, and_both}
use Rattle.def_layout.specs.declared.Row.{Row}
use Rattle.def_layout.specs.declared.Desk.{Desk}
use Rattle.def_layout.specs.Desks.{eight_rows}
use Rattle.def_layout.specs.PageBytes.{read_block}
use Rattle.def_layout.specs.Pages.{Page}
use Rattle.def_layout.specs.Sizes.{page_size, slot_size}
use Rattle.def_layout.specs.Records.{Rec}
use Rattle.def_model.specs.declared.Refusal.{Refusal}
use Rattle.def_model.specs.declared.Refusal.TheVariants.{Layout, Log}
use Rattle.def_model.specs.Areas.{Side, Areas, blocks_ok}
use Rattle.def_model.specs.Areas as areas
use Rattle.def_model.specs.Answers.{first_broken}
use Rattle.def_model.specs.Log.{records_of, slots_ok}
use Rattle.def_model.specs.Batches.{open_batches, chain_ok, row_of, desk_of}
use Rattle.def_model.specs.Sound.{layouts_ok, log_ok, numbers_ok}
use Rattle.def_model.specs.Restart.{restart_checks}
use Rattle.def_model.specs.OnBytes.{read_pages, read_log}
use Rattle.law_bytes.specs.Words.{Bytes}
use Rattle.law_bytes.specs.Pieces.{read_all_length}
use Rattle.law_bytes.specs.PageAreas.{judged, blocks_by, stable_blocks, pages_of}
use Rattle.law_bytes.specs.LogAreas.{slots_of}
use Rattle.log_pending.specs.Reading.{Reads, reads_few}
use Rattle.log_pending.specs.Holding.{Holds}
use Rattle.law_bytes.specs.Eights.{eight}
use Rattle.law_bytes.specs.DeskRows.{LowRows}
use Rattle.log_chain.specs.Shown.{marks_of}
use Rattle.log_judge.specs.declared.Said.{Said}
use Rattle.log_judge.specs.Judging.{log_right, Says}
use Rattle.log_judge.specs.Accepted.{Accepted, accepted, accepted_low}
use Rattle.law_areas.specs.Logs.{HoldsLog, AllFit}
use Rattle.record_pages.specs.Pages.{Pages, bare_pages}
use Rattle.sound_parts.specs.Laid.{Laid, laid_pages}
use Rattle.sound_register.specs.Logs.{log_shown, area_fits, area_holds_log}
use Rattle.sound_register.specs.Parts.{pages_read}
use Rattle.sound_register.specs.Standing.{log_in}
use Rattle.call_restart.specs.Checks.{layout_first, log_first}

-- The pages that stable areas show.
abbrev pub stable_in : List ℕ → List Page
stable_in sp = areas.pages_of (read_pages sp)

abbrev pub image : List ℕ → List ℕ → Side
image sp sl = record { pages = read_pages sp; lefts = []; log = read_log sl }

-- Under any working areas.
abbrev pub over : Side → List ℕ → List ℕ → Areas
over w sp sl = record { work = w; stable = image sp sl }

abbrev pub Refuses : List ℕ → List ℕ → Refusal → Type 0
Refuses sp sl r = (w : Side) → first_broken (restart_checks (over w sp sl)) ≡ some r

-- KNOWN of an image of n pages and m slots, with the rows, the count of records and the abort marks that its log says.
pub record Image (n m : ℕ) (sp sl : List ℕ) (rs : List Row) (count : ℕ) (ms : List Bool) : Type 0 where
  pub layouts : layouts_ok (image sp sl) ≡ true
  pub log : log_ok (image sp sl) ≡ true
  pub pages : Pages n sp (stable_in sp) []
  pub records : HoldsLog sl (log_in sl)
  pub size : length sl ≡ slot_size * m
  pub fits : AllFit 1 (log_in sl)
  pub reads : Reads m sl (log_in sl)
  pub holds : Holds (log_in sl) (open_batches (log_in sl))
  pub rows : rs ≡ eight_rows (map row_of (open_batches (log_in sl)))
  pub low : LowRows rs
  pub logged : count ≡ length (log_in sl)
  pub within : count ≤ m
  pub marked : ms ≡ eight false (marks_of (open_batches (log_in sl)))

-- What 3 and 4 come to: what the log says, of an image that is known by it, or a refusal.
abbrev pub Judges : (n m : ℕ) (sp sl : List ℕ) (r : Result Said Refusal) → Type 0
Judges n m sp sl r = MatchResult r (λ said. Image n m sp sl said.batches.rows said.logged said.batches.marked) (Refuses sp sl)

module _ (n m : ℕ) (sp sl : List ℕ) (of_pages : length sp ≡ page_size * n) (of_log : length sl ≡ slot_size * m) where
  -- ---- the tests in the definitions' words

  layouts_are : layouts_ok (image sp sl) ≡ blocks_ok n 0 (blocks_by false n sp)
  unfolding layouts_ok judged
  layouts_are = rw (pages_read n sp of_pages, read_all_length page_size read_block n sp)

  log_is : log_ok (image sp sl)
      ≡ slots_ok n 1 (slots_of m sl) && (chain_ok 1 (records_of (slots_of m sl)) [] && numbers_ok (length (records_of (slots_of m sl))) (areas.pages_of (blocks_by false n sp)))
  unfolding log_ok judged
  log_is = rw (pages_read n sp of_pages, log_shown m sl of_log, read_all_length page_size read_block n sp)

  laid_stable : blocks_ok n 0 (blocks_by false n sp) ≡ true → Laid n sp
  laid_stable laid = laid_pages n sp (ap (blocks_ok n 0) (sym (stable_blocks n sp)) ∙ laid) of_pages

  -- ---- refused

  pub pages_broken : {t : Bool} → t ≡ blocks_ok n 0 (blocks_by false n sp) → t ≡ false → Refuses sp sl Layout
  pages_broken et e w = layout_first (over w sp sl) (layouts_are ∙ sym et ∙ e)

  module _ (laid : blocks_ok n 0 (blocks_by false n sp) ≡ true) where
    pub log_broken : log_right n (slots_of m sl) ≡ false → Refuses sp sl Log
    log_broken e w =
        log_first (over w sp sl) (layouts_are ∙ laid)
        (log_is ∙ both (slots_ok n 1 (slots_of m sl)) (chain_ok 1 (records_of (slots_of m sl)) []) _ e)
      where
        both : (a b c : Bool) → a && b ≡ false → a && (b && c) ≡ false
        both true b c e = rw e
        both false b c e = refl

    pub numbers_high : {t : Bool} (j : Said) → Says (slots_of m sl) j → t ≡ numbers_ok j.logged (pages_of n sp) → t ≡ false → Refuses sp sl Log
    unfolding desk_of judged
    numbers_high {t} j says et e w =
        let k : j.logged ≡ length (records_of (slots_of m sl)) = ap (λ (x : Desk). x.logged) (says.desk 0) in
        let u : numbers_ok (length (records_of (slots_of m sl))) (areas.pages_of (blocks_by false n sp)) ≡ false =
        ap₂ numbers_ok (sym k) (laid_stable laid).shown ∙ sym et ∙ e in
        log_first (over w sp sl) (layouts_are ∙ laid)
        (log_is ∙ third (slots_ok n 1 (slots_of m sl)) (chain_ok 1 (records_of (slots_of m sl)) []) _ u)
      where
        third : (a b c : Bool) → c ≡ false → a && (b && c) ≡ false
        third true true c e = e
        third true false c e = refl
        third false b c e = refl

  -- ---- known

  module _ (laid : blocks_ok n 0 (blocks_by false n sp) ≡ true) (j : Said) (right : log_right n (slots_of m sl) ≡ true) (says : Says (slots_of m sl) j) where
    area : Laid n sp
    area = laid_stable laid

    both : (slots_ok n 1 (slots_of m sl) ≡ true) × (chain_ok 1 (records_of (slots_of m sl)) [] ≡ true)
    both = and_true (slots_ok n 1 (slots_of m sl)) (chain_ok 1 (records_of (slots_of m sl)) []) right

    taken : Accepted m sl (records_of (slots_of m sl))
    taken = accepted n m sl both.0 both.1

    pages_are : pages_of n sp ≡ stable_in sp
    unfolding judged
    pages_are = sym (ap areas.pages_of (pages_read n sp of_pages) ∙ area.shown)

    records_are : records_of (slots_of m sl) ≡ log_in sl
    records_are = ap records_of (sym (log_shown m sl of_log))

    log_size : j.logged ≡ length (records_of (slots_of m sl))
    unfolding desk_of
    log_size = ap (λ (x : Desk). x.logged) (says.desk 0)

    rows_are : j.batches.rows ≡ eight_rows (map row_of (open_batches (records_of (slots_of m sl))))
    unfolding desk_of
    rows_are = ap (λ (x : Desk). x.rows) (says.desk 0)

    -- Of the records as the judge has them.
    record Records (l : List Rec) : Type 0 where
      records : HoldsLog sl l
      fits : AllFit 1 l
      reads : Reads m sl l
      holds : Holds l (open_batches l)
      rows : j.batches.rows ≡ eight_rows (map row_of (open_batches l))
      logged : j.logged ≡ length l
      marked : j.batches.marked ≡ eight false (marks_of (open_batches l))

    said : Bytes sl → Records (records_of (slots_of m sl))
    said w =
        record {
          records = area_holds_log n m sl both.0 of_log;
          fits = area_fits n m sl both.0 w;
          reads = taken.reads;
          holds = taken.holds;
          rows = rows_are;
          logged = log_size;
          marked = says.marked;
        }

    pub image_known : {t : Bool} → Bytes sl → m ≤ 16384 → t ≡ numbers_ok j.logged (pages_of n sp) → t ≡ true → Image n m sp sl j.batches.rows j.logged j.batches.marked
    unfolding judged
    image_known w few et e =
        let k = subst Records records_are (said w) in
        let in_pages : Pages n sp (pages_of n sp) [] = bare_pages (pages_of n sp) area.bytes area.fits area.size in
        record {
          layouts = layouts_are ∙ laid;
          log =
              log_is
              ∙ and_both both.0 (and_both both.1 (ap₂ numbers_ok (sym log_size) area.shown ∙ sym et ∙ e));
          pages = subst (λ (xs : List Page). Pages n sp xs []) pages_are in_pages;
          records = k.records;
          size = of_log;
          fits = k.fits;
          reads = k.reads;
          holds = k.holds;
          rows = k.rows;
          low = subst LowRows (sym rows_are) (accepted_low m sl (records_of (slots_of m sl)) few taken);
          logged = k.logged;
          within = omega (arith, log_size, reads_few m sl (records_of (slots_of m sl)) taken.reads);
          marked = k.marked;
        }
