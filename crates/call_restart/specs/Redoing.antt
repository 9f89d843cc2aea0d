-- THE IMAGE REDONE: how 5 and 6 refuse it, and what is known of the pages where they do not.
use Rattle.std.specs.Prelude.{ℕ, ◌≡◌, refl, Bool, true, false, ◌&&◌, List, [], length, Option, Some, None, Result, Err, MatchResult}
use Rattle.std.specs.Option.{ok_or}
use Rattle.std.proofs.Common.{sym, ap, ◌∙◌, subst}
use Rattle.def_layout.specs.declared.Row.{Row}
use Rattle.def_layout.specs.Pages.{Page}
use Rattle.def_layout.specs.Records.{Rec}
use Rattle.def_model.specs.declared.Refusal.{Refusal}
use Rattle.def_model.specs.declared.Refusal.TheVariants.{Redo, Rules}
use Rattle.def_model.specs.Batches.{open_batches}
use Rattle.def_model.specs.Pending.{pending_ok}
use Rattle.def_model.specs.TreeRules.{tree_ok}
use Rattle.def_model.specs.Redo.{replay, redo_count, redo_fits}
use Rattle.def_model.specs.Restart.{redone_pages}
use Rattle.law_bytes.specs.PageAreas.{pages_of}
use Rattle.sound_pending.specs.Rule.{RuleIs}
use Rattle.record_pages.specs.Pages.{Pages, pages_shown}
use Rattle.record_redo.specs.Logs.{Logged}
use Rattle.record_redo.specs.Outcomes.{Answers, Counted, whole}
use Rattle.sound_register.specs.Standing.{log_in}
use Rattle.call_restart.specs.Checks.{redo_first, rules_first}
use Rattle.call_restart.specs.Image.{Refuses, stable_in, over, Image}

-- The pages of an image after its log is redone.
abbrev pub redone_in : List ℕ → List ℕ → List Page
redone_in sp sl = replay 1 (log_in sl) (stable_in sp)

pub record Ready (n : ℕ) (sp sl after : List ℕ) (applied : ℕ) : Type 0 where
  pub fits : redo_fits 1 (log_in sl) (stable_in sp) ≡ true
  pub tree : tree_ok (redone_in sp sl) ≡ true
  pub pending : pending_ok (redone_in sp sl) (open_batches (log_in sl)) ≡ true
  pub pages : Pages n after (redone_in sp sl) []
  pub count : applied ≡ redo_count 1 (log_in sl) (stable_in sp)

-- What 5 and 6 come to, of an image that is known: how many page changes were redone, or a refusal.
abbrev pub Redoes : (n : ℕ) (sp sl after : List ℕ) (r : Result ℕ Refusal) → Type 0
Redoes n sp sl after r = MatchResult r (Ready n sp sl after) (Refuses sp sl)

-- What the redo of a log says, of whatever pages and records the areas show.
abbrev pub RedoSays : (n m : ℕ) (sp sl after : List ℕ) (logged : ℕ) (o : Option ℕ) → Type 0
RedoSays n m sp sl after logged o = (xs : List Page) (l : List Rec) → Pages n sp xs [] → Logged m sl l → length l ≡ logged → Answers n after o (whole 1 l xs)

module _ {n m : ℕ} {sp sl : List ℕ} {rs : List Row} {logged : ℕ} {ms : List Bool} (k : Image n m sp sl rs logged ms) where
  redo_known : (after : List ℕ) (o : Option ℕ) → RedoSays n m sp sl after logged o → Answers n after o (whole 1 (log_in sl) (stable_in sp))
  redo_known after o says = says (stable_in sp) (log_in sl) k.pages (record { slots = k.reads; fits = k.fits }) (sym k.logged)

  pub redo_broken : (after : List ℕ) (o : Option ℕ) → RedoSays n m sp sl after logged o → o ≡ None → Refuses sp sl Redo
  redo_broken after o says e w =
      redo_first (over w sp sl) k.layouts k.log (subst (λ (v : Option ℕ). Answers n after v (whole 1 (log_in sl) (stable_in sp))) e (redo_known after o says))

  pub redo_whole : (after : List ℕ) (o : Option ℕ) (count : ℕ) → RedoSays n m sp sl after logged o → o ≡ Some count → Counted n after count (whole 1 (log_in sl) (stable_in sp))
  redo_whole after o count says e = subst (λ (v : Option ℕ). Answers n after v (whole 1 (log_in sl) (stable_in sp))) e (redo_known after o says)

  module _ {after : List ℕ} {count : ℕ} (c : Counted n after count (whole 1 (log_in sl) (stable_in sp))) where
    rules_broken : tree_ok (redone_in sp sl) && pending_ok (redone_in sp sl) (open_batches (log_in sl)) ≡ false → Refuses sp sl Rules
    unfolding redone_pages
    rules_broken e w = rules_first (over w sp sl) k.layouts k.log c.fits e

    tree_is : {t : Bool} → t ≡ tree_ok (pages_of n after) → tree_ok (redone_in sp sl) ≡ t
    tree_is et = sym (et ∙ ap tree_ok (pages_shown c.pages))

    rule_is : {t : Bool} → RuleIs (pages_of n after) m sl rs t → pending_ok (redone_in sp sl) (open_batches (log_in sl)) ≡ t
    rule_is et =
        sym (et (log_in sl) (open_batches (log_in sl)) (record { reads = k.reads; holds = k.holds; rows = k.rows })
        ∙ ap (λ (xs : List Page). pending_ok xs (open_batches (log_in sl))) (pages_shown c.pages))

    pub tree_broken : {t : Bool} → t ≡ tree_ok (pages_of n after) → t ≡ false → Refuses sp sl Rules
    tree_broken et e = rules_broken (ap (λ (b : Bool). b && pending_ok (redone_in sp sl) (open_batches (log_in sl))) (tree_is et ∙ e))

    pub rule_broken : {t : Bool} → RuleIs (pages_of n after) m sl rs t → t ≡ false → Refuses sp sl Rules
    rule_broken et e = rules_broken (right_off (tree_ok (redone_in sp sl)) (rule_is et ∙ e))
      where
        right_off : (a : Bool) {b : Bool} → b ≡ false → a && b ≡ false
        right_off true e = e
        right_off false e = refl

    pub all_redone : {t u : Bool} → t ≡ tree_ok (pages_of n after) → t ≡ true → RuleIs (pages_of n after) m sl rs u → u ≡ true → Ready n sp sl after count
    all_redone et t! eu u! = record { fits = c.fits; tree = tree_is et ∙ t!; pending = rule_is eu ∙ u!; pages = c.pages; count = c.counts }

-- ---- copied and redone

pub copy_redone : {n m : ℕ} {sp sl wp : List ℕ} {rs : List Row} {logged : ℕ} {ms : List Bool} (after : List ℕ) (r : Result ℕ Refusal) → wp ≡ sp → Image n m sp sl rs logged ms
    → (Image n m wp sl rs logged ms → Redoes n wp sl after r) → Redoes n sp sl after r
copy_redone {n} {m} {sp} {sl} {wp} {rs} {logged} {ms} after r e k f =
    subst (λ (b : List ℕ). Redoes n b sl after r) e (f (subst (λ (b : List ℕ). Image n m b sl rs logged ms) (sym e) k))

-- Why `ok_or` refuses.
pub why_refused : {T : Type 0} (o : Option T) (why r : Refusal) → Err r ≡ ok_or o why → o ≡ None → r ≡ why
why_refused None why r e h = cc
why_refused (Some x) why r e h = cc
