-- What a formatting and a loading answer and leave: each refusal, in its order, and the register.
use Rattle.std.specs.Prelude.{ℕ, suc, ◌/◌, ◌<◌, ◌≡◌, ◌≢◌, true, false, List, Ok, Err, length, eqb, leb}
use Rattle.std.specs.Prelude as std
use Rattle.std.proofs.Math.Path.{refl, ap, sym}
use Rattle.std.proofs.Common.{◌∙◌, arith}
use Rattle.std.proofs.Math.Option.{Option, none, some}
use Rattle.def_base.specs.Tests.{any, eq_true, neq_false}
use Rattle.def_layout.specs.declared.Entry.{Entry}
use Rattle.def_layout.specs.declared.Desk.{Desk}
use Rattle.def_layout.specs.Desks.{empty_desk}
use Rattle.def_layout.specs.Sizes.{page_size, slot_size}
use Rattle.def_model.specs.declared.Refusal.{Refusal}
use Rattle.def_model.specs.declared.Refusal.TheVariants.{ColumnsDiffer, ZeroKey, NotRising, PagesShort}
use Rattle.def_model.specs.declared.Answer.TheVariants.{Done, Refused}
use Rattle.def_model.specs.Answers.{first_broken}
use Rattle.def_model.specs.Areas.{Areas}
use Rattle.def_model.specs.Loading.{columns, keys_rise, loaded_count}
use Rattle.def_model.specs.Calls.{load_checks}
use Rattle.def_model.specs.OnBytes.{Call, Lent, Result, checks, start_checks, refused_desk, refused_work, refused, lengths_ok, read_areas, call}
use Rattle.def_model.specs.CallNames.{load}
use Rattle.law_areas.specs.Outcomes.{broken_refused}
use Rattle.law_areas.specs.Working.{read_work_length}
use Rattle.theory_load.specs.Checked.{load_kept}
use Rattle.area_load.specs.Columns.{Columns}
use Rattle.area_lengths.specs.Lent.{lent, lengths_numbers}
use Rattle.area_format.specs.Call.{Linked, started_result, load_result, started_left}
use Rattle.call_reply.specs.declared.Reply.{Reply}
use Rattle.call_reply.specs.Replies.{Replies, left_with}

-- A call that starts a register with some records.
pub started_0 : (c : Call) (es : List Entry) (l after : Lent) (d : Desk) (budget : ℕ) (r : Reply) → call c l d ≡ started_result es (length l.work_pages / page_size) (length l.work_log / slot_size)
    → Linked es budget l after → r.answer ≡ Done → r.desk ≡ empty_desk → Replies c l d budget r after
started_0 c es l after d budget r e f a k =
    record {
      answer = a ∙ ap (λ (x : Result). x.answer) (sym e);
      desk = k ∙ ap (λ (x : Result). x.desk) (sym e);
      areas = started_left c es budget l after d e f;
    }

-- ---- the columns judged

-- The first broken check of a loading into so many pages.
abbrev pub FirstBroken : (keys values : List ℕ) (pages : ℕ) → Option Refusal → Type 0
FirstBroken ks vs pages o = (a : Areas) → length a.work.pages ≡ pages → first_broken (load_checks ks vs a) ≡ o

-- The refusal that a judgement is, if it is one.
abbrev pub refusal_in : {A : Type 0} → std.Result A Refusal → Option Refusal
refusal_in (Ok x) = none
refusal_in (Err why) = some why

-- The judgement of such a loading.
abbrev pub Judges : {A : Type 0} → (keys values : List ℕ) (pages : ℕ) → std.Result A Refusal → Type 0
Judges ks vs pages r = FirstBroken ks vs pages (refusal_in r)

module _ (ks vs : List ℕ) (pages : ℕ) where
  pub judge_8 : length ks ≢ length vs → FirstBroken ks vs pages (some ColumnsDiffer)
  unfolding load_checks first_broken
  judge_8 e a n = rw (neq_false e) refl

  module _ (same : length ks ≡ length vs) where
    s : eqb (length ks) (length vs) ≡ true
    s = eq_true (length ks) (length vs) same

    pub judge_7 : true ≡ any (λ k. eqb k 0) ks → FirstBroken ks vs pages (some ZeroKey)
    unfolding load_checks first_broken
    judge_7 e a n = rw (s, sym e) refl

    module _ (no_zero : false ≡ any (λ k. eqb k 0) ks) where
      pub judge_9 : false ≡ keys_rise 0 ks → FirstBroken ks vs pages (some NotRising)
      unfolding load_checks first_broken
      judge_9 e a n = rw (s, sym no_zero, sym e) refl

      module _ (rise : true ≡ keys_rise 0 ks) where
        pub judge_18 : false ≡ leb (suc (loaded_count (length ks))) pages → FirstBroken ks vs pages (some PagesShort)
        unfolding load_checks first_broken
        judge_18 e a n = rw (s, sym no_zero, sym rise, n, sym e) refl

        pub judge_0 : true ≡ leb (suc (loaded_count (length ks))) pages → FirstBroken ks vs pages none
        unfolding load_checks first_broken
        judge_0 e a n = rw (s, sym no_zero, sym rise, n, sym e) refl

-- ---- the call

module _ (ks vs wp sp wl sl : List ℕ) (lens : lengths_ok (lent wp sp wl sl) ≡ true) where
  abbrev l : Lent
  l = lent wp sp wl sl

  count : length (read_areas l).work.pages ≡ length wp / 128
  unfolding read_areas
  count = read_work_length (length wp / 128) wp (lengths_numbers wp sp wl sl lens).0

  pub load_refused : (why : Refusal) → FirstBroken ks vs (length wp / 128) (some why) → (d : Desk) (budget : ℕ) (r : Reply) → r.answer ≡ Refused why → r.desk ≡ empty_desk
      → Replies (load ks vs) l d budget r l
  unfolding checks start_checks refused refused_work refused_desk
  load_refused why judges d budget r = left_with (load ks vs) wp sp wl sl d lens empty_desk (Refused why) budget r (broken_refused (load ks vs) (read_areas l) d why (judges (read_areas l) count))

  module _ (passes : FirstBroken ks vs (length wp / 128) none) where
    passed : first_broken (load_checks ks vs (read_areas l)) ≡ none
    passed = passes (read_areas l) count

    -- What the loader asks of the columns.
    pub load_asks : Columns ks vs × (loaded_count (length ks) < length wp / 128) × (keys_rise 0 ks ≡ true)
    load_asks =
        let k = load_kept ks vs (read_areas l) passed in
        let most = (lengths_numbers wp sp wl sl lens).2 in
        let enough = k.enough in
        let n = count in
        (record { same = k.same; few = omega arith }, omega arith, k.rise)

    pub load_0 : (d : Desk) (budget : ℕ) (r : Reply) (after : Lent) → Linked (columns ks vs) budget l after → r.answer ≡ Done → r.desk ≡ empty_desk → Replies (load ks vs) l d budget r after
    load_0 d budget r after f = started_0 (load ks vs) (columns ks vs) l after d budget r (load_result l d lens ks vs passed) f
