-- Fetch, next and previous, reply by reply.
use Rattle.std.specs.Prelude.{◌≡◌, ℕ, ◌<◌, ◌≤◌, true, false, List, MatchOption}
use Rattle.std.specs.Prelude as program
use Rattle.std.proofs.Math.Path.{ap, sym}
use Rattle.std.proofs.Common.{◌∙◌, subst}
use Rattle.std.proofs.Math.Option.{Option, none, some}
use Rattle.def_layout.specs.declared.Entry.{Entry}
use Rattle.def_layout.specs.declared.Desk.{Desk}
use Rattle.def_layout.specs.Entries.{entry, top}
use Rattle.def_model.specs.declared.Refusal.TheVariants.{NoBatch, Held, Absent}
use Rattle.def_model.specs.declared.Answer.TheVariants.{Number, Pair, Refused}
use Rattle.def_model.specs.Answers.{first_broken}
use Rattle.def_model.specs.Fit.{found}
use Rattle.def_model.specs.Lookup.{fetched, next_above, previous_below}
use Rattle.def_model.specs.Batches.{find_batch}
use Rattle.def_model.specs.Pending.{held, held_between, held_from}
use Rattle.def_model.specs.Sound.{work_pages, work_log, work_open}
use Rattle.def_model.specs.Calls.{is_none, next_limit, before, previous_limit, fetch_checks, next_checks, previous_checks}
use Rattle.def_model.specs.OnBytes.{fetch, next, previous, ask, request, question_checks, request_checks, read_areas}
use Rattle.law_bytes.specs.PageAreas as shown
use Rattle.law_areas.specs.Pages.{AllPagesFit}
use Rattle.sound_register.specs.Parts.{lefts_read}
use Rattle.record_pages.specs.Pages.{pages_shown}
use Rattle.sound_pending.specs.Rows as pending
use Rattle.area_lengths.specs.Lent.{lent}
use Rattle.call_reply.specs.declared.Reply.{Reply}
use Rattle.call_reply.specs.Replies.{Replies}
use Rattle.tree_lookup.specs.Answers.{option_of}
use Rattle.sound_register.specs.declared.Standing.{Standing}
use Rattle.sound_register.specs.Standing.{known_rows}
use Rattle.call_slides.specs.Checked.{fetch_goes, next_goes, previous_goes}
use Rattle.call_slides.specs.Given.{Given, areas, given_length, answer, refuse, Answers, open_place, open_none, open_some}

-- The reply that tells the entry that was found, or that there is none.
abbrev pub Tells : program.Option Entry → Reply → Type 0
Tells o y = MatchOption o (y.answer ≡ Refused Absent) (λ e. y.answer ≡ Pair e.key e.val)

next_bound : (o : program.Option Entry) (limit : ℕ) → MatchOption o (limit ≡ top) (λ e. limit ≡ e.key) → limit ≡ next_limit (option_of o)
unfolding next_limit
next_bound program.None limit l = l
next_bound (program.Some e) limit l = l

previous_bound : (o : program.Option Entry) (limit : ℕ) → MatchOption o (limit ≡ 0) (λ e. limit ≡ e.key) → limit ≡ previous_limit (option_of o)
unfolding previous_limit
previous_bound program.None limit l = l
previous_bound (program.Some e) limit l = l

module _ {n m : ℕ} {wp sp wl sl : List ℕ} {d : Desk} {st : Standing} (g : Given n m wp sp wl sl d st) where
  -- What the bytes show is what the definitions read.
  pub pages_read : shown.pages_of n wp ≡ work_pages (areas g)
  unfolding read_areas
  pages_read = pages_shown g.known.pages

  pub fetched_read : (k : ℕ) (o : Option ℕ) → o ≡ fetched k (shown.pages_of n wp) → fetched k (work_pages (areas g)) ≡ o
  fetched_read k o e = sym (e ∙ ap (fetched k) pages_read)

  pub next_read : (k : ℕ) (o : Option Entry) → o ≡ next_above k (shown.pages_of n wp) → next_above k (work_pages (areas g)) ≡ o
  next_read k o e = sym (e ∙ ap (next_above k) pages_read)

  pub previous_read : (k : ℕ) (o : Option Entry) → (AllPagesFit (shown.pages_of n wp) → o ≡ previous_below k (shown.pages_of n wp) (shown.lefts_of n wp)) → before k (areas g) ≡ o
  unfolding read_areas
  previous_read k o e =
      let p = g.known.pages in
      sym (e (subst AllPagesFit (sym (pages_shown p)) p.fits) ∙ ap (λ xs. previous_below k xs (shown.lefts_of n wp)) pages_read ∙ ap (previous_below k (work_pages (areas g))) (sym (lefts_read n wp (given_length g))))

  -- The log and the desk's rows, as held keys are looked for.
  pub held_known : pending.Known m wl d.rows (work_log (areas g)) (work_open (areas g))
  unfolding read_areas
  held_known = known_rows g.known

  module _ (b k i : ℕ) (e : i ≡ open_place b d.rows) where
    pub fetch_12 : 8 ≤ i → Answers g (ask (fetch b k)) (Refused NoBatch)
    unfolding request_checks question_checks fetch_checks first_broken
    fetch_12 h = refuse g (ask (fetch b k)) NoBatch (rw (g.is_sound, open_none g b i e h))

    pub next_12 : 8 ≤ i → Answers g (ask (next b k)) (Refused NoBatch)
    unfolding request_checks question_checks next_checks first_broken
    next_12 h = refuse g (ask (next b k)) NoBatch (rw (g.is_sound, open_none g b i e h))

    pub previous_12 : 8 ≤ i → Answers g (ask (previous b k)) (Refused NoBatch)
    unfolding request_checks question_checks previous_checks first_broken
    previous_12 h = refuse g (ask (previous b k)) NoBatch (rw (g.is_sound, open_none g b i e h))

    module _ (h : i < 8) where
      there : is_none (find_batch b (work_open (areas g))) ≡ false
      there = open_some g b i e h

      pub fetch_14 : held b k (work_open (areas g)) ≡ true → Answers g (ask (fetch b k)) (Refused Held)
      unfolding request_checks question_checks fetch_checks first_broken
      fetch_14 q = refuse g (ask (fetch b k)) Held (rw (g.is_sound, there, q))

      module _ (q : held b k (work_open (areas g)) ≡ false) where
        pub fetch_16 : fetched k (work_pages (areas g)) ≡ none → Answers g (ask (fetch b k)) (Refused Absent)
        unfolding request_checks question_checks fetch_checks first_broken found
        fetch_16 f = refuse g (ask (fetch b k)) Absent (rw (g.is_sound, there, q, f))

        pub fetch_0 : (v : ℕ) → fetched k (work_pages (areas g)) ≡ some v → Answers g (ask (fetch b k)) (Number v)
        fetch_0 v f = answer g (ask (fetch b k)) (Number v) (fetch_goes (areas g) d g.is_sound b k there v q f)

      pub next_14 : (o : Option Entry) → next_above k (work_pages (areas g)) ≡ o → held_between b k (next_limit o) (work_open (areas g)) ≡ true → Answers g (ask (next b k)) (Refused Held)
      unfolding request_checks question_checks next_checks first_broken
      next_14 o f q = refuse g (ask (next b k)) Held (rw (g.is_sound, there, f, q))

      pub next_16 : next_above k (work_pages (areas g)) ≡ none → held_between b k top (work_open (areas g)) ≡ false → Answers g (ask (next b k)) (Refused Absent)
      unfolding request_checks question_checks next_checks first_broken next_limit is_none
      next_16 f q = refuse g (ask (next b k)) Absent (rw (g.is_sound, there, f, q))

      pub next_0 : (key v : ℕ) → next_above k (work_pages (areas g)) ≡ some (entry key v) → held_between b k key (work_open (areas g)) ≡ false → Answers g (ask (next b k)) (Pair key v)
      unfolding next_limit
      next_0 key v f q = answer g (ask (next b k)) (Pair key v) (next_goes (areas g) d g.is_sound b k there (entry key v) f q)

      -- The limit of what must not be held is the key that was found, or the top.
      pub next_held : (o : program.Option Entry) (limit : ℕ) → next_above k (work_pages (areas g)) ≡ option_of o → MatchOption o (limit ≡ top) (λ e. limit ≡ e.key)
          → held_between b k limit (work_open (areas g)) ≡ true → Answers g (ask (next b k)) (Refused Held)
      next_held o limit f l q =
          next_14 (option_of o) f (subst (λ (j : ℕ). held_between b k j (work_open (areas g)) ≡ true) (next_bound o limit l) q)

      pub next_told : (o : program.Option Entry) (limit : ℕ) → next_above k (work_pages (areas g)) ≡ option_of o → MatchOption o (limit ≡ top) (λ e. limit ≡ e.key)
          → held_between b k limit (work_open (areas g)) ≡ false → (budget : ℕ) (y : Reply) → Tells o y → y.desk ≡ d
          → Replies (request (ask (next b k))) (lent wp sp wl sl) d budget y (lent wp sp wl sl)
      next_told program.None limit f l q budget y a e = next_16 f (subst (λ (j : ℕ). held_between b k j (work_open (areas g)) ≡ false) l q) budget y (a, e)
      next_told (program.Some x) limit f l q budget y a e =
          next_0 x.key x.val f (subst (λ (j : ℕ). held_between b k j (work_open (areas g)) ≡ false) l q) budget y (a, e)

      pub previous_14 : (o : Option Entry) → before k (areas g) ≡ o → held_from b (previous_limit o) k (work_open (areas g)) ≡ true → Answers g (ask (previous b k)) (Refused Held)
      unfolding request_checks question_checks previous_checks first_broken
      previous_14 o f q = refuse g (ask (previous b k)) Held (rw (g.is_sound, there, f, q))

      pub previous_16 : before k (areas g) ≡ none → held_from b 0 k (work_open (areas g)) ≡ false → Answers g (ask (previous b k)) (Refused Absent)
      unfolding request_checks question_checks previous_checks first_broken previous_limit is_none
      previous_16 f q = refuse g (ask (previous b k)) Absent (rw (g.is_sound, there, f, q))

      pub previous_0 : (key v : ℕ) → before k (areas g) ≡ some (entry key v) → held_from b key k (work_open (areas g)) ≡ false → Answers g (ask (previous b k)) (Pair key v)
      unfolding previous_limit
      previous_0 key v f q = answer g (ask (previous b k)) (Pair key v) (previous_goes (areas g) d g.is_sound b k there (entry key v) f q)

      -- So of previous, where it is the key that was found, or 0.
      pub previous_held : (o : program.Option Entry) (limit : ℕ) → before k (areas g) ≡ option_of o → MatchOption o (limit ≡ 0) (λ e. limit ≡ e.key)
          → held_from b limit k (work_open (areas g)) ≡ true → Answers g (ask (previous b k)) (Refused Held)
      previous_held o limit f l q =
          previous_14 (option_of o) f (subst (λ (j : ℕ). held_from b j k (work_open (areas g)) ≡ true) (previous_bound o limit l) q)

      pub previous_told : (o : program.Option Entry) (limit : ℕ) → before k (areas g) ≡ option_of o → MatchOption o (limit ≡ 0) (λ e. limit ≡ e.key)
          → held_from b limit k (work_open (areas g)) ≡ false → (budget : ℕ) (y : Reply) → Tells o y → y.desk ≡ d
          → Replies (request (ask (previous b k))) (lent wp sp wl sl) d budget y (lent wp sp wl sl)
      previous_told program.None limit f l q budget y a e = previous_16 f (subst (λ (j : ℕ). held_from b j k (work_open (areas g)) ≡ false) l q) budget y (a, e)
      previous_told (program.Some x) limit f l q budget y a e =
          previous_0 x.key x.val f (subst (λ (j : ℕ). held_from b j k (work_open (areas g)) ≡ false) l q) budget y (a, e)
