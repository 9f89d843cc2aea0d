-- RECOVERED: the reply of each way out of a restart, on areas whose lengths are right.
use Rattle.std.specs.Prelude.{ℕ, ◌≡◌, Bool, true, List, length, replicate, None}
use Rattle.std.proofs.Common.{ap, ◌∙◌}
use Rattle.def_layout.specs.declared.Row.{Row}
use Rattle.def_layout.specs.declared.Desk.{Desk}
use Rattle.def_layout.specs.Desks.{empty_desk, no_row}
use Rattle.def_layout.specs.Numbers.{zeros}
use Rattle.def_model.specs.declared.Refusal.{Refusal}
use Rattle.def_model.specs.declared.Answer.TheVariants.{Pair, Refused}
use Rattle.def_model.specs.OnBytes.{restart, lengths_ok, read_areas}
use Rattle.law_bytes.specs.DeskRows.{place_of}
use Rattle.law_areas.specs.Logs.{read_log_length}
use Rattle.area_lengths.specs.Lent.{lent}
use Rattle.area_store.specs.Beside.{SlotsLeft}
use Rattle.tree_write.specs.declared.Run as run
use Rattle.call_reply.specs.declared.Reply.{Reply}
use Rattle.call_reply.specs.Replies.{Replies, Links}
use Rattle.log_chain.specs.Families.{rows_used}
use Rattle.sound_register.specs.Standing.{log_in}
use Rattle.call_restart.specs.Image.{Refuses, Image}
use Rattle.call_restart.specs.Redoing.{Ready}
use Rattle.call_restart.specs.Settled.{SettleSays, settled_shows, settled_longer, none_refuse}
use Rattle.call_restart.specs.Answering.{restart_refused, restart_done}

abbrev pub Recovers : (wp sp wl sl : List ℕ) (budget : ℕ) (r : Reply) (wp' wl' sl' : List ℕ) → Type 0
Recovers wp sp wl sl budget r wp' wl' sl' = (d : Desk) → lengths_ok (lent wp sp wl sl) ≡ true → Replies restart (lent wp sp wl sl) d budget r (lent wp' sp wl' sl')

-- REFUSED, and the working areas zeroed.
pub refused_so : {wp sp wl sl wp' wl' : List ℕ} {budget : ℕ} {r : Reply} (why : Refusal) (p q : ℕ) → Refuses sp sl why → wp' ≡ zeros p → wl' ≡ zeros q → p ≡ length wp → q ≡ length wl
    → r.answer ≡ Refused why → r.desk ≡ empty_desk → Recovers wp sp wl sl budget r wp' wl' sl
unfolding read_areas
refused_so {wp} {sp} {wl} {sl} {wp'} {wl'} {budget} {r} why p q h zp zl ep eq y k d lens =
    restart_refused wp sp wl sl d lens budget r why (h (read_areas (lent wp sp wl sl)).work) wp' wl' (zp ∙ ap zeros ep) (zl ∙ ap zeros eq) y k

-- DONE: settled without a stop, and stored.
module _ {n m : ℕ} {wp₀ sp wl₀ sl wp wl wp₁ wp' wl' : List ℕ} {rs : List Row} {before : ℕ} {ms : List Bool} {count : ℕ} (k : Image n m sp sl rs before ms) (y : Ready n sp sl wp count) (same : wl ≡ sl) (u : run.Run)
    {t : run.Run} (at : t ≡ record { logged = before; stop = None }) (says : SettleSays n m wp wl wp₁ wl' t rs ms u) (links : Links n wp₁ wp') where
  pub done_so : {sl' : List ℕ} {budget : ℕ} {r : Reply} (ended : ℕ) → u.stop ≡ None → ended ≡ place_of 0 rs
      → SlotsLeft before u.logged budget wl' sl sl' → r.answer ≡ Pair ended count
      → r.desk ≡ record { rows = replicate 8 no_row; logged = u.logged; stored = u.logged } → Recovers wp₀ sp wl₀ sl budget r wp' wl' sl'
  unfolding read_areas
  done_so {sl'} {budget} {r} ended f ee stored a b e lens =
      let w = (read_areas (lent wp₀ sp wl₀ sl)).work in
      restart_done wp₀ sp wl₀ sl e lens budget r u (none_refuse k y same u at says f w) (read_log_length m sl k.size) (settled_shows k y same u at says w) links ended count before sl'
      (ee ∙ rows_used rs (log_in sl) _ k.holds k.rows)
      y.count
      k.logged
      (settled_longer k y same u at says)
      stored a b
