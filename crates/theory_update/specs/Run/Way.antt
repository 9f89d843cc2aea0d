-- A run of lawful steps: what it kept, what it used, or why it stopped.
use Rattle.std.specs.Prelude.{ℕ, zero, suc, ◌+◌, ◌-◌, ◌≤◌, ◌<◌, ◌≡◌, refl, ◌⊎◌, Bool, true, false, ◌&&◌, List, [], ◌∷◌, ◌++◌, length, ltb, eqb}
use Rattle.std.proofs.Common.{sym, ◌∙◌, subst, inl, inr, arith}
use Rattle.def_base.specs.Tests.{pick, Case, yes!, no!, case, clash, true_eq, eq_true, true_lt, false_lt}
use Rattle.def_layout.specs.Pages.{Page, at, map_bits}
use Rattle.def_layout.specs.Records.{Rec}
use Rattle.def_model.specs.Change.{act, hits}
use Rattle.def_model.specs.Redo.{places, redo_record, redo_lefts}
use Rattle.def_model.specs.TreeRules.{Node, leaves, counted}
use Rattle.def_model.specs.Update.{Run, stopped, logged, emit_by, emit, fresh, taking_by, emit_taking}
use Rattle.theory_redo.specs.OnePage.{redo1}
use Rattle.theory_redo.specs.Area.{length_redo_record, get_record}
use Rattle.theory_tree.specs.Shape.Marks.{Gives, highest_gives, all_used}
use Rattle.theory_tree.specs.Shape.Rules.{Rules}
use Rattle.theory_tree.specs.Step.Steps.{Step}
use Rattle.theory_tree.specs.Step.Parts.{Lows}
use Rattle.theory_tree.specs.Step.Rules.{step_rules}
use Rattle.theory_update.specs.Run.Keeps.{Halt, halt_short}

-- A run with one record more, logged and applied.
abbrev pub written_by : Rec → Run → Run
written_by r s = record { pages = redo_record s.due r s.pages; lefts = redo_lefts s.due r (places r) s.pages s.lefts; log = s.log ++ r ∷ []; due = suc s.due; room = s.room - 1; stop = 0 }

-- ---- a run in order

pub record Live (s : Run) (ls : List (List Node)) : Type 0 where
  pub rules : Rules s.pages ls
  pub lows : Lows s.due s.pages
  pub goes : s.stop ≡ 0
  pub few : length s.pages ≤ map_bits

-- From run s, with the levels ls, by lawful steps.
pub data Way : Run → List (List Node) → Run → List (List Node) → Type 0 where
  stay : {s : Run} {ls : List (List Node)} → Way s ls s ls
  more : {s t : Run} {ls ls₁ ls₂ : List (List Node)} {r : Rec} → Way s ls t ls₁ → Step t.pages ls₁ r ls₂ → Way s ls (written_by r t) ls₂

pub way_append : {s t u : Run} {ls ls₁ ls₂ : List (List Node)} → Way s ls t ls₁ → Way t ls₁ u ls₂ → Way s ls u ls₂
way_append w stay = w
way_append w (more v k) = more (way_append w v) k

pub lows_more : (n : ℕ) (r : Rec) (pages : List Page) → Lows n pages → Lows (suc n) (redo_record n r pages)
unfolding redo1
lows_more n r pages lows p h =
    let l : p < length pages = rw length_redo_record at h in
    rw (get_record n r pages p l) (go (hits p r && ltb (at pages p).lsn n) (lows p l))
  where
    go : (b : Bool) → (at pages p).lsn < n → (pick b (act p n r (at pages p)) (at pages p)).lsn < suc n
    go true a = omega arith
    go false a = omega arith

pub live_more : (r : Rec) (s : Run) (ls ls' : List (List Node)) → Live s ls → Step s.pages ls r ls' → Live (written_by r s) ls'
live_more r s ls ls' v k =
    let e = length_redo_record s.due r s.pages in
    let f = v.few in
    record { rules = step_rules s.due s.pages v.few v.lows ls ls' r k v.rules; lows = lows_more s.due r s.pages v.lows; goes = refl; few = omega arith }

-- ---- parts of an update

-- What a part of an update did: from s and ls to t and ls', by at most a records and b more pages.
pub record Went (s : Run) (ls : List (List Node)) (a b : ℕ) (t : Run) (ls' : List (List Node)) : Type 0 where
  pub way : Way s ls t ls'
  pub live : Live t ls'
  pub same : leaves ls' ≡ leaves ls
  pub records : s.room ≤ t.room + a
  pub taken : counted ls' ≤ counted ls + b
  pub room : t.due + t.room ≡ s.due + s.room
  pub size : length t.pages ≡ length s.pages

-- It went so, and then P holds of the levels; or it halted, for want of room or pages.
pub data Result (s : Run) (ls : List (List Node)) (a b : ℕ) (t : Run) (P : List (List Node) → Type 0) : Type 0 where
  went : (ls' : List (List Node)) → Went s ls a b t ls' → P ls' → Result s ls a b t P
  halted : Halt t → (s.room < a) ⊎ (length s.pages < counted ls + b) → Result s ls a b t P

pub idle : (s : Run) (ls : List (List Node)) (P : List (List Node) → Type 0) → Live s ls → P ls → Result s ls 0 0 s P
idle s ls P v p = went ls (record { way = stay; live = v; same = refl; records = omega arith; taken = omega arith; room = refl; size = refl }) p

pub loosen : (s : Run) (ls : List (List Node)) (a b a' b' : ℕ) (t : Run) (P : List (List Node) → Type 0) → a ≤ a' → b ≤ b' → Result s ls a b t P
    → Result s ls a' b' t P
loosen s ls a b a' b' t P l m (went ls' w p) =
    let x = w.records in let y = w.taken in
    went ls' (record { way = w.way; live = w.live; same = w.same; records = omega arith; taken = omega arith; room = w.room; size = w.size }) p
loosen s ls a b a' b' t P l m (halted h (inl z)) = halted h (inl (omega arith))
loosen s ls a b a' b' t P l m (halted h (inr z)) = halted h (inr (omega arith))

-- One part after another.
pub bind : (s : Run) (ls : List (List Node)) (a b : ℕ) (t : Run) (P : List (List Node) → Type 0) (a' b' : ℕ) (u : Run) (Q : List (List Node) → Type 0)
    → Result s ls a b t P → (Halt t → Halt u) → ((ls₁ : List (List Node)) → Live t ls₁ → P ls₁ → Result t ls₁ a' b' u Q)
    → Result s ls (a + a') (b + b') u Q
bind s ls a b t P a' b' u Q (halted h (inl z)) k f = halted (k h) (inl (omega arith))
bind s ls a b t P a' b' u Q (halted h (inr z)) k f = halted (k h) (inr (omega arith))
bind s ls a b t P a' b' u Q (went ls₁ w p) k f = go (f ls₁ w.live p)
  where
    go : Result t ls₁ a' b' u Q → Result s ls (a + a') (b + b') u Q
    go (went ls₂ v q) =
        let x₁ = w.records in let x₂ = v.records in let y₁ = w.taken in let y₂ = v.taken in
        went ls₂ (record { way = way_append w.way v.way; live = v.live; same = v.same ∙ w.same; records = omega arith; taken = omega arith; room = v.room ∙ w.room; size = v.size ∙ w.size }) q
    go (halted h (inl z)) = let x₁ = w.records in halted h (inl (omega arith))
    go (halted h (inr z)) = let y₁ = w.taken in let e = w.size in halted h (inr (omega arith))

-- What is known is put another way.
pub recast : (s : Run) (ls : List (List Node)) (a b : ℕ) (t : Run) (P Q : List (List Node) → Type 0)
    → ((ls' : List (List Node)) → Live t ls' → P ls' → Q ls') → Result s ls a b t P → Result s ls a b t Q
recast s ls a b t P Q f (went ls' w p) = went ls' w (f ls' w.live p)
recast s ls a b t P Q f (halted h z) = halted h z

-- ---- one record

pub emit_goes : (r : Rec) (s : Run) → s.stop ≡ 0 → ltb 0 s.room ≡ true → emit r s ≡ written_by r s
unfolding emit emit_by logged
emit_goes r s z l = rw (eq_true s.stop 0 z, l)

pub emit_stops : (r : Rec) (s : Run) → s.stop ≡ 0 → ltb 0 s.room ≡ false → emit r s ≡ stopped 17 s
unfolding emit emit_by logged
emit_stops r s z l = rw (eq_true s.stop 0 z, l)

pub emitted : (r : Rec) (s : Run) (ls ls' : List (List Node)) (b : ℕ) (P : List (List Node) → Type 0) → Live s ls → Step s.pages ls r ls'
    → leaves ls' ≡ leaves ls → counted ls' ≤ counted ls + b
    → (emit r s ≡ written_by r s → P ls') → Result s ls 1 b (emit r s) P
emitted r s ls ls' b P v k e c p = go (case (ltb 0 s.room))
  where
    go : Case (ltb 0 s.room) → Result s ls 1 b (emit r s) P
    go (yes! l) =
        let g = true_lt 0 s.room l in
        let w = emit_goes r s v.goes l in
        let q = p w in
        subst (λ z. Result s ls 1 b z P) (sym w)
        (went ls' (record { way = more stay k; live = live_more r s ls ls' v k; same = e; records = omega arith; taken = c; room = omega arith; size = length_redo_record s.due r s.pages }) q)
    go (no! l) =
        let g = false_lt 0 s.room l in
        subst (λ z. Result s ls 1 b z P) (sym (emit_stops r s v.goes l)) (halted (halt_short s) (inl (omega arith)))

-- ---- a record that takes a page

positive : (n : ℕ) → eqb n 0 ≡ false → 0 < n
positive zero e = clash e
positive (suc n) e = omega arith

-- What is owed of a record that takes a page.
pub record Takes (s : Run) (ls : List (List Node)) (r : Rec) (P : List (List Node) → Type 0) : Type 0 where
  pub after : List (List Node)
  pub step : Step s.pages ls r after
  pub same : leaves after ≡ leaves ls
  pub taken : counted after ≤ counted ls + 1
  pub holds : P after

pub took : (f : ℕ → Rec) (near : ℕ) (s : Run) (ls : List (List Node)) (P : List (List Node) → Type 0) → Live s ls
    → ((b : ℕ) → Gives (length s.pages) (at s.pages 0).marks b → 0 < b → emit_taking f near s ≡ written_by (f b) s → Takes s ls (f b) P)
    → Result s ls 1 1 (emit_taking f near s) P
unfolding emit_taking taking_by fresh
took f near s ls P v k = go (case (ltb 0 s.room)) (case (eqb (fresh s.pages near) 0))
  where
    z : eqb s.stop 0 ≡ true
    z = eq_true s.stop 0 v.goes

    go : Case (ltb 0 s.room) → Case (eqb (fresh s.pages near) 0) → Result s ls 1 1 (emit_taking f near s) P
    go (no! l) c =
        let g = false_lt 0 s.room l in
        let e : emit_taking f near s ≡ stopped 17 s = rw (z, l) (emit_stops (f (fresh s.pages near)) s v.goes l) in
        subst (λ z. Result s ls 1 1 z P) (sym e) (halted (halt_short s) (inl (omega arith)))
    go (yes! l) (yes! c) =
        let e : emit_taking f near s ≡ stopped 18 s = rw (z, l, c) in
        let a = all_used (length s.pages) (at s.pages 0).marks (true_eq _ _ c) v.rules.mapped.wide v.rules.mapped.itself in
        let d = v.rules.mapped.count in
        subst (λ z. Result s ls 1 1 z P) (sym e) (halted (record { stuck = λ z. absurd (omega (arith, z)); full = λ z. omega arith }) (inr (omega arith)))
    go (yes! l) (no! c) =
        let pos : 0 < fresh s.pages near = positive (fresh s.pages near) c in
        let e : emit_taking f near s ≡ emit (f (fresh s.pages near)) s = rw (z, l, c) in
        let w = e ∙ emit_goes (f (fresh s.pages near)) s v.goes l in
        let t = k (fresh s.pages near) (highest_gives (length s.pages) (at s.pages 0).marks pos) pos w in
        subst (λ z. Result s ls 1 1 z P) (sym e) (emitted (f (fresh s.pages near)) s ls t.after 1 P v t.step t.same t.taken (λ q. t.holds))
