-- AREAS THAT GROW UNEVENLY: while their lengths are wrong every call is refused for them and changes nothing but the desk, until more growth makes them right.
use Rattle.std.specs.Prelude.{ℕ, ◌+◌, ◌≤◌, ◌≡◌, refl, true, List, [], ◌∷◌, ◌++◌, map}
use Rattle.std.proofs.Math.Path.{ap}
use Rattle.std.proofs.Common.{◌∙◌, inl, append_assoc}
use Rattle.std.proofs.Math.Bool.{false}
use native.Mathlib.Omega.{arith}
use Rattle.std.proofs.lemmas.List.{replicate-append-replicate}
use Rattle.def_base.specs.Tests.{every, Case, yes!, no!, case, and_true}
use Rattle.def_layout.specs.declared.Desk.{Desk}
use Rattle.def_layout.specs.Desks.{empty_desk}
use Rattle.def_layout.specs.Numbers.{zeros}
use Rattle.def_model.specs.Answers.{passed}
use Rattle.def_model.specs.Areas.{Areas}
use Rattle.def_model.specs.OnBytes.{Call, Lent, lengths_ok, call_by, refused_desk, lent_after, store_all_bytes}
use Rattle.def_model.specs.CallNames.{format, load, restart, begin}
use Rattle.def_recovery.specs.Events.{World, Event, ended, grown, Granted, Allowed, AllAllowed, happen, happen_all, end_call, grow, book_after, start_32, request_32, of_32_bits}
use Rattle.law_areas.specs.Lengths.{Lengths, lengths_said}
use Rattle.theory_refusals.specs.Grants.{granted_if}
use Rattle.theory_recovery.specs.ByC.{with_desk}
use Rattle.theory_recovery.specs.Steps.{ended_by, still, result_by}
use Rattle.theory_recovery.specs.TheoremOfC.{inv_desk}
use Rattle.theory_sessions.specs.Tie.{Calm, running, zeroed, Tied}
use Rattle.theory_sessions.specs.Growing.{longer, areas_grown, world_grown, grown_tied}
use Rattle.theory_sessions.specs.InARow.{Leads, in_a_row, grows}

-- ---- calls on areas of wrong lengths

not_right : (l : Lent) → ((n m : ℕ) → Lengths l n m → ⊥) → lengths_ok l ≡ false
not_right l h = go (case (lengths_ok l))
  where
    go : Case (lengths_ok l) → lengths_ok l ≡ false
    go (no! e) = e
    go (yes! e) = absurd (h _ _ (lengths_said l e))

module _ (c : Call) (w : World) (wrong : lengths_ok w.lent ≡ false) where
  wrong_granted : of_32_bits c ≡ true → Granted c w
  unfolding call_by passed
  wrong_granted k = granted_if c w k (inl (ap (λ r. passed r.answer) (result_by c w false wrong)))

  wrong_ended : end_call c w ≡ with_desk (refused_desk c w.desk) w
  unfolding end_call call_by lent_after store_all_bytes book_after passed
  wrong_ended = ap (λ r. ended_by c r w) (result_by c w false wrong) ∙ ap (λ b. record { lent = w.lent; desk = refused_desk c w.desk; book = w.book; since_cut = b }) (still w.since_cut)

-- The desk that these refused calls leave.
unfoldable desk_left : List Call → Desk → Desk
desk_left [] d = d
desk_left (c ∷ cs) d = desk_left cs (refused_desk c d)

all_refused : (cs : List Call) (w : World) → every of_32_bits cs ≡ true → lengths_ok w.lent ≡ false → Leads (map ended cs) w (with_desk (desk_left cs w.desk) w)
unfolding every AllAllowed Allowed happen_all happen desk_left
all_refused [] w k wrong = record { allowed = tt; ends = refl }
all_refused (c ∷ cs) w k wrong =
    let (a, b) = and_true (of_32_bits c) (every of_32_bits cs) k in
    let t = all_refused cs (with_desk (refused_desk c w.desk) w) b wrong in
    in_a_row (ended c ∷ []) (map ended cs) w (with_desk (refused_desk c w.desk) w) _ (record { allowed = (wrong_granted c w wrong a, tt); ends = wrong_ended c w wrong }) t

-- ---- growth in several steps

more_bytes : (x : List ℕ) (a b : ℕ) → (x ++ zeros a) ++ zeros b ≡ x ++ zeros (a + b)
more_bytes x a b = append_assoc x (zeros a) (zeros b) ∙ ap (x ++◌) (replicate-append-replicate a b 0)

grow_more : (a b c d e f g h : ℕ) (w : World) → grow e f g h (grow a b c d w) ≡ grow (a + e) (b + f) (c + g) (d + h) w
unfolding grow
grow_more a b c d e f g h w =
    let p = more_bytes w.lent.work_pages a e in
    let q = more_bytes w.lent.stable_pages b f in
    let r = more_bytes w.lent.work_log c g in
    let s = more_bytes w.lent.stable_log d h in
    λ i. record { lent = record { work_pages = p i; stable_pages = q i; work_log = r i; stable_log = s i }; desk = w.desk; book = w.book; since_cut = w.since_cut }

-- The invariant does not look at the desk.
desk_tied : (n m : ℕ) (w : World) (a : Areas) (d e : Desk) → Tied n m w a d → Tied n m (with_desk e w) a e
desk_tied n m w a d e t = record { inv = inv_desk e t.inv; lengths = t.lengths; areas = t.areas; desk = refl; calm = go t.calm }
  where
    go : Calm n m w → Calm n m (with_desk e w)
    go (running r) = running r
    go (zeroed r) = zeroed r

-- ---- a page and two slots more: one byte of the working pages alone; the rest of the page, and the slots of the working log alone; those of the stable log

pub first_refused : List Call
first_refused = format ∷ load (5 ∷ []) (6 ∷ []) ∷ begin ∷ restart ∷ []

pub then_refused : List Call
then_refused = restart ∷ load (5 ∷ []) (6 ∷ []) ∷ begin ∷ format ∷ []

unfoldable pub uneven : List Event
uneven = (grown 1 0 0 0 ∷ []) ++ (map ended first_refused ++ ((grown 127 128 288 0 ∷ []) ++ (map ended then_refused ++ (grown 0 0 0 288 ∷ []))))

small : (every of_32_bits first_refused ≡ true) × (every of_32_bits then_refused ≡ true)
unfolding every of_32_bits start_32 request_32 first_refused then_refused
small = (refl, refl)

module _ (n m : ℕ) (w : World) (a : Areas) (d : Desk) (t : Tied n m w a d) where
  first_wrong : (e : Desk) → lengths_ok (with_desk e (grow 1 0 0 0 w)).lent ≡ false
  unfolding grow
  first_wrong e = not_right _ λ x y z. omega (arith, z.work_pages, longer w.lent.work_pages 1, t.lengths.work_pages)

  then_wrong : (e : Desk) → lengths_ok (with_desk e (grow 127 128 288 0 (grow 1 0 0 0 w))).lent ≡ false
  unfolding grow
  then_wrong e =
      not_right _ λ x y z. omega (
        arith,
        z.work_log,
        z.stable_log,
        longer (w.lent.work_log ++ zeros 0) 288,
        longer w.lent.work_log 0,
        longer (w.lent.stable_log ++ zeros 0) 0,
        longer w.lent.stable_log 0,
        t.lengths.work_log,
        t.lengths.stable_log,
      )

  pub uneven_leads : Leads uneven w (with_desk empty_desk (world_grown 1 2 w))
  unfolding uneven grow desk_left refused_desk first_refused then_refused
  uneven_leads =
      let u : World = with_desk empty_desk (grow 1 0 0 0 w) in
      let v : World = with_desk empty_desk (grow 127 128 288 0 (grow 1 0 0 0 w)) in
      let x = grows 0 0 0 288 v in
      let b = in_a_row _ _ _ _ _ (all_refused then_refused v small.1 (then_wrong empty_desk)) x in
      let c = in_a_row _ _ _ _ _ (grows 127 128 288 0 u) b in
      let e = in_a_row _ _ _ _ _ (all_refused first_refused (grow 1 0 0 0 w) small.0 (first_wrong w.desk)) c in
      let f = in_a_row _ _ _ _ _ (grows 1 0 0 0 w) e in
      record { allowed = f.allowed; ends = f.ends ∙ ap (λ q. with_desk empty_desk (grow 0 0 0 288 q)) (grow_more 1 0 0 0 127 128 288 0 w) ∙ ap (with_desk empty_desk) (grow_more 128 128 288 0 0 0 0 288 w) }

  pub uneven_tied : n + 1 ≤ 896 → m + 2 ≤ 16384 → Tied (n + 1) (m + 2) (with_desk empty_desk (world_grown 1 2 w)) (areas_grown 1 2 a) empty_desk
  uneven_tied few low = desk_tied (n + 1) (m + 2) (world_grown 1 2 w) (areas_grown 1 2 a) d empty_desk (grown_tied n m 1 2 w a d t few low)
