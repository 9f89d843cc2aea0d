-- What every call finds first: refusal 1, refusal 11, or a sound register.
use Rattle.std.specs.Prelude.{◌≡◌, ℕ, ◌/◌, ◌≤◌, ◌<◌, true, false, List, length}
use Rattle.std.proofs.Common.{subst, arith}
use Rattle.std.proofs.Math.Path.{sym}
use Rattle.std.proofs.Math.Option.{some}
use Rattle.def_layout.specs.declared.Desk.{Desk}
use Rattle.def_layout.specs.Desks.{eight_rows}
use Rattle.def_layout.specs.Pages.{Page}
use Rattle.def_layout.specs.Records.{Rec}
use Rattle.def_model.specs.declared.Refusal.{Refusal}
use Rattle.def_model.specs.declared.Refusal.TheVariants.{Lengths, PageNumber, Unsound}
use Rattle.def_model.specs.declared.Answer.TheVariants.{Refused}
use Rattle.def_model.specs.Sound.{sound}
use Rattle.def_model.specs.OnBytes.{Request, request, lengths_ok, read_areas}
use Rattle.area_lengths.specs.Lent.{lent, Sized, lengths_numbers}
use Rattle.log_pending.specs.Reading.{reads_few}
use Rattle.law_bytes.specs.AreaSizes.{HasAreas}
use Rattle.law_bytes.specs.DeskRows.{LowRows}
use Rattle.log_judge.specs.Accepted as judge
use Rattle.sound_register.specs.declared.Standing.{Standing}
use Rattle.sound_register.specs.Standing.{Known, pages_in, log_in, known_low}
use Rattle.call_reply.specs.declared.Reply.{Reply}
use Rattle.call_reply.specs.Replies.{Replies}
use Rattle.call_slides.specs.Given.{Given}
use Rattle.call_register.specs.declared.Entry.{Entry}
use Rattle.call_register.specs.Refusals.{names, by_1, by_2, by_11}

-- The numbers that later steps ask for.
abbrev pub Sizes : (n m : ℕ) (wp sp wl sl : List ℕ) (d : Desk) (st : Standing) → Type 0
Sizes n m wp sp wl sl d st =
    HasAreas n m wp wl × HasAreas n m sp sl × (d.stored ≤ d.logged) × (d.logged ≤ m) × (st.pending ≤ 16384) × LowRows d.rows

-- WHERE A CALL ENTERS a sound register, which has the page p.
pub record Entered (wp sp wl sl : List ℕ) (d : Desk) (p : ℕ) (e : Entry) : Type 0 where
  pub sizes : Sizes e.pages e.slots wp sp wl sl d e.standing × (p < e.pages)
  pub given : Given e.pages e.slots wp sp wl sl d e.standing

-- WHERE IT IS REFUSED, if it names the page p.
abbrev pub Barred : (wp sp wl sl : List ℕ) (d : Desk) (p : ℕ) (why : Refusal) → Type 0
Barred wp sp wl sl d p why =
    (q : Request) (budget : ℕ) (r : Reply) → (r.answer ≡ Refused why) × (r.desk ≡ d) → names q ≡ some p → Replies (request q) (lent wp sp wl sl) d budget r (lent wp sp wl sl)

-- ---- which it is

low_rows : {n : ℕ} {wp wl sl : List ℕ} {d : Desk} {r : Standing} {xs : List Page} {l : List Rec} (m : ℕ) → m ≤ 16384 → Known n m wp wl sl d r xs l → LowRows d.rows
low_rows {wl = wl} {l = l} m few k =
    subst LowRows (sym k.rows) (judge.accepted_low m wl l few (record { reads = k.reads; holds = k.holds }))

module _ (wp sp wl sl : List ℕ) (d : Desk) (p : ℕ) where
  pub barred_1 : lengths_ok (lent wp sp wl sl) ≡ false → Barred wp sp wl sl d p Lengths
  barred_1 f q budget r a i = by_1 wp sp wl sl d budget r q f a.0 a.1

  module _ (lens : lengths_ok (lent wp sp wl sl) ≡ true) where
    pub barred_2 : length wp / 128 ≤ p → Barred wp sp wl sl d p PageNumber
    barred_2 f q budget r a i = by_2 wp sp wl sl d budget r q lens p i f a.0 a.1

    module _ (here : p < length wp / 128) where
      pub barred_11 : sound (read_areas (lent wp sp wl sl)) d ≡ false → Barred wp sp wl sl d p Unsound
      barred_11 f q budget r a i = by_11 wp sp wl sl d budget r q lens p i here f a.0 a.1

      pub entered : (e : Entry) → e.pages ≡ length wp / 128 → e.slots ≡ length wl / 144 → sound (read_areas (lent wp sp wl sl)) d ≡ true
          → Known e.pages e.slots wp wl sl d e.standing (pages_in wp) (log_in wl) → Entered wp sp wl sl d p e
      unfolding eight_rows
      entered e n_is m_is s k =
          let z : Sized wp sp wl sl = lengths_numbers wp sp wl sl lens in
          let few : e.slots ≤ 16384 = omega (arith, m_is, z.6) in
          let low = known_low k few in
          let read = reads_few e.slots wl _ k.reads in
          record {
            sizes = (
              (
                (omega (arith, n_is, z.0), omega (arith, n_is, z.2), omega (arith, m_is, z.4), few),
                (omega (arith, n_is, z.0, z.3), omega (arith, n_is, z.2), omega (arith, m_is, z.4, z.7), few),
                omega (arith, k.stored, k.logged),
                omega (arith, k.logged, read),
                low.1,
                low_rows e.slots few k,
              ),
              omega (arith, n_is, here),
            );
            given = record { lengths = lens; is_sound = s; known = k };
          }
