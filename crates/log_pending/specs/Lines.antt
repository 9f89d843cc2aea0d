-- A pending line as the program reads it: from its record, with the number of the line below.
use Rattle.std.specs.Prelude.{ℕ, suc, ◌+◌, ◌*◌, ◌/◌, ◌≤◌, ◌<◌, ◌≡◌, refl, Bool, true, false, List, ◌∷◌, length, eqb}
use Rattle.std.proofs.Common.{sym, ap, ◌∙◌, arith}
use Rattle.def_layout.specs.Numbers.{be32}
use Rattle.def_layout.specs.Records.{Rec, kind_number}
use Rattle.def_layout.specs.Sizes.{slot_size}
use Rattle.def_model.specs.Log.{record_at}
use Rattle.def_model.specs.Batches as model
use Rattle.log_pending.specs.declared.Line.{Line}
use Rattle.log_pending.specs.Below.{pending_after, below, adds_kind, Stands, Linked}
use Rattle.log_pending.specs.Reading.{Reads, TellsAfter, reads_few, kind_read, previous_read, key_read, second_read}

abbrev pub shown_line : model.Line → List model.Line → Line
shown_line x xs = record { number = x.number; adds = x.adds; key = x.key; value = x.value; below = model.next_undo xs }

-- The line that is number n, of any linked lines of any log that the area shows.
abbrev pub TellsLine : ℕ → List ℕ → ℕ → Line → Type 0
TellsLine m b n r = (l : List Rec) (x : model.Line) (xs : List model.Line) → Reads m b l → Linked l (x ∷ xs) → n ≡ x.number → r ≡ shown_line x xs

pub stands : (l : List Rec) (x : model.Line) (xs : List model.Line) → Linked l (x ∷ xs) → Stands l x
unfolding Linked
stands l x xs h = h.0

leads : (l : List Rec) (x : model.Line) (xs : List model.Line) → Linked l (x ∷ xs) → below l (record_at l x.number) ≡ model.next_undo xs
unfolding Linked
leads l x xs h = h.1

adds_number : (a : Bool) → eqb (kind_number (adds_kind a)) 2 ≡ a
unfolding kind_number adds_kind
adds_number true = refl
adds_number false = refl

module _ (m : ℕ) (b : List ℕ) (n : ℕ) (r : Line) where
  pub line_zero : n ≡ 0 → TellsLine m b n r
  line_zero z l x xs e h p = absurd (omega (arith, z, p, (stands l x xs h).from_one))

  pub line_past : (i : ℕ) → n ≡ suc i → m ≤ i → TellsLine m b n r
  line_past i s q l x xs e h p = absurd (omega (arith, s, p, q, (stands l x xs h).within, reads_few m b l e))

pub line_read : (m : ℕ) (b : List ℕ) (n i : ℕ) → n ≡ suc i → (k key value previous under : ℕ) → k ≡ be32 b (slot_size * i) / 268435456
    → key ≡ be32 b (slot_size * i + 20) → value ≡ be32 b (slot_size * i + 24) → previous ≡ be32 b (slot_size * i + 12) → TellsAfter m b previous under
    → TellsLine m b n (record { number = n; adds = eqb k 2; key = key; value = value; below = under })
line_read m b n i s k key value previous under ek ey ev ep t l x xs e h p =
    let w : Stands l x = stands l x xs h in
    let q : suc i ≡ x.number = sym s ∙ p in
    let d : i < length l = omega (arith, q, w.within) in
    let kind : (record_at l (suc i)).kind ≡ adds_kind x.adds = ap (λ (j : ℕ). (record_at l j).kind) q ∙ w.kind in
    let adds : eqb k 2 ≡ x.adds = ap (λ (j : ℕ). eqb j 2) (ek ∙ kind_read m b l e i d ∙ ap kind_number kind) ∙ adds_number x.adds in
    let keys : key ≡ x.key = ey ∙ key_read m b l e i d ∙ ap (λ (j : ℕ). (record_at l j).key) q ∙ w.key in
    let values : value ≡ x.value = ev ∙ second_read m b l e i d ∙ ap (λ (j : ℕ). (record_at l j).second) q ∙ w.value in
    let back : previous ≡ (record_at l x.number).previous = ep ∙ previous_read m b l e i d ∙ ap (λ (j : ℕ). (record_at l j).previous) q in
    let under_is : under ≡ model.next_undo xs =
    t l e (omega (arith, back, w.back, w.within)) ∙ ap (pending_after l) back ∙ leads l x xs h in
    let all : record { number = n; adds = eqb k 2; key = key; value = value; below = under } ≡ shown_line x xs = cc in
    all
