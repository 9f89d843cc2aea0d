-- Areas that grow by zeros show zero pages and empty slots more.
use Rattle.std.specs.Prelude.{ℕ, zero, suc, ◌+◌, ◌*◌, ◌/◌, ◌≤◌, ◌≡◌, List, [], ◌∷◌, ◌++◌, map, length, take, drop, replicate}
use Rattle.std.proofs.Math.Path.{ap}
use Rattle.std.proofs.Common.{◌∙◌, arith, length-append, length-drop}
use Rattle.std.proofs.lemmas.List.{map-append, length-replicate, take-append-le, drop-append-le}
use Rattle.std.proofs.Math.ListN.{replicate-append-replicate}
use Rattle.def_layout.specs.declared.Desk.{Desk}
use Rattle.def_layout.specs.Numbers.{zeros}
use Rattle.def_layout.specs.Pages.{zero_page}
use Rattle.def_layout.specs.PageBytes.{page, read_block, left_in, without_left}
use Rattle.def_layout.specs.RecordBytes.{empty, read_slot}
use Rattle.def_layout.specs.Sizes.{page_size, slot_size}
use Rattle.def_model.specs.Areas.{Side, Areas}
use Rattle.def_model.specs.OnBytes.{parts, read_pages, read_work, read_lefts, read_log, read_areas}
use Rattle.def_recovery.specs.Events.{World, grow}
use Rattle.law_areas.specs.Parts.{mul_up}
use Rattle.law_areas.specs.Pages.{zero_pages_read}
use Rattle.law_areas.specs.Working.{zero_work_read, zero_lefts_read}
use Rattle.law_areas.specs.Logs.{empty_log_read}
use Rattle.theory_recovery.specs.Steps.{grown_next}
use Rattle.theory_sessions.specs.Tie.{Calm, running, zeroed, Tied}

parts_append : (n x w : ℕ) (b c : List ℕ) → length b ≡ w * n → parts (n + x) w (b ++ c) ≡ parts n w b ++ parts x w c
unfolding parts
parts_append zero x w [] c e = let z : 0 + x ≡ x = omega arith in ap (λ k. parts k w c) z
parts_append zero x w (y ∷ b) c e = absurd (omega arith)
parts_append (suc n) x w b c e =
    let z : suc n + x ≡ suc (n + x) = omega arith in
    let u = mul_up w n in
    let h : w ≤ length b = omega arith in
    let d : length (drop w b) ≡ w * n = omega (arith, length-drop w b) in
    ap (λ k. parts k w (b ++ c)) z
    ∙ (λ i. take-append-le w b c h i ∷ parts (n + x) w (drop-append-le w b c h i))
    ∙ ap (take w b ∷◌) (parts_append n x w (drop w b) c d)

module _ {A : Type 0} (f : List ℕ → A) where
  pieces_grown : (n x : ℕ) (b : List ℕ) → length b ≡ page_size * n → map f (parts (length (b ++ zeros (page_size * x)) / page_size) page_size (b ++ zeros (page_size * x)))
      ≡ map f (parts (length b / page_size) page_size b) ++ map f (parts (length (zeros (page_size * x)) / page_size) page_size (zeros (page_size * x)))
  pieces_grown n x b size =
      let c : List ℕ = zeros (page_size * x) in
      let l = length-replicate {A = ℕ} (page_size * x) 0 in
      let k : length (b ++ c) / page_size ≡ n + x = omega (arith, length-append b c) in
      let i : n ≡ length b / page_size = omega arith in
      let j : x ≡ length c / page_size = omega arith in
      ap (λ q. map f (parts q page_size (b ++ c))) k
      ∙ ap (map f) (parts_append n x page_size b c size) ∙ map-append f (parts n page_size b) (parts x page_size c)
      ∙ (λ t. map f (parts (i t) page_size b) ++ map f (parts (j t) page_size c))

work_grown : (n x : ℕ) (b : List ℕ) → length b ≡ page_size * n → read_work (b ++ zeros (page_size * x)) ≡ read_work b ++ replicate x (page zero_page)
unfolding read_work
work_grown n x b size = pieces_grown (λ y. read_block (without_left y)) n x b size ∙ ap (read_work b ++◌) (zero_work_read x)

lefts_grown : (n x : ℕ) (b : List ℕ) → length b ≡ page_size * n → read_lefts (b ++ zeros (page_size * x)) ≡ read_lefts b ++ replicate x 0
unfolding read_lefts
lefts_grown n x b size = pieces_grown left_in n x b size ∙ ap (read_lefts b ++◌) (zero_lefts_read x)

pages_grown : (n x : ℕ) (b : List ℕ) → length b ≡ page_size * n → read_pages (b ++ zeros (page_size * x)) ≡ read_pages b ++ replicate x (page zero_page)
unfolding read_pages
pages_grown n x b size = pieces_grown read_block n x b size ∙ ap (read_pages b ++◌) (zero_pages_read x)

log_grown : (m y : ℕ) (b : List ℕ) → length b ≡ slot_size * m → read_log (b ++ zeros (slot_size * y)) ≡ read_log b ++ replicate y empty
unfolding read_log
log_grown m y b size =
    let c : List ℕ = zeros (slot_size * y) in
    let l = length-replicate {A = ℕ} (slot_size * y) 0 in
    let k : length (b ++ c) / slot_size ≡ m + y = omega (arith, length-append b c) in
    let i : m ≡ length b / slot_size = omega arith in
    let j : y ≡ length c / slot_size = omega arith in
    ap (λ q. map read_slot (parts q slot_size (b ++ c))) k
    ∙ ap (map read_slot) (parts_append m y slot_size b c size) ∙ map-append read_slot (parts m slot_size b) (parts y slot_size c)
    ∙ (λ t. map read_slot (parts (i t) slot_size b) ++ map read_slot (parts (j t) slot_size c)) ∙ ap (read_log b ++◌) (empty_log_read y)

pub longer : (b : List ℕ) (q : ℕ) → length (b ++ zeros q) ≡ length b + q
longer b q = length-append b (zeros q) ∙ ap (λ k. length b + k) (length-replicate {A = ℕ} q 0)

-- x pages and y slots more, in working and stable areas alike.
abbrev side_grown : ℕ → ℕ → Side → Side
side_grown x y s = record { pages = s.pages ++ replicate x (page zero_page); lefts = s.lefts ++ replicate x 0; log = s.log ++ replicate y empty }

abbrev stable_grown : ℕ → ℕ → Side → Side
stable_grown x y s = record { pages = s.pages ++ replicate x (page zero_page); lefts = s.lefts; log = s.log ++ replicate y empty }

abbrev pub areas_grown : ℕ → ℕ → Areas → Areas
areas_grown x y a = record { work = side_grown x y a.work; stable = stable_grown x y a.stable }

abbrev pub world_grown : ℕ → ℕ → World → World
world_grown x y w = grow (page_size * x) (page_size * x) (slot_size * y) (slot_size * y) w

module _ (n m x y : ℕ) (w : World) (a : Areas) (d : Desk) (t : Tied n m w a d) (few : n + x ≤ 896) (low : m + y ≤ 16384) where
  grown_read : read_areas (world_grown x y w).lent ≡ areas_grown x y (read_areas w.lent)
  unfolding grow read_areas
  grown_read =
      let z = t.lengths in
      let p = work_grown n x w.lent.work_pages z.work_pages in
      let l = lefts_grown n x w.lent.work_pages z.work_pages in
      let q = pages_grown n x w.lent.stable_pages z.stable_pages in
      let r = log_grown m y w.lent.work_log z.work_log in
      let s = log_grown m y w.lent.stable_log z.stable_log in
      λ i. record { work = record { pages = p i; lefts = l i; log = r i }; stable = record { pages = q i; lefts = []; log = s i } }

  grown_calm : Calm n m w → Calm (n + x) (m + y) (world_grown x y w)
  unfolding grow
  grown_calm (running e) = running e
  grown_calm (zeroed e) =
      let p = replicate-append-replicate n x (page zero_page) in
      let l = replicate-append-replicate {A = ℕ} n x 0 in
      let q = replicate-append-replicate m y empty in
      zeroed (ap (λ b. b.work) grown_read ∙ ap (side_grown x y) e ∙ (λ i. record { pages = p i; lefts = l i; log = q i }))

  -- GROWN.
  pub grown_tied : Tied (n + x) (m + y) (world_grown x y w) (areas_grown x y a) d
  unfolding grow
  grown_tied =
      let z = t.lengths in
      record {
        inv = (grown_next (page_size * x) (page_size * x) (slot_size * y) (slot_size * y) w t.inv).inv;
        lengths = record {
          work_pages = omega (arith, longer w.lent.work_pages (page_size * x), z.work_pages);
          stable_pages = omega (arith, longer w.lent.stable_pages (page_size * x), z.stable_pages);
          work_log = omega (arith, longer w.lent.work_log (slot_size * y), z.work_log);
          stable_log = omega (arith, longer w.lent.stable_log (slot_size * y), z.stable_log);
          least_pages = omega (arith, z.least_pages);
          most_pages = few;
          least_slots = omega (arith, z.least_slots);
          most_slots = low;
        };
        areas = grown_read ∙ ap (areas_grown x y) t.areas;
        desk = t.desk;
        calm = grown_calm t.calm;
      }
