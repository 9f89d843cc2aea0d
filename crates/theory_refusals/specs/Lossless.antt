-- Areas of whole parts are written back as they were read, whatever stands in them.
use Rattle.std.specs.Prelude.{ℕ, zero, suc, ◌*◌, ◌/◌, ◌≡◌, refl, List, [], ◌∷◌, ◌++◌, map, length, take, drop}
use Rattle.std.proofs.Common.{ap, ◌∙◌, arith, take-append-drop, length-drop}
use Rattle.def_layout.specs.PageBytes.{read_block, left_in, without_left, with_left}
use Rattle.def_layout.specs.Sizes.{page_size, slot_size}
use Rattle.def_layout.specs.RecordBytes.{read_slot, slot_bytes}
use Rattle.def_model.specs.OnBytes.{parts, joined, read_work, read_lefts, read_log, work_parts, work_bytes, log_bytes}
use Rattle.law_bytes.specs.PageBytes.{block_bytes_back}
use Rattle.law_bytes.specs.LeftLinks.{left_back}
use Rattle.law_bytes.specs.RecordBytes.{slot_bytes_back}
use Rattle.law_areas.specs.Parts.{mul_up}

joined_parts : (n w : ℕ) (b : List ℕ) → length b ≡ w * n → joined (parts n w b) ≡ b
unfolding joined parts
joined_parts zero w [] e = refl
joined_parts zero w (x ∷ b) e = absurd (omega arith)
joined_parts (suc n) w b e =
    let d : length (drop w b) ≡ w * n = let m = mul_up w n in let l = length-drop w b in omega arith in
    ap (take w b ++◌) (joined_parts n w (drop w b) d) ∙ take-append-drop w b

map_back : {A : Type 0} (f : List ℕ → A) (g : A → List ℕ) → ((b : List ℕ) → g (f b) ≡ b) → (bs : List (List ℕ)) → map g (map f bs) ≡ bs
map_back f g h [] = refl
map_back f g h (b ∷ bs) = λ i. h b i ∷ map_back f g h bs i

-- Working pages: without their left links, and with them again.
pub work_lossless : (n : ℕ) (b : List ℕ) → length b ≡ page_size * n → work_bytes (read_work b) (read_lefts b) ≡ b
unfolding work_bytes read_work read_lefts work_parts
work_lossless n b e =
    let q : length b / page_size ≡ n = omega arith in
    ap joined (each (parts (length b / page_size) page_size b)) ∙ ap (λ k. joined (parts k page_size b)) q ∙ joined_parts n page_size b e
  where
    each : (bs : List (List ℕ)) → work_parts (map (λ x. read_block (without_left x)) bs) (map left_in bs) ≡ bs
    each [] = refl
    each (x ∷ bs) = λ i. (ap (with_left (left_in x)) (block_bytes_back (without_left x)) ∙ left_back x) i ∷ each bs i

pub log_lossless : (m : ℕ) (b : List ℕ) → length b ≡ slot_size * m → log_bytes (read_log b) ≡ b
unfolding log_bytes read_log
log_lossless m b e =
    let q : length b / slot_size ≡ m = omega arith in
    ap joined (map_back read_slot slot_bytes slot_bytes_back (parts (length b / slot_size) slot_size b)) ∙ ap (λ k. joined (parts k slot_size b)) q ∙ joined_parts m slot_size b e
