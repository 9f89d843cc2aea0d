-- The definitions' areas in the codecs' words: pieces that are read and written, stores that are patches, tests that are the same.
use Rattle.std.specs.Prelude.{◌≡◌, refl, ℕ, zero, suc, ◌/◌, true, List, [], ◌∷◌, ◌++◌, map, length, take, drop}
use Rattle.std.proofs.Common.{ap}
use Rattle.def_layout.specs.PageBytes.{Block, read_block, block_bytes, left_in, without_left}
use Rattle.def_layout.specs.Sizes.{page_size, slot_size}
use Rattle.def_layout.specs.RecordBytes.{Slot, read_slot, slot_bytes}
use Rattle.def_model.specs.OnBytes.{parts, joined, read_pages, read_work, read_lefts, read_log, pages_bytes, log_bytes, put_part}
use Rattle.law_bytes.specs.Patch.{patch}
use Rattle.law_bytes.specs.Pieces.{read_all, write_all}
use Rattle.law_bytes.specs.PageAreas.{judged, blocks_of, blocks_by, lefts_of, blocks_bytes}
use Rattle.law_bytes.specs.LogAreas.{slots_of, slots_bytes}

map_parts : {A : Type 0} (f : List ℕ → A) (n w : ℕ) (b : List ℕ) → map f (parts n w b) ≡ read_all w f n b
unfolding parts read_all
map_parts f zero w b = refl
map_parts f (suc n) w b = ap (λ xs. f (take w b) ∷ xs) (map_parts f n w (drop w b))

pub joined_map : {A : Type 0} (g : A → List ℕ) (xs : List A) → joined (map g xs) ≡ write_all g xs
unfolding joined write_all
joined_map g [] = refl
joined_map g (x ∷ xs) = ap (λ r. g x ++ r) (joined_map g xs)

pub read_pages_is : (b : List ℕ) → read_pages b ≡ blocks_of (length b / page_size) b
unfolding read_pages
read_pages_is b = map_parts read_block (length b / page_size) page_size b

pub read_work_is : (b : List ℕ) → read_work b ≡ blocks_by true (length b / page_size) b
unfolding read_work judged
read_work_is b = map_parts (λ x. read_block (without_left x)) (length b / page_size) page_size b

pub read_lefts_is : (b : List ℕ) → read_lefts b ≡ lefts_of (length b / page_size) b
unfolding read_lefts
read_lefts_is b = map_parts left_in (length b / page_size) page_size b

pub read_log_is : (b : List ℕ) → read_log b ≡ slots_of (length b / slot_size) b
unfolding read_log
read_log_is b = map_parts read_slot (length b / slot_size) slot_size b

pub pages_bytes_is : (bs : List Block) → pages_bytes bs ≡ blocks_bytes bs
unfolding pages_bytes
pages_bytes_is bs = joined_map block_bytes bs

pub log_bytes_is : (xs : List Slot) → log_bytes xs ≡ slots_bytes xs
unfolding log_bytes
log_bytes_is xs = joined_map slot_bytes xs

-- One store on bytes is a patch.
pub put_part_is : (from : ℕ) (new b : List ℕ) → put_part from new b ≡ patch b from new
unfolding put_part patch
put_part_is from new b = refl
