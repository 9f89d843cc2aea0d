-- An area of pages: its typed pages, its blocks, and the bytes of either.
use Rattle.std.specs.Prelude.{◌≡◌, refl, ℕ, ◌*◌, ◌<◌, Bool, true, false, List, set, length}
use Rattle.def_layout.specs.Pages.{Page}
use Rattle.def_layout.specs.PageBytes.{page_bytes, page_fields, Block, read_block, block_bytes, left_in, without_left}
use Rattle.def_layout.specs.Sizes.{page_size}
use Rattle.law_bytes.specs.Patch.{patch}
use Rattle.law_bytes.specs.Pieces.{read_all, write_all, All, all_map, read_write_all, write_read_all, write_all_length, write_all_set}
use Rattle.law_bytes.specs.PageBytes.{page_bytes_length, page_fields_back, Fits, block_bytes_back}

abbrev pub pages_of : ℕ → List ℕ → List Page
pages_of n s = read_all page_size page_fields n s

abbrev pub blocks_of : ℕ → List ℕ → List Block
blocks_of n s = read_all page_size read_block n s

-- The bytes of a page that are judged: of a working one those without its left link (02, U5). The blocks of either kind of area, and the links.
unfoldable pub judged : (working : Bool) → List ℕ → List ℕ
judged true b = without_left b
judged false b = b

abbrev pub blocks_by : (working : Bool) → ℕ → List ℕ → List Block
blocks_by working n s = read_all page_size (λ b. read_block (judged working b)) n s

pub stable_blocks : (n : ℕ) (s : List ℕ) → blocks_by false n s ≡ blocks_of n s
unfolding judged
stable_blocks n s = refl

abbrev pub lefts_of : ℕ → List ℕ → List ℕ
lefts_of n s = read_all page_size left_in n s

abbrev pub pages_bytes : List Page → List ℕ
pages_bytes xs = write_all page_bytes xs

abbrev pub blocks_bytes : List Block → List ℕ
blocks_bytes xs = write_all block_bytes xs

-- Whatever an area holds, its blocks write it again.
pub blocks_back : (n : ℕ) (s : List ℕ) → length s ≡ page_size * n → blocks_bytes (blocks_of n s) ≡ s
blocks_back n s h = write_read_all page_size read_block block_bytes block_bytes_back n s h

-- The bytes of a list of pages with page p set are a patch.
pub pages_bytes_length : (xs : List Page) → length (pages_bytes xs) ≡ page_size * length xs
pages_bytes_length xs = write_all_length page_size page_bytes page_bytes_length xs

pub pages_bytes_set : (xs : List Page) (p : ℕ) (x : Page) → p < length xs → pages_bytes (set xs p x) ≡ patch (pages_bytes xs) (page_size * p) (page_bytes x)
pages_bytes_set xs p x h = write_all_set page_size page_bytes page_bytes_length xs p x h

-- Pages that fit are read back from their bytes.
pub pages_back : (xs : List Page) → All Fits xs → pages_of (length xs) (pages_bytes xs) ≡ xs
pages_back xs w = read_write_all page_size page_fields page_bytes page_bytes_length xs (all_map page_fields_back xs w)
