-- The serial ROM image of a list of pieces (paper 01, "Plans", last paragraph), and what packing a plan gives.
use Rattle.std.specs.Prelude.{List, [], ◌∷◌, ◌++◌, ℕ, suc, ◌/◌, length, take}
use Rattle.words.specs.Bytes.{big_endian}
use Rattle.word_blocks.specs.Repeat.{filling}
use Rattle.word_blocks.specs.Swap.{swap_words}
use Rattle.plan.specs.Plan.{Piece, put, fill, run, read_plan}
use Rattle.plan.specs.Packed.{Packed, packed_as}

-- start byte, length in words, address, data words; all Big Endian
unfoldable pub block : ℕ → List ℕ → List ℕ
block a d = 0x3a ∷ (big_endian 2 (length d / 4) ++ (big_endian 4 a ++ swap_words d))

-- "one block per piece without pads (fills written out)"; a run is a block of length 0
unfoldable pub block_of : Piece → List ℕ
block_of (put a d) = block a d
block_of (fill a n w) = block a (filling n w)
block_of (run a) = block a []

unfoldable pub blocks : List Piece → List ℕ
blocks [] = []
blocks (p ∷ ps) = block_of p ++ blocks ps

-- "0x55, one block per piece .., 0xFF"
unfoldable pub srom_image : List Piece → List ℕ
srom_image ps = 0x55 ∷ (blocks ps ++ 0xff ∷ [])

-- the offset of the block of piece i; of the 0xFF where i is the count
unfoldable pub block_at : List Piece → ℕ → ℕ
block_at ps i = suc (length (blocks (take i ps)))

-- what packing a plan gives, for an output of n bytes
unfoldable pub pack_srom : List ℕ → ℕ → Packed
pack_srom s n = packed_as srom_image (read_plan 4 s) n
