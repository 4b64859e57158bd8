-- The APLX image of a list of pieces (paper 01, "Plans", last paragraph), and what packing a plan gives.
use Rattle.std.specs.Prelude.{List, [], ◌∷◌, ◌++◌, ℕ, suc, ◌+◌, ◌*◌, length}
use Rattle.words.specs.Four.{four_bytes}
use Rattle.plan.specs.Plan.{Piece, put, fill, run, data_of, datas, read_plan}
use Rattle.plan.specs.Packed.{Packed, packed_as}

-- "one entry per piece in plan order (RCOPY, FILL, EXEC; unused words zero)"; the data of a put lies off bytes behind its entry's start
unfoldable pub entry_of : Piece → ℕ → List ℕ
entry_of (put a d) off = four_bytes 2 a off (length d)
entry_of (fill a n w) off = four_bytes 3 a n w
entry_of (run a) off = four_bytes 4 a 0 0

-- the entries of pieces, and "an end entry of 0xFFFFFFFF and three zeros". Behind the first entry come those of the other pieces, the
-- end entry, and so many bytes of data of earlier pieces
unfoldable pub entries : ℕ → List Piece → List ℕ
entries earlier [] = four_bytes 0xffffffff 0 0 0
entries earlier (p ∷ ps) = entry_of p (16 * suc (suc (length ps)) + earlier) ++ entries (earlier + length (data_of p)) ps

-- "then the data of the puts in order"
unfoldable pub aplx_image : List Piece → List ℕ
aplx_image ps = entries 0 ps ++ datas ps

-- what packing a plan gives, for an output of n bytes
unfoldable pub pack_aplx : List ℕ → ℕ → Packed
pack_aplx s n = packed_as aplx_image (read_plan 32 s) n
