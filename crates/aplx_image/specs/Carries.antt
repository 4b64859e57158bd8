-- What an APLX image has to be, whoever made it (document 002; paper 01, "APLX" and "Plans"): its entries say the pieces in order, then
-- the end, and the data of a put lies where its entry says. No memory and no map; offsets count from the image's first byte.
use Rattle.std.specs.Prelude.{◌≡◌, List, [], ◌∷◌, ℕ, ◌+◌, ◌%◌, ◌≤◌, length, take, drop}
use Rattle.words.specs.Bytes.{little_endian_at}
use Rattle.plan.specs.Plan.{Piece, put, fill, run}

-- "Each command entry contains a command word and three argument words" (002): these four words stand at offset k
pub record EntryAt (image : List ℕ) (k c x y z : ℕ) : Type 0 where
  pub whole : k + 16 ≤ length image
  pub command : little_endian_at 4 image k ≡ c
  pub first : little_endian_at 4 image (k + 4) ≡ x
  pub second : little_endian_at 4 image (k + 8) ≡ y
  pub third : little_endian_at 4 image (k + 12) ≡ z

-- "RCOPY's source is the address of that entry plus the offset, modulo 2^32, so data may lie before": the offset in the image from which the
-- entry at offset k copies
abbrev pub source_of : ℕ → ℕ → ℕ
source_of k offset = (k + offset) % 4294967296

-- "2 RCOPY": destination, offset, length. The data may stand anywhere in the image, over its entries too, and be shared
pub record PutAt (image : List ℕ) (k a : ℕ) (d : List ℕ) : Type 0 where
  pub offset : ℕ
  pub entry : EntryAt image k 2 a offset (length d)
  pub source : ℕ
  pub from-here : source_of k offset ≡ source
  -- "3 (destination, then source, multiples of 4)"
  pub aligned : source % 4 ≡ 0
  pub inside : source + length d ≤ length image
  pub bytes : take (length d) (drop source image) ≡ d

-- "4 EXEC: address."; "`Arg2` and `Arg3` are unused" (002)
pub record RunAt (image : List ℕ) (k a : ℕ) : Type 0 where
  pub second : ℕ
  pub third : ℕ
  pub entry : EntryAt image k 4 a second third

-- "0xFFFFFFFF is reported as the end"; "all arguments are ignored" (002)
pub record EndAt (image : List ℕ) (k : ℕ) : Type 0 where
  pub first : ℕ
  pub second : ℕ
  pub third : ℕ
  pub entry : EntryAt image k 0xffffffff first second third

-- the entry at offset k says the piece. "3 FILL: start, length, word."
abbrev pub Says : List ℕ → ℕ → Piece → Type 0
Says image k (put a d) = PutAt image k a d
Says image k (fill a n w) = EntryAt image k 3 a n w
Says image k (run a) = RunAt image k a

-- "one entry per piece in plan order", "an end entry": from offset k on the image carries these pieces, then the end
abbrev pub Carries : List ℕ → ℕ → List Piece → Type 0
Carries image k [] = EndAt image k
Carries image k (p ∷ ps) = Says image k p × Carries image (k + 16) ps
