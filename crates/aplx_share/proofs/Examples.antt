-- Computed examples of images that keep one copy of equal put data (paper 02, C-23).
use Rattle.std.specs.Prelude.{◌≡◌, refl, List, [], ◌∷◌, ◌++◌, ℕ, length, take, drop, replicate}
use Rattle.words.specs.Four.{four_bytes}
use Rattle.plan.specs.Plan.{Piece, put, fill, run}
use Rattle.plan.specs.Packed.{refuses, packs}
use Rattle.aplx_pack.specs.Image.{aplx_image, pack_aplx}
use Rattle.aplx_share.specs.Contents.{kept_contents}
use Rattle.aplx_share.specs.SharedImage.{shared_image, pack_shared}
use Rattle.aplx_share.specs.Open as group

abbrev fives : List ℕ
fives = replicate 32 5

abbrev sixes : List ℕ
sixes = replicate 32 6

-- ---- an image, entry by entry
-- the last put has the first's bytes
unfoldable repeated : List Piece
repeated = put 8192 fives ∷ fill 8224 32 1 ∷ put 8256 sixes ∷ run 8193 ∷ put 8288 fives ∷ []

record Image : Type 0 where
  -- each content where it first appears
  pub kept : kept_contents repeated ≡ fives ∷ sixes ∷ []
  pub shared-length : length (shared_image repeated) ≡ 160
  pub plain-length : length (aplx_image repeated) ≡ 192
  -- the six entries are 96 bytes: the fives lie 96 bytes behind the first entry, and 32 behind the fifth; the sixes 96 behind the third
  pub first-put : take 16 (shared_image repeated) ≡ four_bytes 2 8192 96 32
  pub a-fill : take 16 (drop 16 (shared_image repeated)) ≡ four_bytes 3 8224 32 1
  pub second-put : take 16 (drop 32 (shared_image repeated)) ≡ four_bytes 2 8256 96 32
  pub a-run : take 16 (drop 48 (shared_image repeated)) ≡ four_bytes 4 8193 0 0
  pub later-put : take 16 (drop 64 (shared_image repeated)) ≡ four_bytes 2 8288 32 32
  pub end-and-data : drop 80 (shared_image repeated) ≡ four_bytes 0xffffffff 0 0 0 ++ (fives ++ sixes)

image : Image
unfolding repeated group.image
image = record {
  kept = refl;
  shared-length = refl;
  plain-length = refl;
  first-put = refl;
  a-fill = refl;
  second-put = refl;
  a-run = refl;
  later-put = refl;
  end-and-data = refl;
}

-- ---- which data is shared
record Shared : Type 0 where
  -- three equal puts
  pub thrice : length (shared_image (put 0 fives ∷ put 32 fives ∷ put 64 fives ∷ [])) ≡ 96
  -- not of equal length alone: the last byte is another
  pub last_byte : length (shared_image (put 0 fives ∷ put 32 (replicate 31 5 ++ 6 ∷ []) ∷ [])) ≡ 112
  -- not the beginning of a longer put
  pub beginning : length (shared_image (put 0 (fives ++ sixes) ∷ put 64 fives ∷ [])) ≡ 144
  -- not a fill that stores the same bytes
  pub filled : length (shared_image (fill 0 32 0x05050505 ∷ put 32 fives ∷ [])) ≡ 80
  -- where nothing is shared, the image is the plain one
  pub no-equal : shared_image (put 0 fives ∷ put 32 sixes ∷ []) ≡ aplx_image (put 0 fives ∷ put 32 sixes ∷ [])
  pub no-puts : shared_image (fill 0 32 1 ∷ run 0 ∷ []) ≡ aplx_image (fill 0 32 1 ∷ run 0 ∷ [])
  pub empty : shared_image [] ≡ aplx_image []

shared : Shared
unfolding group.image
shared = record { thrice = refl; last_byte = refl; beginning = refl; filled = refl; no-equal = refl; no-puts = refl; empty = refl }

-- ---- packing
-- a plan of two puts, of 32 and of n bytes, whose data are the same 32 bytes
unfoldable two_puts : ℕ → List ℕ
two_puts n = four_bytes 2 16 48 32 ++ (four_bytes 1 8192 32 0 ++ (four_bytes 1 8224 n 0 ++ fives))

-- the same pieces, each with its own data
unfoldable two_copies : List ℕ
two_copies = four_bytes 2 16 48 64 ++ (four_bytes 1 8192 32 0 ++ (four_bytes 1 8224 32 32 ++ (fives ++ fives)))

abbrev two_pieces : List Piece
two_pieces = put 8192 fives ∷ put 8224 fives ∷ []

record Packings : Type 0 where
  pub as_long : pack_shared (two_puts 32) 80 ≡ packs (shared_image two_pieces)
  pub own-data : pack_shared two_copies 80 ≡ packs (shared_image two_pieces)
  pub too_small : pack_shared (two_puts 32) 79 ≡ refuses 10 2
  -- room for the shared image, and one byte less than for the plain one
  pub between : pack_shared (two_puts 32) 111 ≡ packs (shared_image two_pieces)
  pub plain-too-small : pack_aplx (two_puts 32) 111 ≡ refuses 10 2
  pub plain : pack_aplx (two_puts 32) 112 ≡ packs (aplx_image two_pieces)
  -- no padding
  pub twenty : pack_shared (two_puts 20) 80 ≡ refuses 12 1

packings : Packings
unfolding two_puts two_copies group.image
packings = record { as_long = refl; own-data = refl; too_small = refl; between = refl; plain-too-small = refl; plain = refl; twenty = refl }
