-- Computed examples of APLX images (paper 01, "Bench pieces with known weight").
use Rattle.std.specs.Prelude.{◌≡◌, refl, List, [], ◌∷◌, ℕ, length, take, drop, replicate}
use Rattle.plan.specs.Plan.{put, fill, run}
use Rattle.plan.specs.Packed.{refuses, packs}
use Rattle.aplx_pack.specs.Image.{aplx_image, pack_aplx}
use Rattle.aplx_pack.specs.Open as group

record Images : Type 0 where
  pub empty : aplx_image [] ≡ 0xff ∷ 0xff ∷ 0xff ∷ 0xff ∷ replicate 12 0
  pub fill-and-run : aplx_image (fill 0x00400000 32 0 ∷ run 0 ∷ [])
      ≡ 3 ∷ 0 ∷ 0 ∷ 0 ∷ 0 ∷ 0 ∷ 0x40 ∷ 0 ∷ 0x20 ∷ 0 ∷ 0 ∷ 0 ∷ 0 ∷ 0 ∷ 0 ∷ 0
      ∷ 4 ∷ 0 ∷ 0 ∷ 0 ∷ 0 ∷ 0 ∷ 0 ∷ 0 ∷ 0 ∷ 0 ∷ 0 ∷ 0 ∷ 0 ∷ 0 ∷ 0 ∷ 0
      ∷ 0xff ∷ 0xff ∷ 0xff ∷ 0xff ∷ 0 ∷ 0 ∷ 0 ∷ 0 ∷ 0 ∷ 0 ∷ 0 ∷ 0 ∷ 0 ∷ 0 ∷ 0 ∷ 0 ∷ []
  pub put-entry : take 16 (aplx_image (put 0 (replicate 32 7) ∷ run 0 ∷ [])) ≡ 2 ∷ 0 ∷ 0 ∷ 0 ∷ 0 ∷ 0 ∷ 0 ∷ 0 ∷ 0x30 ∷ 0 ∷ 0 ∷ 0 ∷ 0x20 ∷ 0 ∷ 0 ∷ 0 ∷ []
  pub put-length : length (aplx_image (put 0 (replicate 32 7) ∷ run 0 ∷ [])) ≡ 80
  pub put-data : drop 48 (aplx_image (put 0 (replicate 32 7) ∷ run 0 ∷ [])) ≡ replicate 32 7
  -- the second put's data lies behind the first's: 32 bytes of entries and 32 of data behind its entry
  pub second-put : take 4 (drop 24 (aplx_image (put 0 (replicate 32 7) ∷ put 64 (replicate 32 8) ∷ []))) ≡ 0x40 ∷ 0 ∷ 0 ∷ 0 ∷ []

images : Images
unfolding group.image
images = record { empty = refl; fill-and-run = refl; put-entry = refl; put-length = refl; put-data = refl; second-put = refl }

-- a plan of one put of n bytes, below 256, whose data stands behind the table
one-put : ℕ → List ℕ
one-put n =
    1 ∷ 0 ∷ 0 ∷ 0 ∷ 16 ∷ 0 ∷ 0 ∷ 0 ∷ 32 ∷ 0 ∷ 0 ∷ 0 ∷ n ∷ 0 ∷ 0 ∷ 0 ∷ 1 ∷ 0 ∷ 0 ∷ 0 ∷ 0 ∷ 1 ∷ 0 ∷ 0 ∷ n ∷ 0 ∷ 0 ∷ 0 ∷ 0 ∷ 0 ∷ 0 ∷ 0
    ∷ replicate n 7

record Packings : Type 0 where
  pub as_long : pack_aplx (one-put 32) 64 ≡ packs (aplx_image (put 256 (replicate 32 7) ∷ []))
  pub too_small : pack_aplx (one-put 32) 63 ≡ refuses 10 1
  -- no padding
  pub twenty : pack_aplx (one-put 20) 64 ≡ refuses 12 0

packings : Packings
unfolding one-put group.image
packings = record { as_long = refl; too_small = refl; twenty = refl }
