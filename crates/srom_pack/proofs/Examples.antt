-- Computed examples of serial ROM images (paper 01, "Bench pieces with known weight").
use Rattle.std.specs.Prelude.{◌≡◌, refl, List, [], ◌∷◌, ℕ, replicate}
use Rattle.plan.specs.Plan.{put, fill, run}
use Rattle.plan.specs.Packed.{refuses, packs}
use Rattle.srom_pack.specs.Image.{srom_image, block_at, pack_srom}
use Rattle.srom_pack.specs.Open as group

record Images : Type 0 where
  pub empty : srom_image [] ≡ 0x55 ∷ 0xff ∷ []
  pub one-fill : srom_image (fill 0xf5007fe0 4 0x01020304 ∷ []) ≡ 0x55 ∷ 0x3a ∷ 0x00 ∷ 0x01 ∷ 0xf5 ∷ 0x00 ∷ 0x7f ∷ 0xe0 ∷ 0x01 ∷ 0x02 ∷ 0x03 ∷ 0x04 ∷ 0xff ∷ []
  pub put-and-run : srom_image (put 0x100 (1 ∷ 2 ∷ 3 ∷ 4 ∷ []) ∷ run 0x101 ∷ [])
      ≡ 0x55 ∷ 0x3a ∷ 0 ∷ 1 ∷ 0 ∷ 0 ∷ 1 ∷ 0 ∷ 4 ∷ 3 ∷ 2 ∷ 1 ∷ 0x3a ∷ 0 ∷ 0 ∷ 0 ∷ 0 ∷ 1 ∷ 1 ∷ 0xff ∷ []
  -- pieces stay in plan order
  pub plan-order : srom_image (fill 8 4 0 ∷ fill 4 4 0 ∷ []) ≡ 0x55 ∷ 0x3a ∷ 0 ∷ 1 ∷ 0 ∷ 0 ∷ 0 ∷ 8 ∷ 0 ∷ 0 ∷ 0 ∷ 0 ∷ 0x3a ∷ 0 ∷ 1 ∷ 0 ∷ 0 ∷ 0 ∷ 4 ∷ 0 ∷ 0 ∷ 0 ∷ 0 ∷ 0xff ∷ []
  pub second_block : block_at (fill 8 4 0 ∷ fill 4 4 0 ∷ []) 1 ≡ 12
  pub end-byte : block_at (fill 8 4 0 ∷ fill 4 4 0 ∷ []) 2 ≡ 23

images : Images
unfolding group.image
images = record { empty = refl; one-fill = refl; put-and-run = refl; plan-order = refl; second_block = refl; end-byte = refl }

-- a plan of one put of 20 bytes, whose data stands behind the table
twenty : List ℕ
twenty =
    1 ∷ 0 ∷ 0 ∷ 0 ∷ 16 ∷ 0 ∷ 0 ∷ 0 ∷ 32 ∷ 0 ∷ 0 ∷ 0 ∷ 20 ∷ 0 ∷ 0 ∷ 0 ∷ 1 ∷ 0 ∷ 0 ∷ 0 ∷ 0 ∷ 1 ∷ 0 ∷ 0 ∷ 20 ∷ 0 ∷ 0 ∷ 0 ∷ 0 ∷ 0 ∷ 0 ∷ 0
    ∷ replicate 20 7

record Packings : Type 0 where
  -- no padding
  pub as_long : pack_srom twenty 29 ≡ packs (srom_image (put 256 (replicate 20 7) ∷ []))
  pub too_small : pack_srom twenty 28 ≡ refuses 10 1

packings : Packings
unfolding twenty group.image
packings = record { as_long = refl; too_small = refl }
