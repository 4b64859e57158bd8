-- Groups of definitions that computed examples open together: `unfolding NAME` opens all in the line under NAME. Not needed for belief.
use Rattle.word_blocks.specs.Open.{rows}
use Rattle.plan.specs.Open.{reader}
use Rattle.srom_pack.specs.Image.{block, block_of, blocks, srom_image, block_at, pack_srom}

-- the image of a plan, and the packer
unfoldable pub image : Unit {0}
unfolding rows reader pack_srom srom_image blocks block_of block block_at
image = tt
