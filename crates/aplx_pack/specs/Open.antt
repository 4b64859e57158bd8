-- Groups of definitions that computed examples open together: `unfolding NAME` opens all in the line under NAME. Not needed for belief.
use Rattle.plan.specs.Open.{reader}
use Rattle.plan.specs.Plan.{datas}
use Rattle.aplx_pack.specs.Image.{entry_of, entries, aplx_image, pack_aplx}

-- the image of a plan, and the packer
unfoldable pub image : Unit {0}
unfolding reader pack_aplx aplx_image entries entry_of datas
image = tt
