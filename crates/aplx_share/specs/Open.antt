-- Groups of definitions that computed examples open together: `unfolding NAME` opens all in the line under NAME. Not needed for belief.
use Rattle.words.specs.Equal.{same}
use Rattle.aplx_pack.specs.Open as PackGroup
use Rattle.aplx_share.specs.Contents.{contents, is_among, without, different, joined, total_length, place}
use Rattle.aplx_share.specs.SharedImage.{shared_entries, shared_image, pack_shared}

-- the image of a plan, and the packer
unfoldable pub image : Unit {0}
unfolding PackGroup.image same contents is_among without different joined total_length place shared_entries shared_image pack_shared
image = tt
