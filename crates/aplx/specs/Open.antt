-- A group of definitions that computed examples open together: `unfolding NAME` opens all in the line under NAME. Not needed for belief.
use Rattle.word_blocks.specs.Open.{rows}
use Rattle.aplx_copy.specs.Open.{copies}
use Rattle.aplx_look.specs.Open.{looks}
use Rattle.aplx.specs.Load.{perform, perform_all, load_with}

-- the load of entries in memory
unfoldable pub load : Unit {0}
unfolding rows copies looks load_with perform perform_all
load = tt
