-- Groups of definitions that computed examples open together: `unfolding NAME` opens all in the line under NAME. Not needed for belief.
use Rattle.word_blocks.specs.Open.{rows}
use Rattle.outcome.specs.Destinations.{stored_in}
use Rattle.memory_map.specs.Open.{lookups}
use Rattle.srom.specs.Walk.{data_block, block_at, item_at, walk_for, walk}
use Rattle.srom.specs.Load.{destinations, store_blocks, look, load_with}

-- the load of a slice
unfoldable pub load : Unit {0}
unfolding rows lookups load_with look store_blocks destinations stored_in walk walk_for item_at block_at data_block
load = tt
