-- `memory_region::region::Region::permits` meets its contract: the tests are those of the definition.
use Rattle.std.proofs.Common.{arith}
use Rattle.std.proofs.lemmas.Grind.{common_steps}
use Rattle.memory_region.specs.Region.{permits}
use Rattle.memory_region.proofs.region.Region.permits.Goals as goal

pub returns-then-length-end : goal.returns-then-length-end
unfolding permits
returns-then-length-end c = grind (arith, common_steps)

pub returns-else-length-end : goal.returns-else-length-end
unfolding permits
returns-else-length-end c = grind (arith, common_steps)
