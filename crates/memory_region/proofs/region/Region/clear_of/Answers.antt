-- `memory_region::region::Region::clear_of` meets its contract: the tests are those of the definition.
use Rattle.std.proofs.Common.{arith}
use Rattle.std.proofs.lemmas.Grind.{common_steps}
use Rattle.memory_region.specs.Region.{clear}
use Rattle.memory_region.proofs.region.Region.clear_of.Goals as goal

pub returns-then-apart : goal.returns-then-apart
unfolding clear
returns-then-apart c = grind (arith, common_steps)

pub returns-else-apart : goal.returns-else-apart
unfolding clear
returns-else-apart c = grind (arith, common_steps)
