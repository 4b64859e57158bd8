-- `memory_region::region::Region::follows` meets its contract: the tests are those of the definition.
use Rattle.std.proofs.Common.{arith}
use Rattle.std.proofs.lemmas.Grind.{common_steps}
use Rattle.memory_region.specs.Region.Follows.{follows}
use Rattle.memory_region.proofs.region.Region.follows.Goals as goal

pub returns-then-ends_inside : goal.returns-then-ends_inside
unfolding follows
returns-then-ends_inside c = grind (arith, common_steps)

pub returns-else-ends_inside : goal.returns-else-ends_inside
unfolding follows
returns-else-ends_inside c = grind (arith, common_steps)
