-- `memory_region::region::Region::keeps_rules` meets its contract: the tests are those of the definition.
use Rattle.std.proofs.Common.{arith}
use Rattle.std.proofs.lemmas.Grind.{common_steps}
use Rattle.memory_region.specs.Region.{keeps_rules}
use Rattle.memory_region.proofs.region.Region.keeps_rules.Goals as goal

pub returns-then-length-le16777216 : goal.returns-then-length-le16777216
unfolding keeps_rules
returns-then-length-le16777216 c = grind (arith, common_steps)

pub returns-else-length-le16777216 : goal.returns-else-length-le16777216
unfolding keeps_rules
returns-else-length-le16777216 c = grind (arith, common_steps)
