-- `memory_region::region::apart` meets its contract: one range ends where the other begins, or before, or one is empty; else they share a number.
use Rattle.std.proofs.Common.{arith}
use Rattle.std.proofs.lemmas.Grind.{common_steps}
use Rattle.words.specs.Range.{meets}
use Rattle.memory_region.proofs.region.apart.Goals as goal

pub returns-then-n-eq0 : goal.returns-then-n-eq0
unfolding meets
returns-then-n-eq0 c = grind (arith, common_steps)

pub returns-else-n-eq0 : goal.returns-else-n-eq0
unfolding meets
returns-else-n-eq0 c = grind (arith, common_steps)
