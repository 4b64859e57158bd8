-- `words::range::share` meets its contract: the tests by differences are the tests by sums.
use Rattle.std.proofs.Common.{arith}
use Rattle.std.proofs.lemmas.Grind.{common_steps}
use Rattle.words.specs.Range.{meets}
use Rattle.words.proofs.range.share.Goals as goal

pub returns-then-k-ne0 : goal.returns-then-k-ne0
unfolding meets
returns-then-k-ne0 c = grind (arith, common_steps)

pub returns-else-k-ne0 : goal.returns-else-k-ne0
unfolding meets
returns-else-k-ne0 c = grind (arith, common_steps)

pub returns-then-n-ne0 : goal.returns-then-n-ne0
unfolding meets
returns-then-n-ne0 c = grind (arith, common_steps)

pub returns-else-n-ne0 : goal.returns-else-n-ne0
unfolding meets
returns-else-n-ne0 c = grind (arith, common_steps)
