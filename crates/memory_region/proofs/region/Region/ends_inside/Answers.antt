-- `memory_region::region::Region::ends_inside` meets its contract.
use mathlib.Core.Path.{refl}
use Rattle.memory_region.specs.Region.{ends_inside}
use Rattle.memory_region.proofs.region.Region.ends_inside.Goals as goal

pub returns : goal.returns
unfolding ends_inside
returns c = refl
