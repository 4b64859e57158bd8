use Rattle.std.specs.Prelude.{◌≡◌, drop}
use Rattle.words.specs.Choice.{every}
use Rattle.memory_region.specs.Region.{ends_inside}
use Rattle.memory_map.proofs.map.all_end_inside.Given as goal

abbrev pub invariant-loop-region : goal.invariant-loop-region
invariant-loop-region l = every (ends_inside l.size) (drop l.region-index l.regions) ≡ every (ends_inside l.size) l.regions
