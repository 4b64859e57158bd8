use Rattle.std.specs.Prelude.{◌≡◌, drop}
use Rattle.words.specs.Choice.{every}
use Rattle.memory_region.specs.Region.{clear}
use Rattle.memory_map.proofs.map.is_clear_of.Given as goal

abbrev pub invariant-loop-other : goal.invariant-loop-other
invariant-loop-other l = every (clear l.region) (drop l.other-index l.others) ≡ every (clear l.region) l.others
