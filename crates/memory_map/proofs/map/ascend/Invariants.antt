use Rattle.std.specs.Prelude.{◌≡◌, drop}
use Rattle.memory_map.specs.Map.Ascending.{ascending}
use Rattle.memory_map.proofs.map.ascend.Given as goal

abbrev pub invariant-loop-region : goal.invariant-loop-region
invariant-loop-region l = ascending l.size l.address l.place (drop l.region-index l.regions) ≡ ascending l.size 0 0 l.regions
