use Rattle.std.specs.Prelude.{◌≡◌, drop}
use Rattle.memory_map.specs.Lookup.{lookup_in}
use Rattle.memory_map.proofs.map.Map.lookup.Given as goal

abbrev pub invariant-loop-region : goal.invariant-loop-region
invariant-loop-region l = lookup_in (drop l.region-index l.region-items) l.right l.address l.length ≡ lookup_in l.region-items l.right l.address l.length
