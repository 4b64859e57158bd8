use Rattle.std.specs.Prelude.{◌≡◌, drop}
use Rattle.memory_map.specs.Map.{all_keep_rules}
use Rattle.memory_map.proofs.map.all_clear.Given as goal

abbrev pub invariant-loop-i : goal.invariant-loop-i
invariant-loop-i l = all_keep_rules (drop l.i l.regions) ≡ all_keep_rules l.regions
