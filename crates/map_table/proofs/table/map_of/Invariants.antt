use Rattle.std.proofs.Common.{◌≡◌, take, length}
use Rattle.map_table.specs.Table.{regions_in}
use Rattle.map_table.proofs.table.map_of.Given as goal

abbrev pub invariant-loop-i : goal.invariant-loop-i
invariant-loop-i l = (length l.region-items ≡ 8) × (take l.i l.region-items ≡ regions_in l.i l.table 4)
