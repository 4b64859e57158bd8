use Rattle.std.proofs.Common.{◌≡◌, ◌+◌, ◌-◌, ◌*◌}
use Rattle.map_table.specs.Table.{rights_known}
use Rattle.map_table.proofs.table.rights_known.Given as goal

abbrev pub invariant-loop-i : goal.invariant-loop-i
invariant-loop-i l = rights_known (l.count - l.i) l.table (4 + 16 * l.i) ≡ rights_known l.count l.table 4
