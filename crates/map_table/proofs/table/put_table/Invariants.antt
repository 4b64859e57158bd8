use Rattle.std.proofs.Common.{◌≡◌, take}
use Rattle.words.specs.Store.{store}
use Rattle.map_table.specs.Table.{regions_bytes}
use Rattle.map_table.proofs.table.put_table.Given as goal

abbrev pub invariant-loop-i : goal.invariant-loop-i
invariant-loop-i l = l.table ≡ store l.initial.table 4 (regions_bytes (take l.i l.region-items))
