use Rattle.std.proofs.Common.{◌≡◌, ◌-◌}
use Rattle.memory_map.specs.Lookup.{lookup}
use Rattle.aplx_look.specs.Walk.{walk_for, walk}
use Rattle.aplx_look.proofs.walk.walk_entries.Given as goal

abbrev pub invariant-loop-i : goal.invariant-loop-i
invariant-loop-i l = walk_for (256 - l.i) (lookup l.board.map) l.board.memory.now l.address l.i ≡ walk (lookup l.board.map) l.board.memory.now l.header
