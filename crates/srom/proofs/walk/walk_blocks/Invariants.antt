use mathlib.Core.Path.{◌≡◌}
use Prim.Native.Nat.{◌-◌, ◌≤◌}
use lib.ListN.{length}
use Rattle.srom.proofs.Loops.{counted}
use Rattle.srom.specs.Load.{outcome_of_walk}
use Rattle.srom.specs.Walk.{walk}
use Rattle.memory_map.specs.Lookup.{lookup}
use Rattle.srom.proofs.walk.walk_blocks.Given as goal

abbrev pub invariant-loop-from : goal.invariant-loop-from
invariant-loop-from l = (counted l.taken l.stored (walk (lookup l.rom.map) l.rom.bytes.now l.next) ≡ outcome_of_walk (walk (lookup l.rom.map) l.rom.bytes.now l.offset)) × (l.taken ≤ l.next) × (l.stored ≤ l.next)

abbrev pub decreases-loop-from : goal.decreases-loop-from
decreases-loop-from l = length l.rom.bytes.now - l.next
