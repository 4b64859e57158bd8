use mathlib.Core.Path.{◌≡◌}
use Prim.Native.Nat.{◌-◌}
use lib.ListN.{length}
use Rattle.srom.specs.Load.{store_blocks}
use Rattle.srom.specs.Walk.{walk}
use Rattle.memory_map.specs.Lookup.{lookup}
use Rattle.srom.proofs.store.store_blocks.Given as goal

abbrev pub invariant-loop-item : goal.invariant-loop-item
invariant-loop-item l = (store_blocks (walk (lookup l.rom.map) l.rom.bytes.now l.next).blocks l.memory ≡ store_blocks (walk (lookup l.rom.map) l.rom.bytes.now l.offset).blocks l.initial.memory) × (length l.memory ≡ length l.initial.memory)

abbrev pub decreases-loop-item : goal.decreases-loop-item
decreases-loop-item l = length l.rom.bytes.now - l.next
