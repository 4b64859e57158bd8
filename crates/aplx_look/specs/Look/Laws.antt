-- What the laws of the look say of entries that passed all tests.
use Rattle.std.specs.Prelude.{◌≡◌, true, false, List, ℕ, suc, ◌+◌, ◌*◌, ◌<◌}
use Rattle.memory_region.specs.declared.region.Right.TheVariants.{Read, Write}
use Rattle.memory_map.specs.Lookup.{Lookup, found, place_of}
use Rattle.aplx_command.specs.Command.{Command, copy, fill, exec, other, command_at}
use Rattle.aplx_look.specs.Walk.Laws.{Passed}
use Rattle.aplx_look.specs.Look.{meets_header}

-- k entries from address h on passed their tests, and no destination meets one of them or the stop's
pub record Ready (find : Lookup) (m : List ℕ) (h k : ℕ) : Type 0 where
  pub passed : Passed find m h k
  pub clear : (j : ℕ) → j < k → meets_header h (16 * suc k) (command_at m (place_of (find Read (h + 16 * j) 16)) (h + 16 * j)) ≡ false

-- the ranges of a command are permitted
abbrev pub Permitted : Lookup → Command → Type 0
Permitted find (copy d s n) = (found (find Write d n) ≡ true) × (found (find Read s n) ≡ true)
Permitted find (fill d n w) = found (find Write d n) ≡ true
Permitted find (exec x) = Unit {0}
Permitted find (other c) = Unit {0}
