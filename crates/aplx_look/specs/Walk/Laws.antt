-- What the laws of the walk over the entries say of entries that passed.
use Rattle.std.specs.Prelude.{◌≡◌, List, ℕ, ◌+◌, ◌*◌, ◌<◌}
use Rattle.memory_map.specs.Lookup.{Lookup}
use Rattle.aplx_look.specs.Walk.{goes, judge}

-- k entries from address h on passed their tests
abbrev pub Passed : Lookup → List ℕ → ℕ → ℕ → Type 0
Passed find m h k = (j : ℕ) → j < k → judge find m (h + 16 * j) j ≡ goes
