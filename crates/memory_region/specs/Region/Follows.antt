-- A region behind others, as the code tests regions that ascend. Not needed for belief.
use Rattle.std.specs.Prelude.{Bool, ◌&&◌, ℕ, leb}
use Rattle.memory_region.specs.declared.region.Region.{Region}
use Rattle.memory_region.specs.Region.{keeps_rules, ends_inside}

-- the region keeps its rules, begins at or behind address a and place p, and ends inside a buffer of n bytes
unfoldable pub follows : ℕ → ℕ → ℕ → Region → Bool
follows n a p g = leb a g.base && leb p g.place && ends_inside n g && keeps_rules g
