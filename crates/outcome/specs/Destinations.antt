-- The destinations of a load, and how many bytes it stores (paper 01, "APLX", last paragraph).
use Rattle.std.specs.Prelude.{List, [], ◌∷◌, ℕ, ◌+◌}

-- a destination: so many addresses from one on
pub record Range : Type 0 where
  pub address : ℕ
  pub length : ℕ

-- "how many bytes it stored, each byte counted every time it is stored": by the load's destinations, one for each time
unfoldable pub stored_in : List Range → ℕ
stored_in [] = 0
stored_in (r ∷ rs) = r.length + stored_in rs
