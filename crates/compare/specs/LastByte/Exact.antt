-- Whether pieces store a byte at an address.
use Rattle.std.specs.Prelude.{Bool, false, ◌||◌, List, [], ◌∷◌, ℕ}
use Rattle.plan.specs.Plan.{Piece}
use Rattle.compare.specs.LastByte.{covers}

-- one of the pieces covers address x
unfoldable pub stores_at : List Piece → ℕ → Bool
stores_at [] x = false
stores_at (p ∷ ps) x = covers p x || stores_at ps x
