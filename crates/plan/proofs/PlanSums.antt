-- The sums of the lengths of pieces that a plan may have.
use Rattle.std.specs.Prelude.{List, [], ◌∷◌, ℕ, ◌+◌, ◌*◌, ◌≤◌, length}
use Rattle.std.proofs.Common.{arith}
use Rattle.words.specs.Choice.{All}
use Rattle.plan.specs.Plan.{Piece, put, fill, run, put_bytes, fill_bytes}
use Rattle.plan.specs.Packable.{Packable}

pub bytes_most : (unit : ℕ) (ps : List Piece) → All (Packable unit) ps → put_bytes ps + fill_bytes ps ≤ 65536 * length ps
unfolding put_bytes fill_bytes
bytes_most unit [] g = omega arith
bytes_most unit (put a d ∷ ps) g = omega (arith, g.0.most, bytes_most unit ps g.1)
bytes_most unit (fill a n w ∷ ps) g = omega (arith, g.0.0.most, bytes_most unit ps g.1)
bytes_most unit (run a ∷ ps) g = omega (arith, bytes_most unit ps g.1)
