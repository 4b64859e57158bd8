-- Ranges of numbers: n numbers from a on.
use Rattle.std.specs.Prelude.{Bool, ◌&&◌, ℕ, ◌+◌, ltb}

-- the n numbers from a on and the k numbers from b on share a number
unfoldable pub meets : ℕ → ℕ → ℕ → ℕ → Bool
meets a n b k = ltb 0 n && ltb 0 k && ltb a (b + k) && ltb b (a + n)
