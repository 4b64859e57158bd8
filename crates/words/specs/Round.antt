-- Lengths rounded up to a multiple of 32.
use Rattle.std.specs.Prelude.{ℕ, ◌+◌, ◌*◌, ◌/◌}

unfoldable pub round_up : ℕ → ℕ
round_up n = (n + 31) / 32 * 32
