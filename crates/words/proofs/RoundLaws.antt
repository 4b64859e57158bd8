-- Laws of rounding.
use Rattle.std.specs.Prelude.{◌≡◌, refl, ℕ, ◌+◌, ◌%◌, ◌≤◌, ◌<◌}
use native.Mathlib.Omega.{arith}
use Rattle.words.specs.Round.{round_up}

module _ (n : ℕ) where
  pub round-multiple : round_up n % 32 ≡ 0
  unfolding round_up
  round-multiple = omega arith

  pub round-low : n ≤ round_up n
  unfolding round_up
  round-low = omega arith

  pub round-high : round_up n < n + 32
  unfolding round_up
  round-high = omega arith

  pub round_whole : n % 32 ≡ 0 → round_up n ≡ n
  unfolding round_up
  round_whole h = omega arith

-- worked examples
pub record Examples : Type 0 where
  pub none : round_up 0 ≡ 0
  pub one : round_up 1 ≡ 32
  pub whole : round_up 32 ≡ 32
  pub over : round_up 33 ≡ 64
  pub longest : round_up 4294967295 ≡ 4294967296

pub examples : Examples
unfolding round_up
examples = record { none = refl; one = refl; whole = refl; over = refl; longest = refl }
