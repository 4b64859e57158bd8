-- Which pieces can be packed for a medium whose lengths are multiples of a unit (paper 01, "Plans"): those whose address,
-- length and word pass the tests of one piece. Where a put's data stands is the plan's matter.
use Rattle.std.specs.Prelude.{◌≡◌, ℕ, ◌%◌, ◌≤◌, ◌<◌, length}
use Rattle.plan.specs.Plan.{Piece, put, fill, run}

-- "Put and fill: 5; length over 65,536, 11; address not a multiple of 4, 3" .. "length not a multiple of 32 (APLX) or 4 (SROM), 12": an
-- address, which has 32 bits, and a length
pub record Sized (unit a n : ℕ) : Type 0 where
  pub some : 0 < n
  pub most : n ≤ 65536
  pub whole : n % unit ≡ 0
  pub aligned : a % 4 ≡ 0
  pub low : a < 4294967296

-- "Run: .. bits 1:0 = 2, 9."
abbrev pub Packable : ℕ → Piece → Type 0
Packable unit (put a d) = Sized unit a (length d)
Packable unit (fill a n w) = Sized unit a n × (w < 4294967296)
Packable unit (run a) = (a < 4294967296) × (a % 4 ≡ 2 → ⊥)
