-- Pairs of bytes, each given by what a call at an index may answer.
use Rattle.std.specs.Prelude.{◌≡◌, Bool, ℕ, ◌<◌, eqb}

-- the two answers at index k are equal, or are not, as asked
pub record Pair (old new : ℕ → ℕ → Type 0) (same : Bool) (k : ℕ) : Type 0 where
  pub old-byte : ℕ
  pub new-byte : ℕ
  pub is-old : old k old-byte
  pub is-new : new k new-byte
  pub alike : eqb old-byte new-byte ≡ same

-- so are those at all indices below n
abbrev pub PairsBelow : (ℕ → ℕ → Type 0) → (ℕ → ℕ → Type 0) → Bool → ℕ → Type 0
PairsBelow old new same n = (k : ℕ) → k < n → Pair old new same k
