-- Laws of outcomes: what the outcome of a load says of its memory.
use Rattle.std.specs.Prelude.{◌≡◌, refl, List, ℕ}
use Rattle.std.proofs.Common.{arith}
use Rattle.outcome.specs.Outcome.{Stop, refused, accepted, Ending, stops, refuses, outcome_at, ending_of, memory_at}

pub ending_at : (x : Ending) (t b : ℕ) → ending_of (outcome_at x t b) ≡ x
ending_at (stops s) t b = refl
ending_at (refuses n p) t b = refl

module _ (t b : ℕ) (old new : List ℕ) where
  -- a refused load leaves the old memory
  pub refused-keeps : (x : Ending) {n p : ℕ} → outcome_at x t b ≡ refused n p → memory_at x old new ≡ old
  refused-keeps (stops s) e = let z : ◌≡◌ {A = ℕ} 0 1 = cc in absurd (omega arith)
  refused-keeps (refuses n p) e = refl

  -- an accepted load leaves the new one
  pub accepted-leaves : (x : Ending) {s : Stop} {u v : ℕ} → outcome_at x t b ≡ accepted s u v → memory_at x old new ≡ new
  accepted-leaves (stops s) e = refl
  accepted-leaves (refuses n p) e = let z : ◌≡◌ {A = ℕ} 0 1 = cc in absurd (omega arith)
