-- Steps of the loop over the pieces.
use mathlib.Core.Path.{◌≡◌}
use mathlib.Core.List.{List}
use Prim.Native.Nat.{ℕ, ◌+◌, ◌-◌, ◌≤◌, ◌<◌}
use lib.ListN.{length}
use Rattle.plan.specs.Plan.{data_of, filled_by, Row, piece_in, good, bad, piece_at, read_pieces}
use Rattle.plan.proofs.PlanSteps.{read-good, read-bad, read-end}
use Rattle.plan.specs.Code.{refuses, reads}
use Rattle.plan.proofs.CodeCounting.{outcome_after, after-piece, after-all}

-- reading k pieces, at the piece with index i
module _ (unit : ℕ) (s : List ℕ) (k i p f : ℕ) where
  pub counts-good : {row : Row} → i < k → piece_at unit s i ≡ good row → let q = piece_in s row in
      outcome_after i p f (read_pieces unit s (k - i) i) ≡ outcome_after (i + 1) (p + length (data_of q)) (f + filled_by q) (read_pieces unit s (k - (i + 1)) (i + 1))
  counts-good {row} h e = rw (read-good unit s k i h e) (after-piece i p f (piece_in s row) (read_pieces unit s (k - (i + 1)) (i + 1)))

  pub counts-bad : {n : ℕ} → i < k → piece_at unit s i ≡ bad n → outcome_after i p f (read_pieces unit s (k - i) i) ≡ refuses n i
  counts-bad h e = rw (read-bad unit s k i h e)

  pub counts_end : k ≤ i → outcome_after i p f (read_pieces unit s (k - i) i) ≡ reads i p f
  counts_end h = rw (read-end unit s k i h) (after-all i p f)
