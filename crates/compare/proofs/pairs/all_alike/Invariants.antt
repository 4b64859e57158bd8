use Rattle.std.proofs.Common.{◌≡◌, true, ℕ, ◌≤◌, ◌<◌}
use Rattle.compare.specs.Code.Pairs.{Pair}
use Rattle.compare.proofs.pairs.all_alike.Given as goal

abbrev pub invariant-loop-k : goal.invariant-loop-k
invariant-loop-k g l = l.all ≡ true → (y : ℕ) → l.at ≤ y → y < l.k → Pair (goal.F-post g l.old) (goal.G-post g l.new) l.same y
