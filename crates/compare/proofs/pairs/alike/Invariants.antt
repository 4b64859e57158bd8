use Rattle.std.proofs.Common.{◌-◌, ◌≤◌}
use Rattle.compare.specs.Code.Pairs.{PairsBelow}
use Rattle.compare.proofs.pairs.alike.Given as goal

abbrev pub invariant-loop-k : goal.invariant-loop-k
invariant-loop-k g l = (l.k ≤ l.size) × PairsBelow (goal.F-post g l.old) (goal.G-post g l.new) l.same l.k

abbrev pub decreases-loop-k : goal.decreases-loop-k
decreases-loop-k g l = l.size - l.k

abbrev pub invariant-loop-j : goal.invariant-loop-j
invariant-loop-j g l = PairsBelow (goal.F-post g l.old) (goal.G-post g l.new) l.same l.j
