use Prim.Native.Nat.{◌≤◌}
use mathlib.Core.Path.{◌≡◌}
use lib.ListN.{take, drop}
use Rattle.words.specs.Equal.{same}
use Rattle.words.proofs.equal.equal_at_once.Given as goal

abbrev pub invariant-loop-k : goal.invariant-loop-k
invariant-loop-k l = l.all ≡ same (take l.k (drop l.at l.a)) (take l.k (drop l.at l.b))
