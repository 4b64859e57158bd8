use mathlib.Core.Path.{◌≡◌}
use mathlib.Core.List.{List}
use Prim.Native.Nat.{ℕ, ◌*◌}
use lib.ListN.{drop}
use Rattle.words.specs.Equal.{same}
use Rattle.words.proofs.equal.equal.Given as goal

-- what is left from k on decides
abbrev pub Left : List ℕ → List ℕ → ℕ → Type 0
Left a b k = same a b ≡ same (drop k a) (drop k b)

abbrev pub invariant-loop-i : goal.invariant-loop-i
invariant-loop-i l = Left l.a l.b (32 * l.i)

abbrev pub invariant-loop-k : goal.invariant-loop-k
invariant-loop-k l = Left l.a l.b l.k
