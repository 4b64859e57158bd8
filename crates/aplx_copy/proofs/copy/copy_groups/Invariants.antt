use mathlib.Core.Path.{◌≡◌}
use Prim.Native.Nat.{◌+◌, ◌-◌, ◌*◌}
use Rattle.aplx_copy.specs.Copy.{copy_words}
use Rattle.aplx_copy.proofs.copy.copy_groups.Given as goal

abbrev pub invariant-loop-i : goal.invariant-loop-i
invariant-loop-i l = copy_words (8 * (l.count - l.i)) (l.to + 32 * l.i) (l.from + 32 * l.i) l.memory ≡ copy_words (8 * l.count) l.to l.from l.initial.memory
