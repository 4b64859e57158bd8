use mathlib.Core.Path.{◌≡◌}
use Prim.Native.Nat.{◌+◌, ◌-◌, ◌*◌, ◌/◌}
use Rattle.aplx_copy.specs.Copy.{copy_words}
use Rattle.aplx_copy.proofs.copy.copy_words.Given as goal

abbrev pub invariant-loop-i : goal.invariant-loop-i
invariant-loop-i l = copy_words (l.size / 4 - l.i) (l.to + 4 * l.i) (l.from + 4 * l.i) l.memory ≡ copy_words (l.size / 4) l.to l.from l.initial.memory
