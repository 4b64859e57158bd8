use mathlib.Core.Path.{◌≡◌}
use lib.ListN.{length, take}
use Rattle.words.proofs.put.copy_all.Given as goal

abbrev pub invariant-loop-i : goal.invariant-loop-i
invariant-loop-i l = (length l.part ≡ length l.initial.part) × (take l.i l.part ≡ take l.i l.source)
