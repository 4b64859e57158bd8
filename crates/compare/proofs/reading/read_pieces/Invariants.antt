use mathlib.Core.Path.{◌≡◌}
use Prim.Native.Nat.{◌-◌}
use Rattle.compare.specs.Reading.{compared_pieces}
use Rattle.compare.specs.Code.{reading_of}
use Rattle.compare.proofs.CodeAnswers.{reading_after}
use Rattle.compare.proofs.reading.read_pieces.Given as goal

abbrev pub invariant-loop-i : goal.invariant-loop-i
invariant-loop-i l = reading_after l.i (compared_pieces l.plan (l.count - l.i) l.i) ≡ reading_of (compared_pieces l.plan l.count 0)
