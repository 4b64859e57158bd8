use mathlib.Core.Path.{◌≡◌}
use lib.ListN.{length}
use Rattle.comparison.specs.Lines.Stretches.{Written}
use Rattle.comparison.proofs.lines.put_stretches.Given as goal

abbrev pub invariant-loop-i : goal.invariant-loop-i
invariant-loop-i l = (length l.text ≡ length l.initial.text) × Written l.initial.text l.stretches l.i l.text
