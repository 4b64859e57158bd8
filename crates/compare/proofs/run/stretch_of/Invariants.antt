use mathlib.Core.Path.{◌≡◌}
use Prim.Native.Nat.{◌+◌}
use lib.ListN.{length, drop}
use Rattle.plan.specs.Packed.{plan_pieces}
use Rattle.plan.specs.Meaning.{stretch}
use Rattle.compare.specs.Reading.{run_of}
use Rattle.compare.proofs.run.stretch_of.Given as goal

abbrev pub invariant-loop-i : goal.invariant-loop-i
invariant-loop-i l = (l.i + length (stretch (drop l.i (plan_pieces 1 l.plan))) ≡ length (stretch (plan_pieces 1 l.plan))) × (run_of (drop l.i (plan_pieces 1 l.plan)) ≡ run_of (plan_pieces 1 l.plan))
