use mathlib.Core.Path.{◌≡◌}
use Prim.Native.Nat.{◌+◌, ◌-◌, ◌*◌, ◌≤◌}
use Rattle.plan.specs.Code.{outcome_of}
use Rattle.plan.proofs.CodeCounting.{outcome_after}
use Rattle.aplx_read.specs.ReadBack.{read_entries, read_image}
use Rattle.aplx_read.proofs.image.read.Given as goal

abbrev pub invariant-loop-i : goal.invariant-loop-i
invariant-loop-i l = (outcome_after l.i l.puts l.fills (read_entries l.image (65 - l.i) l.i) ≡ outcome_of (read_image l.image)) × (l.puts + l.fills ≤ 65536 * l.i)
