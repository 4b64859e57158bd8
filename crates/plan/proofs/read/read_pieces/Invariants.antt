use Rattle.std.specs.Prelude.{◌≡◌, ◌+◌, ◌-◌, ◌*◌, ◌≤◌}
use Rattle.plan.specs.Plan.{read_pieces}
use Rattle.plan.specs.Code.{unit_of, outcome_of}
use Rattle.plan.proofs.CodeCounting.{outcome_after}
use Rattle.plan.proofs.read.read_pieces.Given as goal

abbrev pub invariant-loop-i : goal.invariant-loop-i
invariant-loop-i l = (outcome_after l.i l.puts l.fills (read_pieces (unit_of l.target) l.plan (l.count - l.i) l.i) ≡ outcome_of (read_pieces (unit_of l.target) l.plan l.count 0)) × (l.puts + l.fills ≤ 65536 * l.i)
