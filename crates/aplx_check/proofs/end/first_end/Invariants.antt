use Rattle.std.proofs.Common.{◌≡◌, ◌-◌}
use Rattle.aplx_check.specs.Check.{first_end}
use Rattle.aplx_check.proofs.end.first_end.Given as goal

abbrev pub invariant-loop-entry : goal.invariant-loop-entry
invariant-loop-entry l = first_end l.image (l.count - l.entry) l.entry ≡ first_end l.image l.count 0
