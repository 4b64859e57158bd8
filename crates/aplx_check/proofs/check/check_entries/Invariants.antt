use Rattle.std.proofs.Common.{◌≡◌, suc, ◌+◌, ◌-◌, ◌*◌}
use Rattle.plan.specs.Packed.{plan_pieces}
use Rattle.aplx_check.specs.Check.{check_entries}
use Rattle.aplx_check.proofs.CodeLaws.{due_in, Within}
use Rattle.aplx_check.proofs.check.check_entries.Given as goal

abbrev pub invariant-loop-entry : goal.invariant-loop-entry
invariant-loop-entry l = let ps = plan_pieces 1 l.plan in
    Within ps l.due × (check_entries l.image (16 * (l.end + 1)) (l.end - l.entry) l.entry (due_in ps l.due) ≡ check_entries l.image (16 * suc l.end) l.end 0 ps)
