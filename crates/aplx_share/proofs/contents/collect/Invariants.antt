use Rattle.plan.specs.Packed.{plan_pieces}
use Rattle.aplx_share.specs.Collected.{Collected}
use Rattle.aplx_share.proofs.contents.collect.Given as goal

abbrev pub invariant-loop-i : goal.invariant-loop-i
invariant-loop-i l = Collected l.plan (plan_pieces 32 l.plan) l.i l.kept
