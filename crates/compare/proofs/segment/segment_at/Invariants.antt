use mathlib.Core.Path.{◌≡◌}
use lib.ListN.{drop}
use Rattle.plan.specs.Packed.{plan_pieces}
use Rattle.plan.specs.Meaning.{stretch}
use Rattle.compare.specs.LastByte.Segment.{nothing, covering, border}
use Rattle.compare.specs.Code.Segment.{source_is, Reaches}
use Rattle.compare.proofs.segment.segment_at.Given as goal

abbrev pub invariant-loop-i : goal.invariant-loop-i
invariant-loop-i l = (covering (drop l.i (stretch (plan_pieces 1 l.first.plan.now))) l.at (source_is l.first.plan.now l.segment.source) ≡ covering (stretch (plan_pieces 1 l.first.plan.now)) l.at nothing)
    × (border (drop l.i (stretch (plan_pieces 1 l.first.plan.now))) l.at l.segment.end ≡ border (stretch (plan_pieces 1 l.first.plan.now)) l.at l.limit)
    × Reaches l.first.plan.now l.segment.source l.at l.segment.end
