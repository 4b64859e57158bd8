use Prim.Native.Nat.{◌-◌, ◌≤◌}
use Rattle.compare.specs.Code.{image_of}
use Rattle.compare.specs.Code.Collected.{Collected}
use Rattle.compare.proofs.compare.collect_blocks.Given as goal

abbrev pub invariant-loop-at : goal.invariant-loop-at
invariant-loop-at l = Collected l.listing (image_of l.old) (image_of l.new) l.at × (l.first ≤ l.at) × (l.at ≤ l.sources.end)

abbrev pub decreases-loop-at : goal.decreases-loop-at
decreases-loop-at l = l.sources.end - l.at
