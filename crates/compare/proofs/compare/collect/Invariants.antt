use Prim.Native.Nat.{◌-◌, ◌≤◌}
use Rattle.compare.specs.Reading.{addresses}
use Rattle.compare.specs.Code.{image_of}
use Rattle.compare.specs.Code.Collected.{Collected}
use Rattle.compare.proofs.compare.collect.Given as goal

abbrev pub invariant-loop-at : goal.invariant-loop-at
invariant-loop-at l = Collected l.listing (image_of l.old.plan.now) (image_of l.new.plan.now) l.at × (l.at ≤ addresses)

abbrev pub decreases-loop-at : goal.decreases-loop-at
decreases-loop-at l = addresses - l.at
