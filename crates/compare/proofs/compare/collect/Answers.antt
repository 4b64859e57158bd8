-- `compare::compare::collect` meets its contract. The loop's invariant: the list has the stretches below `at`, or they are too many.
use Rattle.std.proofs.Common.{arith}
use Rattle.compare.specs.Reading.{addresses}
use Rattle.compare.specs.Code.{image_of}
use Rattle.compare.specs.Code.Collected.{collected-none, collected-many}
use Rattle.compare.proofs.compare.collect.Goals as goal

pub loop-at-init : goal.loop-at-init
loop-at-init c = let x = c.args in
    (collected-none x.listing.now (image_of x.old.plan.now) (image_of x.new.plan.now) c.requires, omega arith)

pub returns-then-listing-gt-MOST_STRETCHES : goal.returns-then-listing-gt-MOST_STRETCHES
returns-then-listing-gt-MOST_STRETCHES c = let x = c.args in
    let l = c.loop-at in
    collected-many l.listing (image_of x.old.plan.now) (image_of x.new.plan.now) l.at addresses l.invariant.1 (omega arith) l.invariant.0
