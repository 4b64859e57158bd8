-- `compare::compare::collect_blocks` meets its contract. The loop's invariant: the list has the stretches below `at`, or they are too many.
use Rattle.std.proofs.Common.{arith}
use Rattle.compare.specs.Code.{image_of}
use Rattle.compare.specs.Code.Collected.{collected-many, collected-block}
use Rattle.compare.proofs.compare.collect_blocks.Goals as goal

pub returns-then-listing-gt-MOST_STRETCHES : goal.returns-then-listing-gt-MOST_STRETCHES
returns-then-listing-gt-MOST_STRETCHES c = let x = c.args in
    let l = c.loop-at in
    collected-many l.listing (image_of x.old.now) (image_of x.new.now) l.at x.sources.end l.invariant.2 (omega arith) l.invariant.0

pub loop-at-preserved : goal.loop-at-preserved
loop-at-preserved c = let x = c.args in
    let l = c.loop-at in
    let b = c.block_at-block in
    let n = c.add_block in
    let e = b.ensures in (
      collected-block l.listing (image_of x.old.now) (image_of x.new.now) l.at b.result n.new.self (omega arith) l.invariant.0 e.at_lt_end.0 e.result_value.0 e.result_value.1 e.alike n.ensures.upper_bound n.ensures.listing,
      omega (arith, l.invariant.1, e.at_lt_end.0),
      e.at_lt_end.1,
    )
