-- `memory_map::map::all_end_inside` meets its contract: the loop's invariant: the regions from the index on decide what all do.
use Rattle.std.proofs.Common.{sym, ◌∙◌, arith}
use Rattle.memory_region.specs.Region.{ends_inside}
use Rattle.memory_map.proofs.Loops.{every-fails, every-goes, every-end}
use Rattle.memory_map.proofs.map.all_end_inside.Goals as goal

pub returns-then-not-ends_inside : goal.returns-then-not-ends_inside
returns-then-not-ends_inside c = sym (every-fails c.args.regions.now c.loop-region.region-index _ (ends_inside c.args.size) c.loop-region-test.true (sym c.ends_inside.ensures ∙ c.if-not-ends_inside.true)) ∙ c.loop-region.invariant

pub loop-region-preserved : goal.loop-region-preserved
loop-region-preserved c = sym (every-goes c.args.regions.now c.loop-region.region-index _ (ends_inside c.args.size) c.loop-region-test.true (sym c.ends_inside.ensures ∙ c.if-not-ends_inside.false)) ∙ c.loop-region.invariant

pub returns : goal.returns
returns c = sym (every-end c.args.regions.now c.loop-region.region-index (omega arith) (ends_inside c.args.size)) ∙ c.loop-region.invariant
