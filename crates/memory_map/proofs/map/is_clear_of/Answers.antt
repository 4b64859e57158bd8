-- `memory_map::map::is_clear_of` meets its contract: the loop's invariant: the regions from the index on decide what all do.
use Rattle.std.proofs.Common.{sym, ◌∙◌, arith}
use Rattle.memory_region.specs.Region.{clear}
use Rattle.memory_map.proofs.Loops.{every-fails, every-goes, every-end}
use Rattle.memory_map.proofs.map.is_clear_of.Goals as goal

pub returns-then-not-clear_of : goal.returns-then-not-clear_of
returns-then-not-clear_of c = sym (every-fails c.args.others.now c.loop-other.other-index _ (clear c.args.region) c.loop-other-test.true (sym c.clear_of.ensures ∙ c.if-not-clear_of.true)) ∙ c.loop-other.invariant

pub loop-other-preserved : goal.loop-other-preserved
loop-other-preserved c = sym (every-goes c.args.others.now c.loop-other.other-index _ (clear c.args.region) c.loop-other-test.true (sym c.clear_of.ensures ∙ c.if-not-clear_of.false)) ∙ c.loop-other.invariant

pub returns : goal.returns
returns c = sym (every-end c.args.others.now c.loop-other.other-index (omega arith) (clear c.args.region)) ∙ c.loop-other.invariant
