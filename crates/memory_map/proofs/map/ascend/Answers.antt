-- `memory_map::map::ascend` meets its contract: the loop's invariant: the regions from the index on, behind the end of the one before, decide
-- what all do.
use Rattle.std.proofs.Common.{sym, ◌∙◌, arith}
use Rattle.memory_map.proofs.Loops.{ascending-fails, ascending-goes, ascending-end}
use Rattle.memory_map.proofs.map.ascend.Goals as goal

pub returns-then-not-follows : goal.returns-then-not-follows
returns-then-not-follows c = let l = c.loop-region in
    sym (ascending-fails c.args.regions.now l.region-index _ c.args.size l.address l.place c.loop-region-test.true (sym c.follows.ensures ∙ c.if-not-follows.true)) ∙ l.invariant

pub loop-region-preserved : goal.loop-region-preserved
loop-region-preserved c = let l = c.loop-region in
    sym (ascending-goes c.args.regions.now l.region-index _ c.args.size l.address l.place c.loop-region-test.true (sym c.follows.ensures ∙ c.if-not-follows.false)) ∙ l.invariant

pub returns : goal.returns
returns c = let l = c.loop-region in sym (ascending-end c.args.regions.now l.region-index (omega arith) c.args.size l.address l.place) ∙ l.invariant
