-- `memory_map::map::Map::add` meets its contract: the map with the region at its end is well formed, or the map from before is handed back.
use Rattle.std.proofs.Common.{sym, ◌∙◌, arith, ◌+◌}
use borrow.Author.Tests.{lt-leb}
use Rattle.memory_map.specs.Map.{add, extended, well_formed}
use Rattle.memory_map.proofs.map.Map.add.Goals as goal

pub returns-then-self-ge8 : goal.returns-then-self-ge8
unfolding add extended well_formed
returns-then-self-ge8 c = simp (lt-leb (c.args.self.count + 1) 8 (omega arith), c.at.ensures)

pub returns-then-well_formed : goal.returns-then-well_formed
unfolding add extended
returns-then-well_formed c = simp (sym c.well_formed-2.ensures ∙ c.if-well_formed.true)

pub returns : goal.returns
unfolding add extended
returns c = simp (sym c.well_formed-2.ensures ∙ c.if-well_formed.false, c.at.ensures)
