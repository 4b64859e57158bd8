use Rattle.memory_map.specs.Lookup.{lookup}
use Rattle.aplx.proofs.Storing.{Progress}
use Rattle.aplx.proofs.perform.perform_all.Given as goal

abbrev pub invariant-loop : goal.invariant-loop
invariant-loop l = Progress (lookup l.map) l.initial.memory l.header l.count l.memory l.address l.counter
