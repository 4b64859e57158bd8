-- `memory_map::map::Map::run_entry` meets its contract: each case of bits 1:0 is a case of the definition.
use Rattle.std.proofs.Common.{◌%◌}
use borrow.Author.Tests.{eq-eqb, ne_eqb}
use Rattle.memory_map.specs.Entry.{legal, run_entry}
use Rattle.memory_map.proofs.map.Map.run_entry.Goals as goal

pub returns-then-address-eq1 : goal.returns-then-address-eq1
unfolding legal run_entry
returns-then-address-eq1 c = let a = c.args.address in simp (eq-eqb (a % 2) 1 c.if-address-eq1.true) c.permit_run.ensures

pub returns-then-address-eq0 : goal.returns-then-address-eq0
unfolding legal run_entry
returns-then-address-eq0 c = let a = c.args.address in
    simp (ne_eqb (a % 2) 1 c.if-address-eq1.false, eq-eqb (a % 4) 0 c.if-address-eq0.true) c.permit_run-then-address-eq0.ensures

pub returns-else-address-eq0 : goal.returns-else-address-eq0
unfolding legal run_entry
returns-else-address-eq0 c = let a = c.args.address in simp (ne_eqb (a % 2) 1 c.if-address-eq1.false, ne_eqb (a % 4) 0 c.if-address-eq0.false)
