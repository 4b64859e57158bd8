use Rattle.std.proofs.Common.{◌≡◌, suc, ◌+◌, ◌-◌, ◌*◌, ◌≤◌}
use Rattle.outcome.specs.Outcome.{stops, stop_of}
use Rattle.outcome.specs.Destinations.{stored_in}
use Rattle.memory_map.specs.Lookup.{lookup}
use Rattle.aplx_look.specs.Walk.{commands}
use Rattle.aplx_look.specs.Look.{destinations, header_test}
use Rattle.aplx_look.proofs.header.check_header.Given as goal

abbrev pub invariant-loop-i : goal.invariant-loop-i
invariant-loop-i l = let end = stops (stop_of l.stop) in
    let left = commands (lookup l.board.map) l.board.memory.now l.address (l.count - l.i) in
    let all = commands (lookup l.board.map) l.board.memory.now l.header l.count in
    record {
      at : l.address ≡ l.header + 16 * l.i;
      few : l.stored ≤ 4294967280 * l.i;
      bytes : l.stored + stored_in (destinations left) ≡ stored_in (destinations all);
      tests : header_test l.header l.size left l.i end ≡ header_test l.header (16 * suc l.count) all 0 end;
    }
