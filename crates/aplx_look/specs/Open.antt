-- A group of definitions that computed examples open together: `unfolding NAME` opens all in the line under NAME. Not needed for belief.
use Rattle.words.specs.Open as words
use Rattle.outcome.specs.Destinations.{stored_in}
use Rattle.memory_map.specs.Open.{lookups}
use Rattle.aplx_command.specs.Command.{command_of, command_at}
use Rattle.aplx_look.specs.Walk.{other_command, tests, judge, walk_for, walk, commands}
use Rattle.aplx_look.specs.Look.{destinations, meets_header, header_test, look}

-- what a load of entries in memory answers
unfoldable pub looks : Unit {0}
unfolding words.tests words.stores lookups look header_test meets_header destinations stored_in walk walk_for judge tests other_command commands command_at command_of
looks = tt
