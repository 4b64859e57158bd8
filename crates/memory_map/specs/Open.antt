-- Groups of definitions that computed examples open together: `unfolding NAME` opens all in the line under NAME. Not needed for belief.
use Rattle.words.specs.Open.{tests}
use Rattle.memory_region.specs.Region.{keeps_rules, clear, ends_inside, permits}
use Rattle.memory_map.specs.Map.{regions_of, all_keep_rules, well_formed, sound, extended, add}
use Rattle.memory_map.specs.Lookup.{lookup_in}
use Rattle.memory_map.specs.Entry.{legal, run_entry}

-- how a map is built, and whether it is sound
unfoldable pub maps : Unit {0}
unfolding tests add extended sound well_formed all_keep_rules regions_of keeps_rules clear ends_inside
maps = tt

-- what a map finds, and run addresses
unfoldable pub lookups : Unit {0}
unfolding lookup_in permits run_entry legal
lookups = tt
