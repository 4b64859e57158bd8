-- Groups of definitions that computed examples open together: `unfolding NAME` opens all in the line under NAME. Not needed for belief.
use Rattle.words.specs.Open.{stores}
use Rattle.memory_map.specs.Open.{maps}
use Rattle.map_table.specs.Table.{rights_of, region_of, region_in, regions_in, rights_known, regular, map_of, rights_number, region_bytes, regions_bytes, table_of, addition, table_after}

-- the map of a table, and the table after an addition
unfoldable pub tables : Unit {0}
unfolding stores maps map_of regions_in region_in region_of rights_of rights_known regular rights_number region_bytes regions_bytes table_of addition table_after
tables = tt
