-- The load of an APLX image (paper 01, "APLX").
pub mod Laws
use Rattle.std.specs.Prelude.{List, [], ◌∷◌, ℕ, ◌/◌}
use Rattle.word_blocks.specs.Repeat.{repeated}
use Rattle.words.specs.Store.{store}
use Rattle.memory_region.specs.declared.region.Right.TheVariants.{Read, Write}
use Rattle.memory_map.specs.declared.map.Map.{Map}
use Rattle.outcome.specs.Outcome.{memory_at, Loaded}
use Rattle.memory_map.specs.Lookup.{Lookup, lookup, place_of}
use Rattle.aplx_copy.specs.Copy.{copied}
use Rattle.aplx_command.specs.Command.{Command, copy, fill, exec, other}
use Rattle.aplx_look.specs.Look.{Look, look, aplx_look, outcome_of_look}

-- ---- the commands
-- one command. A found range begins at its place
unfoldable pub perform : Lookup → Command → List ℕ → List ℕ
perform find (copy d s n) m = copied n (place_of (find Write d n)) (place_of (find Read s n)) m
perform find (fill d n w) m = store m (place_of (find Write d n)) (repeated (n / 4) w)
perform find (exec x) m = m
perform find (other c) m = m

-- "carried out, in order, each on the memory the earlier ones left"
unfoldable pub perform_all : Lookup → List Command → List ℕ → List ℕ
perform_all find [] m = m
perform_all find (c ∷ cs) m = perform_all find cs (perform find c m)

-- ---- the load
-- "Only then are the commands carried out"
abbrev pub loaded : Lookup → Look → List ℕ → Loaded
loaded find l m = record { outcome = outcome_of_look l; memory = memory_at l.ending m (perform_all find l.commands m) }

-- the load of memory m from header address h, with a lookup
unfoldable pub load_with : Lookup → List ℕ → ℕ → Loaded
load_with find m h = loaded find (look find m h) m

-- the same, with a map
unfoldable pub aplx_load : Map → List ℕ → ℕ → Loaded
aplx_load map m h = loaded (lookup map) (aplx_look map m h) m
