-- The load of a serial ROM (paper 01, "Serial ROM").
use Rattle.std.specs.Prelude.{List, [], ◌∷◌, ℕ, ltb, length, if◌then◌else◌}
use Rattle.words.specs.Store.{store}
use Rattle.memory_map.specs.declared.map.Map.{Map}
use Rattle.outcome.specs.Outcome.{Outcome, refuses, outcome_at, memory_at, Loaded}
use Rattle.outcome.specs.Destinations.{Range, stored_in}
use Rattle.memory_map.specs.Map.{sound}
use Rattle.memory_map.specs.Lookup.{Lookup, lookup}
use Rattle.srom.specs.Walk.{Block, Walk, walk}

-- the ranges that the blocks are stored to
unfoldable pub destinations : List Block → List Range
destinations [] = []
destinations (b ∷ bs) = record { address = b.address; length = length b.bytes } ∷ destinations bs

-- the blocks in order, each on the memory that the earlier ones left
unfoldable pub store_blocks : List Block → List ℕ → List ℕ
store_blocks [] m = m
store_blocks (b ∷ bs) m = store_blocks bs (store m b.place b.bytes)

-- "Order: 13; then block by block"
unfoldable pub look : Lookup → List ℕ → ℕ → Walk
look find s o =
    if ltb 16777216 (length s) then record { blocks = []; ending = refuses 13 0 }
    else walk find s o

-- "When a map is used, 1 is tested before all else." n is the length of memory
unfoldable pub srom_look : Map → ℕ → List ℕ → ℕ → Walk
srom_look map n s o =
    if sound map n then look (lookup map) s o
    else record { blocks = []; ending = refuses 1 0 }

-- the outcome, with "how many entries or blocks it took before the stop and how many bytes it stored"
abbrev pub outcome_of_walk : Walk → Outcome
outcome_of_walk w = outcome_at w.ending (length w.blocks) (stored_in (destinations w.blocks))

-- "Blocks are checked up to the stop before the first byte is stored."
abbrev pub loaded : Walk → List ℕ → Loaded
loaded w m = record { outcome = outcome_of_walk w; memory = memory_at w.ending m (store_blocks w.blocks m) }

-- the load of slice s from offset o, into memory m, with a lookup
unfoldable pub load_with : Lookup → List ℕ → ℕ → List ℕ → Loaded
load_with find s o m = loaded (look find s o) m

-- the same, with a map
unfoldable pub srom_load : Map → List ℕ → ℕ → List ℕ → Loaded
srom_load map s o m = loaded (srom_look map (length m) s o) m
