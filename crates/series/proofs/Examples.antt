-- Computed examples of series and of the places that the two media name.
use Rattle.std.specs.Prelude.{◌≡◌, refl, true, List, [], ◌∷◌, ℕ, set, drop, replicate}
use Rattle.outcome.specs.Outcome as outcome
use Rattle.outcome.specs.Outcome.{end, thumb, Ending, stops, refuses}
use Rattle.memory_map.specs.Lookup.{Lookup, lookup_in}
use Rattle.plan.specs.Plan.{Piece, put, fill, run}
use Rattle.plan.specs.Meaning.{stretch, finish}
use Rattle.plan.specs.Open as PlanGroup
use Rattle.srom_pack.specs.Open as SromPackGroup
use Rattle.series.specs.Series.{changed, Left, series}
use Rattle.series.specs.Medium.{Medium, srom, aplx, ending_in}

-- ---- a series
-- a load that sets the byte at its index to 9
act : ℕ → List ℕ → Left
act i m = record { memory = set m i 9; ending = stops (end i) }

record Traces : Type 0 where
  -- the second load finds what the first left, as the called code changed it; what is changed after the last load is not compared
  pub two :
      series act (record { index = 0; changes = record { place = 2; byte = 4 } ∷ record { place = 2; byte = 5 } ∷ [] }
      ∷ record { index = 1; changes = record { place = 0; byte = 6 } ∷ [] } ∷ []) (1 ∷ 2 ∷ 3 ∷ [])
      ≡ record { memory = 9 ∷ 2 ∷ 3 ∷ []; ending = stops (end 0) } ∷ record { memory = 9 ∷ 9 ∷ 5 ∷ []; ending = stops (end 1) } ∷ []

traces : Traces
unfolding series changed act
traces = record { two = refl }

-- ---- places
-- 128 bytes at address 8192 with every right
find : Lookup
find = lookup_in (record { base = 8192; length = 128; place = 0; rights = record { read = true; write = true; run = true } } ∷ [])

-- a fill, a run, a put, and a fill that lies in no region
plan : List Piece
plan = fill 8192 32 1 ∷ run 8193 ∷ put 8224 (replicate 32 5) ∷ fill 12288 32 2 ∷ []

-- the answer for the stretch from index i
ending : Medium → ℕ → Ending
ending k i = ending_in k plan i (finish find (stretch (drop i plan)) i)

record Places : Type 0 where
  -- the block of piece 2 stands behind the pad, a block of 39 bytes and one of 7; its entry is the image's third
  pub srom-run : ending srom 0 ≡ stops (outcome.run thumb 8193 47)
  pub aplx-run : ending (aplx 4096) 0 ≡ stops (outcome.run thumb 8193 4128)
  -- the fourth piece: its block's offset, and its entry counted from the load's first
  pub srom-denied : ending srom 2 ≡ refuses 4 86
  pub aplx-denied : ending (aplx 4096) 2 ≡ refuses 4 1
  -- the count: the 0xFF, and the end entry
  pub srom-end : ending srom 4 ≡ stops (end 125)
  pub aplx-end : ending (aplx 4096) 4 ≡ stops (end 0)

places : Places
unfolding ending plan find PlanGroup.meanings SromPackGroup.image
places = record { srom-run = refl; aplx-run = refl; srom-denied = refl; aplx-denied = refl; srom-end = refl; aplx-end = refl }
