-- The map (paper 01, "Memory map").
pub mod Ascending
use Rattle.std.specs.Prelude.{Bool, true, false, ◌&&◌, List, [], ◌∷◌, ℕ, ◌+◌, leb, take, set, get_or, replicate, if◌then◌else◌, Result, Ok, Err}
use Rattle.words.specs.Choice.{every}
use Rattle.memory_region.specs.declared.region.Region.{Region}
use Rattle.memory_map.specs.declared.map.Map.{Map}
use Rattle.outcome.specs.declared.refusal.Refusal.{Refusal}
use Rattle.outcome.specs.Refusal.{number_of}
use Rattle.memory_map.specs.declared.map.Addition as CodeAddition
use Rattle.memory_region.specs.Region.{keeps_rules, clear, ends_inside}

abbrev pub no_region : Region
no_region = record { base = 0; length = 0; place = 0; rights = record { read = false; write = false; run = false } }

-- the regions in use
unfoldable pub regions_of : Map → List Region
regions_of m = take m.count m.regions

-- the region at an index, as the code reads it
abbrev pub region_at : Map → ℕ → Region
region_at m i = get_or m.regions i no_region

-- each region keeps the rules, and is clear of every other
unfoldable pub all_keep_rules : List Region → Bool
all_keep_rules [] = true
all_keep_rules (g ∷ gs) = keeps_rules g && every (clear g) gs && all_keep_rules gs

-- "A map holds up to 8 regions", with every rule that needs no buffer
unfoldable pub well_formed : Map → Bool
well_formed m = leb m.count 8 && all_keep_rules (regions_of m)

-- "A map is sound for a buffer if all this holds and every region ends inside the buffer", of n bytes
unfoldable pub sound : Map → ℕ → Bool
sound m n = well_formed m && every (ends_inside n) (regions_of m)

abbrev pub empty_map : Map
empty_map = record { regions = replicate 8 no_region; count = 0 }

-- the map with the region at its end
unfoldable pub extended : Map → Region → Map
extended m g = record { regions = set m.regions m.count g; count = m.count + 1 }

-- the answer of an addition
pub data Verdict : Type 0 where
  taken : Verdict
  refused : ℕ → ℕ → Verdict  -- number, place

pub record Addition : Type 0 where
  pub map : Map
  pub verdict : Verdict

-- "The map is built by adding one region at a time; a refused addition hands the map back as it was."
unfoldable pub add : Map → Region → Addition
add m g =
    if well_formed (extended m g) then record { map = extended m g; verdict = taken }
    else record { map = m; verdict = refused 1 0 }

-- ---- the code's answer
abbrev pub verdict_of : Result Unit Refusal → Verdict
verdict_of (Ok w) = taken
verdict_of (Err r) = refused (number_of r.cause) r.place

abbrev pub addition_of : CodeAddition.Addition → Addition
addition_of a = record { map = a.map; verdict = verdict_of a.verdict }
