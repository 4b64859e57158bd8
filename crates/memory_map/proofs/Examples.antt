-- Computed examples of the definitions (paper 01, "Memory map" and "Bench pieces with known weight").
use Rattle.std.specs.Prelude.{◌≡◌, refl, true, false, List, [], ◌∷◌, ℕ, zero, suc, ◌*◌}
use Rattle.memory_region.specs.declared.region.Region.{Region}
use Rattle.memory_region.specs.declared.region.Right.TheVariants.{Read, Write}
use Rattle.memory_map.specs.declared.map.Map.{Map}
use Rattle.outcome.specs.Outcome as outcome
use Rattle.memory_map.specs.Map.{sound, empty_map, Verdict, taken, add}
use Rattle.memory_map.specs.Map as map
use Rattle.memory_map.specs.Lookup.{at, refused, lookup_in}
use Rattle.memory_map.specs.Entry.{run_entry, entry}
use Rattle.memory_map.specs.Entry as run
use Rattle.memory_map.specs.Open as group

-- a region with every right
abbrev open_region : ℕ → ℕ → ℕ → Region
open_region b l p = record { base = b; length = l; place = p; rights = record { read = true; write = true; run = true } }

-- the verdict on one region, and on a second one beside 64 bytes at address 4096 and place 64
alone : ℕ → ℕ → ℕ → Verdict
alone b l p = (add empty_map (open_region b l p)).verdict

beside : ℕ → ℕ → ℕ → Verdict
beside b l p = (add (add empty_map (open_region 4096 64 64)).map (open_region b l p)).verdict

-- a map of k regions of 32 bytes
many : ℕ → Map
many zero = empty_map
many (suc k) = (add (many k) (open_region (32 * k) 32 (32 * k))).map

record Additions : Type 0 where
  pub highest-end : alone 4294967264 16 0 ≡ taken
  pub past-highest-end : alone 4294967264 20 0 ≡ map.refused 1 0
  pub odd_base : alone 2 16 0 ≡ map.refused 1 0
  pub odd-length : alone 0 18 0 ≡ map.refused 1 0
  pub no_length : alone 0 0 0 ≡ map.refused 1 0
  pub shortest : alone 0 4 0 ≡ taken
  pub longest : alone 0 16777216 0 ≡ taken
  pub too_long : alone 0 16777220 0 ≡ map.refused 1 0
  pub adjoining : beside 4160 64 128 ≡ taken
  pub shared-address : beside 4156 64 128 ≡ map.refused 1 0
  pub shared-byte : beside 8192 64 127 ≡ map.refused 1 0
  pub eighth : (add (many 7) (open_region 224 32 224)).verdict ≡ taken
  pub ninth : (add (many 8) (open_region 256 32 256)).verdict ≡ map.refused 1 0
  pub as_it_was : (add (many 8) (open_region 256 32 256)).map ≡ many 8

additions : Additions
unfolding alone beside many group.maps
additions = record {
  highest-end = refl;
  past-highest-end = refl;
  odd_base = refl;
  odd-length = refl;
  no_length = refl;
  shortest = refl;
  longest = refl;
  too_long = refl;
  adjoining = refl;
  shared-address = refl;
  shared-byte = refl;
  eighth = refl;
  ninth = refl;
  as_it_was = refl;
}

record Soundness : Type 0 where
  pub empty : sound empty_map 0 ≡ true
  pub exact : sound (many 8) 256 ≡ true
  pub short : sound (many 8) 255 ≡ false
  pub nine : sound (record { regions = (many 8).regions; count = 9 }) 256 ≡ false

soundness : Soundness
unfolding many group.maps
soundness = record { empty = refl; exact = refl; short = refl; nine = refl }

-- 64 bytes at 4096 to read and write, and 64 bytes at 4160 to read and run
two : List Region
two =
    record { base = 4096; length = 64; place = 8; rights = record { read = true; write = true; run = false } }
    ∷ record { base = 4160; length = 64; place = 72; rights = record { read = true; write = false; run = true } }
    ∷ []

record Lookups : Type 0 where
  pub first : lookup_in two Read 4096 64 ≡ at 8
  pub second : lookup_in two Read 4160 64 ≡ at 72
  pub over-both : lookup_in two Read 4159 2 ≡ refused 4
  pub no-right : lookup_in two Write 4160 4 ≡ refused 4
  pub nothing : lookup_in two Read 4096 0 ≡ refused 4
  pub everything : lookup_in two Read 4096 4294967296 ≡ refused 4
  pub arm : run_entry (lookup_in two) 4160 ≡ entry outcome.arm 4160
  pub thumb : run_entry (lookup_in two) 4161 ≡ entry outcome.thumb 4161
  pub never : run_entry (lookup_in two) 4162 ≡ run.refused 9
  pub thumb-three : run_entry (lookup_in two) 4163 ≡ entry outcome.thumb 4163
  pub thumb-outside : run_entry (lookup_in two) 4225 ≡ run.refused 9
  pub no-run-right : run_entry (lookup_in two) 4096 ≡ run.refused 9

lookups : Lookups
unfolding two group.lookups
lookups = record {
  first = refl;
  second = refl;
  over-both = refl;
  no-right = refl;
  nothing = refl;
  everything = refl;
  arm = refl;
  thumb = refl;
  never = refl;
  thumb-three = refl;
  thumb-outside = refl;
  no-run-right = refl;
}
