-- Two packers and two loaders, and what a load leaves: what demand 3 (paper 01, "Plans") speaks of.
use Rattle.std.specs.Prelude.{List, ℕ}
use Rattle.memory_map.specs.declared.map.Map.{Map}
use Rattle.outcome.specs.Outcome.{ending_of, Loaded}
use Rattle.srom.specs.Load.{srom_load}
use Rattle.aplx.specs.Load.{aplx_load}
use Rattle.plan.specs.Packed.{Packed}
use Rattle.srom_pack.specs.Image.{pack_srom}
use Rattle.aplx_pack.specs.Image.{pack_aplx}
use Rattle.series.specs.Series.{Left}
use Rattle.series.specs.Medium.{Medium, srom, aplx}

-- two packers and two loaders
pub record Software : Type 0 where
  pub pack_srom : List ℕ → ℕ → Packed  -- plan, room for the image
  pub pack_aplx : List ℕ → ℕ → Packed
  pub load_srom : Map → List ℕ → ℕ → List ℕ → Loaded  -- map, slice, offset, memory
  pub load_aplx : Map → List ℕ → ℕ → Loaded  -- map, memory, header address

-- the definitions that the promises of the code cite
abbrev pub ours : Software
ours = record { pack_srom = pack_srom; pack_aplx = pack_aplx; load_srom = srom_load; load_aplx = aplx_load }

-- what the medium's packer gives
abbrev pub packed : Software → Medium → List ℕ → ℕ → Packed
packed s (aplx a) plan room = s.pack_aplx plan room
packed s srom plan room = s.pack_srom plan room

-- "a load is a call of the SROM or APLX loader itself": from place o, of an image that lies in its slice or in memory m
abbrev pub load_at : Software → Medium → Map → List ℕ → ℕ → List ℕ → Loaded
load_at s (aplx a) map image o m = s.load_aplx map m o
load_at s srom map image o m = s.load_srom map image o m

-- what it leaves, without the counts of its answer
abbrev pub leaves : Software → Medium → Map → List ℕ → ℕ → List ℕ → Left
leaves s k map image o m =
    let l = load_at s k map image o m in
    record { memory = l.memory; ending = ending_of l.outcome }
