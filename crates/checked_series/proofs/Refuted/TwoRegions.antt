-- Why nothing is claimed of a stretch with a piece that is not permitted: the load of a fill that goes over two adjoining regions is refused
-- where it is one part, and stores where it is split between them.
use Rattle.std.specs.Prelude.{◌≡◌, refl, true, false, List, [], ◌∷◌, ℕ, length, get_or}
use Rattle.std.proofs.Common.{ap}
use Rattle.memory_region.specs.declared.region.Region.{Region}
use Rattle.memory_map.specs.declared.map.Map.{Map}
use Rattle.outcome.specs.Outcome.{end, stops, refuses}
use Rattle.memory_map.specs.Map.{sound, empty_map, add}
use Rattle.memory_map.specs.Lookup.{Lookup, lookup_in, lookup}
use Rattle.memory_map.proofs.LookupLaws.{lookup-is}
use Rattle.memory_map.specs.Open as MapGroup
use Rattle.aplx.specs.Load.{load_with}
use Rattle.aplx.proofs.LoadLaws.{sound-load}
use Rattle.aplx.specs.Open as AplxGroup
use Rattle.plan.specs.Plan.{fill}
use Rattle.plan.specs.Meaning.{denies, meaning}
use Rattle.plan.specs.Open as PlanGroup
use Rattle.series.specs.Series.{Left}
use Rattle.series.specs.Medium.{aplx}
use Rattle.series.specs.Software.{ours, leaves}
use Rattle.series.proofs.Refuted.Example.{memory_with}
use Rattle.series.proofs.Refuted.Twice.{left_by}
use Rattle.aplx_check.specs.Check.{accepted, check}
use Rattle.aplx_check.specs.Open as CheckGroup
use Rattle.checked_series.proofs.Refuted.Rules.{fill_plan, in_one, in_two}

-- ---- the map: 128 bytes to read, for the image, and two times 32 to write
abbrev image_region : Region
image_region = record { base = 4096; length = 128; place = 0; rights = record { read = true; write = false; run = false } }

abbrev low_region : Region
low_region = record { base = 8192; length = 32; place = 128; rights = record { read = true; write = true; run = false } }

abbrev high_region : Region
high_region = record { base = 8224; length = 32; place = 160; rights = record { read = true; write = true; run = false } }

unfoldable pub adjoining : Map
adjoining = (add (add (add empty_map image_region).map low_region).map high_region).map

unfoldable find : Lookup
find = lookup_in (image_region ∷ low_region ∷ high_region ∷ [])

finds : lookup adjoining ≡ find
unfolding find adjoining MapGroup.maps
finds = lookup-is adjoining

-- ---- the loads
abbrev pub loaded : List ℕ → Left
loaded image = leaves ours (aplx 4096) adjoining image 4096 (memory_with image)

loaded-is : (image : List ℕ) → sound adjoining (length (memory_with image)) ≡ true → loaded image ≡ left_by (load_with find (memory_with image) 4096)
loaded-is image safe = rw (sound-load adjoining (memory_with image) 4096 safe, finds)

pub record TwoRegions : Type 0 where
  pub both-accepted : (check fill_plan in_one ≡ accepted) × (check fill_plan in_two ≡ accepted)
  pub not-permitted : (m : List ℕ) → (meaning (lookup adjoining) (fill 8192 64 1 ∷ []) 0 m).finish ≡ denies 4 0
  pub one-part-refused : (loaded in_one).ending ≡ refuses 4 0
  pub two-parts-end : (loaded in_two).ending ≡ stops (end 2)
  -- at address 8192
  pub two-parts-store : get_or (loaded in_two).memory 128 0 ≡ 1

pub two-regions : TwoRegions
unfolding find adjoining memory_with fill_plan in_one in_two CheckGroup.checker MapGroup.maps PlanGroup.meanings AplxGroup.load
two-regions = record {
  both-accepted = (refl, refl);
  not-permitted = λ m. ap (λ (find : Lookup). (meaning find (fill 8192 64 1 ∷ []) 0 m).finish) finds;
  one-part-refused = ap (λ (l : Left). l.ending) (loaded-is in_one refl);
  two-parts-end = ap (λ (l : Left). l.ending) (loaded-is in_two refl);
  two-parts-store = ap (λ (l : Left). get_or l.memory 128 0) (loaded-is in_two refl);
}
