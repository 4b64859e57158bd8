-- Lookup (paper 01, "Memory map"): the buffer place of a permitted range. `lookup` is shut; its other laws stand in proofs/LookupLaws.antt.
use Rattle.std.specs.Prelude.{◌≡◌, refl, Bool, true, false, List, [], ◌∷◌, ℕ, if◌then◌else◌, Result, Ok, Err}
use Rattle.memory_region.specs.declared.region.Region.{Region}
use Rattle.memory_region.specs.declared.region.Right.{Right}
use Rattle.memory_map.specs.declared.map.Map.{Map}
use Rattle.outcome.specs.declared.refusal.Cause.{Cause}
use Rattle.outcome.specs.Refusal.{number_of}
use Rattle.memory_region.specs.Region.{permits, place_in}
use Rattle.memory_map.specs.Map.{regions_of}

pub data Found : Type 0 where
  at : ℕ → Found  -- place in the buffer
  refused : ℕ → Found  -- number

-- of a right, an address and a length
abbrev pub Lookup : Type 0
Lookup = Right → ℕ → ℕ → Found

abbrev pub found : Found → Bool
found (at p) = true
found (refused n) = false

-- the place of a range. Read only where it was found
abbrev pub place_of : Found → ℕ
place_of (at p) = p
place_of (refused n) = 0

-- the place in the first region that permits the range
unfoldable pub lookup_in : List Region → Lookup
lookup_in [] r a n = refused 4
lookup_in (g ∷ gs) r a n = if permits g r a n then at (place_in g a) else lookup_in gs r a n

pub lookup : Map → Lookup
lookup m = lookup_in (regions_of m)

-- ---- the code's answer
abbrev pub found_of : Result ℕ Cause → Found
found_of (Ok p) = at p
found_of (Err c) = refused (number_of c)

-- how it is computed: the one law that looks into it
pub lookup-computes : (m : Map) (r : Right) (a n : ℕ) → lookup m r a n ≡ lookup_in (regions_of m) r a n
unfolding lookup
lookup-computes m r a n = refl
