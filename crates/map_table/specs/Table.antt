-- A map as a table of bytes that the caller lends: 132 bytes, Little Endian words. Word 0 is the count of regions; behind it stand eight
-- regions of four words each, base, length, place and rights.
use Rattle.std.specs.Prelude.{Bool, true, false, not, List, [], ◌∷◌, ◌++◌, ℕ, zero, suc, ◌+◌, ◌/◌, ◌%◌, ltb, eqb, length, replicate, if◌then◌else◌}
use Rattle.words.specs.Bytes.{little_endian, little_endian_at}
use Rattle.words.specs.Four.{four_bytes}
use Rattle.memory_region.specs.declared.region.Rights.{Rights}
use Rattle.memory_region.specs.declared.region.Region.{Region}
use Rattle.memory_map.specs.declared.map.Map.{Map}
use Rattle.memory_map.specs.Map.{no_region, Verdict, taken, refused, Addition, add}

-- ---- the map that a table is
-- rights are 1 for read, 2 for write, 4 for run; a number over 7 has a bit without a meaning
unfoldable pub rights_of : ℕ → Rights
rights_of w = record { read = eqb (w % 2) 1; write = eqb (w / 2 % 2) 1; run = eqb (w / 4 % 2) 1 }

-- the region of four numbers
unfoldable pub region_of : ℕ → ℕ → ℕ → ℕ → Region
region_of b n p w = record { base = b; length = n; place = p; rights = rights_of w }

-- the region whose four words stand at offset p
unfoldable pub region_in : List ℕ → ℕ → Region
region_in t p =
    region_of (little_endian_at 4 t p) (little_endian_at 4 t (p + 4)) (little_endian_at 4 t (p + 8)) (little_endian_at 4 t (p + 12))

-- k regions from offset p on
unfoldable pub regions_in : ℕ → List ℕ → ℕ → List Region
regions_in zero t p = []
regions_in (suc k) t p = region_in t p ∷ regions_in k t (p + 16)

abbrev pub count_in : List ℕ → ℕ
count_in t = little_endian_at 4 t 0

-- none of k regions from offset p on has rights over 7
unfoldable pub rights_known : ℕ → List ℕ → ℕ → Bool
rights_known zero t p = true
rights_known (suc k) t p =
    if ltb 7 (little_endian_at 4 t (p + 12)) then false
    else rights_known k t (p + 16)

-- 132 bytes with at most eight regions in use, whose rights are known. Rights past the count have no meaning, whatever their number is
unfoldable pub regular : List ℕ → Bool
regular t =
    if not (eqb (length t) 132) then false
    else if ltb 8 (count_in t) then false
    else rights_known (count_in t) t 4

-- no sound map
abbrev pub no_map : Map
no_map = record { regions = replicate 8 no_region; count = 9 }

unfoldable pub map_of : List ℕ → Map
map_of t =
    if regular t then record { regions = regions_in 8 t 4; count = count_in t }
    else no_map

-- ---- the table of a map
-- rights as a number
abbrev pub bit_of : Bool → ℕ → ℕ
bit_of given n = if given then n else 0

unfoldable pub rights_number : Rights → ℕ
rights_number r = bit_of r.read 1 + bit_of r.write 2 + bit_of r.run 4

-- the four words of a region
unfoldable pub region_bytes : Region → List ℕ
region_bytes g = four_bytes g.base g.length g.place (rights_number g.rights)

unfoldable pub regions_bytes : List Region → List ℕ
regions_bytes [] = []
regions_bytes (g ∷ gs) = region_bytes g ++ regions_bytes gs

-- the count, and every region that the map holds, in use or not
unfoldable pub table_of : Map → List ℕ
table_of m = little_endian 4 m.count ++ regions_bytes m.regions

-- ---- an addition
-- of the region with base b, length n, place p and rights w to the map of the table t; rights over 7 are refused
unfoldable pub addition : List ℕ → ℕ → ℕ → ℕ → ℕ → Addition
addition t b n p w =
    if ltb 7 w then record { map = map_of t; verdict = refused 1 0 }
    else add (map_of t) (region_of b n p w)

-- the table t after an addition to its map: a taken one writes the whole table anew, so that rights past the count are 0 to 7 too; a
-- refused one leaves every byte as it was
abbrev pub table_at : Verdict → List ℕ → List ℕ → List ℕ
table_at taken old new = new
table_at (refused n p) old new = old

unfoldable pub table_after : List ℕ → Addition → List ℕ
table_after t a = table_at a.verdict t (table_of a.map)
