-- Computed examples of tables.
use Rattle.std.specs.Prelude.{◌≡◌, refl, Bool, true, false, List, [], ◌∷◌, ℕ, take, drop, replicate}
use Rattle.words.specs.Store.{store}
use Rattle.memory_map.specs.Map.{empty_map, regions_of, taken, refused, sound}
use Rattle.map_table.specs.Table.{rights_of, map_of, addition, table_after}
use Rattle.map_table.specs.Open as group

-- the table after an addition
abbrev after : List ℕ → ℕ → ℕ → ℕ → ℕ → List ℕ
after t b n p w = table_after t (addition t b n p w)

-- whether the map of a table is sound for a memory of n bytes
abbrev sound_for : List ℕ → ℕ → Bool
sound_for t n = sound (map_of t) n

-- the empty map, and the tables after one and after two additions
zeros : List ℕ
zeros = replicate 132 0

one : List ℕ
one = after zeros 4096 256 0 7

two : List ℕ
two = after one 8192 64 256 1

-- the table of one region, with rights of 8 in that region, and with rights of 254 past the count
higher : List ℕ
higher = store one 16 (8 ∷ [])

past : List ℕ
past = store one 128 (254 ∷ [])

record Tables : Type 0 where
  pub empty : map_of zeros ≡ empty_map
  pub short : sound_for (replicate 131 0) 0 ≡ false
  pub long : sound_for (replicate 133 0) 0 ≡ false
  pub whole : sound_for zeros 0 ≡ true
  pub held : sound_for one 256 ≡ true
  pub not-held : sound_for one 255 ≡ false
  pub first : (addition zeros 4096 256 0 7).verdict ≡ taken
  pub first-bytes : take 24 one ≡ 1 ∷ 0 ∷ 0 ∷ 0 ∷ 0 ∷ 16 ∷ 0 ∷ 0 ∷ 0 ∷ 1 ∷ 0 ∷ 0 ∷ 0 ∷ 0 ∷ 0 ∷ 0 ∷ 7 ∷ 0 ∷ 0 ∷ 0 ∷ 0 ∷ 0 ∷ 0 ∷ 0 ∷ []
  pub second-bytes : take 16 (drop 20 two) ≡ 0 ∷ 32 ∷ 0 ∷ 0 ∷ 64 ∷ 0 ∷ 0 ∷ 0 ∷ 0 ∷ 1 ∷ 0 ∷ 0 ∷ 1 ∷ 0 ∷ 0 ∷ 0 ∷ []
  pub second-map : regions_of (map_of two)
      ≡ record { base = 4096; length = 256; place = 0; rights = record { read = true; write = true; run = true } }
      ∷ record { base = 8192; length = 64; place = 256; rights = record { read = true; write = false; run = false } }
      ∷ []
  pub writing : rights_of 2 ≡ record { read = false; write = true; run = false }
  pub running : rights_of 4 ≡ record { read = false; write = false; run = true }
  -- a base that is no multiple of 4, and a region that shares an address
  pub unaligned : (addition zeros 2 256 0 7).verdict ≡ refused 1 0
  pub shared : (addition one 4348 64 256 7).verdict ≡ refused 1 0
  -- rights over 7: a new region is refused, and a region in use makes the map unsound
  pub over : (addition zeros 4096 256 0 8).verdict ≡ refused 1 0
  pub over-bytes : after one 8192 64 256 8 ≡ one
  pub in_use : sound_for higher 256 ≡ false
  -- past the count they say nothing, stay where an addition is refused, and are 0 to 7 where it is taken
  pub unused : sound_for past 256 ≡ true
  pub shared-bytes : after past 4348 64 256 7 ≡ past
  pub cleared-bytes : after past 8192 64 256 1 ≡ store two 128 (6 ∷ [])

tables : Tables
unfolding group.tables zeros one two higher past
tables =
    record {
      empty = refl;
      short = refl;
      long = refl;
      whole = refl;
      held = refl;
      not-held = refl;
      first = refl;
      first-bytes = refl;
      second-bytes = refl;
      second-map = refl;
      writing = refl;
      running = refl;
      unaligned = refl;
      shared = refl;
      over = refl;
      over-bytes = refl;
      in_use = refl;
      unused = refl;
      shared-bytes = refl;
      cleared-bytes = refl;
    }
