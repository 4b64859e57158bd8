-- One region (paper 01, "Memory map"). Sums are whole numbers.
pub mod Follows
use Rattle.std.specs.Prelude.{Bool, not, ◌&&◌, ℕ, ◌+◌, ◌-◌, ◌%◌, leb, ltb, eqb}
use Rattle.words.specs.Range.{meets}
use Rattle.memory_region.specs.declared.region.Region.{Region}
use Rattle.memory_region.specs.declared.region.Right.{Right}
use Rattle.memory_region.specs.declared.region.Right.TheVariants.{Read, Write, Run}

-- "three rights (read, write, run)"
abbrev pub allows : Region → Right → Bool
allows g Read = g.rights.read
allows g Write = g.rights.write
allows g Run = g.rights.run

-- "Base and length are multiples of 4; length is 4 to 16,777,216; base + length is at most 4,294,967,280."
unfoldable pub keeps_rules : Region → Bool
keeps_rules g =
    eqb (g.base % 4) 0 && eqb (g.length % 4) 0 && leb 4 g.length && leb g.length 16777216 && leb (g.base + g.length) 4294967280

-- "No two regions share an address or a buffer byte."
unfoldable pub clear : Region → Region → Bool
clear g h =
    not (meets g.base g.length h.base h.length) && not (meets g.place g.length h.place h.length)

-- it "ends inside the buffer", of n bytes
unfoldable pub ends_inside : ℕ → Region → Bool
ends_inside n g = leb (g.place + g.length) n

-- "A non-empty range is permitted for a right when it lies wholly inside one region that has the right": n addresses from a on
unfoldable pub permits : Region → Right → ℕ → ℕ → Bool
permits g r a n = ltb 0 n && leb g.base a && leb (a + n) (g.base + g.length) && allows g r

-- "Address a of a region is the buffer byte at place + a - base."
abbrev pub place_in : Region → ℕ → ℕ
place_in g a = g.place + (a - g.base)
