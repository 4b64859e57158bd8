-- The two media: where a piece index loads, the places that answers name, and what is granted of the image (paper 01, "Plans").
use Rattle.std.specs.Prelude.{◌≡◌, false, List, ℕ, zero, suc, ◌+◌, ◌-◌, ◌*◌, ◌%◌, length, take, drop}
use Rattle.words.specs.Choice.{All}
use Rattle.words.specs.Range.{meets}
use Rattle.memory_region.specs.declared.region.Right.TheVariants.{Read}
use Rattle.memory_map.specs.declared.map.Map.{Map}
use Rattle.outcome.specs.Outcome as outcome
use Rattle.outcome.specs.Outcome.{end, Ending, stops, refuses}
use Rattle.memory_map.specs.Lookup.{at, lookup}
use Rattle.memory_map.specs.Entry.{kind_at}
use Rattle.plan.specs.Plan.{Piece, put, fill, run}
use Rattle.plan.specs.Meaning.{Finish, ends, runs, denies}
use Rattle.srom_pack.specs.Image.{block_at}
use Rattle.series.specs.Series.{Change}

-- an image in a slice of its own, or in memory from an address on
pub data Medium : Type 0 where
  srom : Medium
  aplx : ℕ → Medium  -- the image's address

-- ---- places
-- "APLX loads it at the image plus 16 x index, SROM at that piece's block (index 0 at offset 0, else the count at the 0xFF)."
abbrev pub start_of : Medium → List Piece → ℕ → ℕ
start_of (aplx a) ps i = a + 16 * i
start_of srom ps zero = 0
start_of srom ps (suc i) = block_at ps (suc i)

-- "the entry or block" of piece j, as a load from index i names it: entries are counted from the load's first
abbrev pub mark_of : Medium → List Piece → ℕ → ℕ → ℕ
mark_of (aplx a) ps i j = j - i
mark_of srom ps i j = block_at ps j

-- "the run address as written and, as resume, where the index after the run loads; or the end"; "The refusal is 4 or 9, its place
-- the entry or block of the first piece not permitted."
abbrev pub ending_in : Medium → List Piece → ℕ → Finish → Ending
ending_in k ps i (ends j) = stops (end (mark_of k ps i j))
ending_in k ps i (runs a j) = stops (outcome.run (kind_at a) a (start_of k ps (suc j)))
ending_in k ps i (denies x j) = refuses x (mark_of k ps i j)

-- ---- what is granted of the image
-- the piece stores at none of the n addresses from a on: "met means sharing a byte address"
abbrev pub Misses : ℕ → ℕ → Piece → Type 0
Misses a n (put d b) = meets d (length b) a n ≡ false
Misses a n (fill d k w) = meets d k a n ≡ false
Misses a n (run x) = Unit {0}

-- "an image is intact where .. memory from its address on, holds all its bytes"
pub record InMemory (a : ℕ) (map : Map) (ps : List Piece) (image m : List ℕ) : Type 0 where
  -- "word-aligned"
  pub aligned : a % 4 ≡ 0
  -- "inside one readable region"
  pub place : ℕ
  pub readable : lookup map Read a (length image) ≡ at place
  -- "intact at the first load"
  pub intact : take (length image) (drop place m) ≡ image
  -- "met by no destination of the plan"
  pub clear : All (Misses a (length image)) ps

-- "for SROM: alone in its slice": the slice that is loaded is the image, and nothing is asked of memory
abbrev pub Intact : Medium → Map → List Piece → List ℕ → List ℕ → Type 0
Intact (aplx a) map ps image m = InMemory a map ps image m
Intact srom map ps image m = Unit {0}

-- "left alone by the called code": the byte that it writes is none of the image's
abbrev pub Spares : Medium → Map → List ℕ → Change → Type 0
Spares (aplx a) map image c = (p : ℕ) → lookup map Read a (length image) ≡ at p → meets c.place 1 p (length image) ≡ false
Spares srom map image c = Unit {0}
