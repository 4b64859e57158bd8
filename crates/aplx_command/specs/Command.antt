-- The entries of an APLX header (paper 01, "APLX").
use Rattle.std.specs.Prelude.{ℕ, ◌+◌, ◌%◌, List, ◌==◌, if◌then◌else◌}
use Rattle.words.specs.Bytes.{little_endian_at}
use Rattle.words.specs.Round.{round_up}

-- what an entry commands, its length rounded and its source an address
pub data Command : Type 0 where
  copy : ℕ → ℕ → ℕ → Command  -- destination, source, length
  fill : ℕ → ℕ → ℕ → Command  -- start, length, word
  exec : ℕ → Command  -- address
  other : ℕ → Command  -- the command word

-- "1 ACOPY: destination, source, length. 2 RCOPY: the same, source given as an offset. 3 FILL: start, length, word. 4 EXEC: address."
-- "RCOPY's source is the address of that entry plus the offset, modulo 2^32." "Lengths round up to a multiple of 32."
-- The entry at address a with these four words.
unfoldable pub command_of : ℕ → ℕ → ℕ → ℕ → ℕ → Command
command_of a c x y z =
    if c == 1 then copy x y (round_up z)
    else if c == 2 then copy x ((a + y) % 4294967296) (round_up z)
    else if c == 3 then fill x (round_up y) z
    else if c == 4 then exec x
    else other c

-- "Entries are four Little Endian words": the entry at address a, at place p of memory
unfoldable pub command_at : List ℕ → ℕ → ℕ → Command
command_at m p a =
    command_of a (little_endian_at 4 m p) (little_endian_at 4 m (p + 4)) (little_endian_at 4 m (p + 8)) (little_endian_at 4 m (p + 12))
