-- Groups of definitions that computed examples open together: `unfolding NAME` opens all in the line under NAME. Not needed for belief.
use Rattle.words.specs.Choice.{every}
use Rattle.words.specs.Bytes.{little_endian, big_endian, from_little_endian, from_big_endian, first_bytes, little_endian_at, big_endian_at}
use Rattle.words.specs.Equal.{same}
use Rattle.words.specs.Four.{four_bytes}
use Rattle.words.specs.Store.{store}
use Rattle.words.specs.Round.{round_up}
use Rattle.words.specs.Range.{meets}

-- tests of ranges, of each element of a list, and of equal bytes
unfoldable pub tests : Unit {0}
unfolding every meets same
tests = tt

-- words in bytes, both orders
unfoldable pub bytes : Unit {0}
unfolding little_endian big_endian from_little_endian from_big_endian first_bytes little_endian_at big_endian_at four_bytes
bytes = tt

-- bytes that are stored
unfoldable pub stores : Unit {0}
unfolding bytes store round_up
stores = tt
