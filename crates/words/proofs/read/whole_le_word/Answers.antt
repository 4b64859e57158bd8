-- `words::read::whole_le_word` meets its contract: the four bytes at the place.
use native.Mathlib.Omega.{arith}
use Rattle.words.specs.Bytes.{from_little_endian, little_endian_at}
use Rattle.words.proofs.BytesLaws.{first-four-at}
use Rattle.words.proofs.read.whole_le_word.Goals as goal

pub returns : goal.returns
unfolding from_little_endian little_endian_at
returns c = rw first-four-at (omega (arith, c.from_le_bytes.ensures))
