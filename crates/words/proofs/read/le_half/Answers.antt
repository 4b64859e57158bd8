-- `words::read::le_half` meets its contract: the library reads the definition's bytes.
use mathlib.Core.Path.{◌∙◌}
use Rattle.words.specs.Bytes.{little_endian_at}
use Rattle.words.proofs.StdLaws.{from-le-2}
use Rattle.words.proofs.read.le_half.Goals as goal

pub returns : goal.returns
unfolding little_endian_at
returns c = rw c.first.ensures at c.from_le_bytes.ensures ∙ from-le-2 c.args.s.now
