-- `words::read::be_word` meets its contract: the library reads the definition's bytes.
use mathlib.Core.Path.{◌∙◌}
use Rattle.words.specs.Bytes.{big_endian_at}
use Rattle.words.proofs.StdLaws.{from-be-4}
use Rattle.words.proofs.read.be_word.Goals as goal

pub returns : goal.returns
unfolding big_endian_at
returns c = rw c.first.ensures at c.from_be_bytes.ensures ∙ from-be-4 c.args.s.now
