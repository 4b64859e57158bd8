-- `words::put::le_word` meets its contract: the bytes that the library makes are the definition's.
use Rattle.words.proofs.StdLaws.{to-le-4}
use Rattle.words.proofs.put.le_word.Goals as goal

pub returns : goal.returns
returns c = rw (← to-le-4 c.args.n, ← c.to_le_bytes.ensures) c.bytes.ensures
