-- `words::put::be_half` meets its contract: the bytes that the library makes are the definition's.
use Rattle.words.proofs.StdLaws.{to-be-2}
use Rattle.words.proofs.put.be_half.Goals as goal

pub returns : goal.returns
returns c = rw (← to-be-2 c.args.n, ← c.to_be_bytes.ensures) c.bytes.ensures
