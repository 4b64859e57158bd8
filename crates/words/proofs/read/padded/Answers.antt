-- `words::read::padded` meets its contract: zeros stand behind the bytes.
use native.Mathlib.Omega.{arith}
use Rattle.words.proofs.StdLaws.{first-padded}
use Rattle.words.proofs.read.padded.Goals as goal

pub returns : goal.returns
returns g c = rw c.copy_from_slice.ensures.after (first-padded g.row.N c.args.s.now (omega arith))
