-- `words::four::short` meets its contract: the bytes stand at the front of sixteen zeros.
use mathlib.Core.Path.{◌∙◌}
use native.Mathlib.Omega.{arith}
use Rattle.words.proofs.FourLaws.{four-padded}
use Rattle.words.proofs.four.short.Goals as goal

pub returns : goal.returns
returns c = c.whole.ensures ∙ four-padded 16 c.args.s.now _ (omega arith) c.bytes.ensures
