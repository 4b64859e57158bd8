-- `words::turned::half` meets its contract: the library's swap is the definition's.
use mathlib.Core.Path.{◌∙◌}
use Rattle.words.proofs.StdLaws.{swap-2}
use Rattle.words.proofs.turned.half.Goals as goal

pub returns : goal.returns
returns c = c.swap_bytes.ensures ∙ swap-2 c.args.n
