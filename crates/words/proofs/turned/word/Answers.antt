-- `words::turned::word` meets its contract: the library's swap is the definition's.
use mathlib.Core.Path.{◌∙◌}
use Rattle.words.proofs.StdLaws.{swap-4}
use Rattle.words.proofs.turned.word.Goals as goal

pub returns : goal.returns
returns c = c.swap_bytes.ensures ∙ swap-4 c.args.n
