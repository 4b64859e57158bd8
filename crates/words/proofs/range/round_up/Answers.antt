-- `words::range::round_up` meets its contract: the code computes the definition.
use Rattle.words.specs.Round.{round_up}
use mathlib.Core.Path.{refl}
use Rattle.words.proofs.range.round_up.Goals as goal

pub returns : goal.returns
unfolding round_up
returns c = refl
