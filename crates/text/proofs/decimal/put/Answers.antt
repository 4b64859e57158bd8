-- `text::decimal::put` meets its contract: as many digits as the number has.
use Rattle.text.specs.Decimal.{decimal}
use Rattle.text.proofs.decimal.put.Goals as goal

pub returns : goal.returns
unfolding decimal
returns c = rw c.width.ensures at c.put.ensures
