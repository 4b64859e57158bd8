-- `text::decimal::width` meets its contract: the greatest power of ten that is not above the number counts the digits before the last.
use mathlib.Core.Path.{ap, sym, ◌∙◌}
use Rattle.text.specs.Decimal.{width}
use Rattle.text.proofs.DecimalLaws.{width-power, width-zero}
use Rattle.text.proofs.decimal.width.Goals as goal

pub returns-in-Some : goal.returns-in-Some
returns-in-Some c = let k = c.in-Some.ensures in sym (width-power c.in-Some.power c.args.n k.bound k.power_le k.next_power_gt)

pub returns-in-None : goal.returns-in-None
returns-in-None c = sym (ap width c.in-None.ensures.none ∙ width-zero)
