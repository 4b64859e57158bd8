-- `compare::pairs::is_alike` meets its contract.
use mathlib.Core.Path.{sym}
use Rattle.words.proofs.ChoiceLaws.{true-is-false}
use Rattle.compare.proofs.CodeLaws.{beq_same}
use Rattle.compare.proofs.pairs.is_alike.Goals as goal

pub returns-then-old-new : goal.returns-then-old-new
returns-then-old-new c = λ e. true-is-false (sym e)

pub returns : goal.returns
returns c = λ e. (e, beq_same _ _ c.if-old-new.false)
