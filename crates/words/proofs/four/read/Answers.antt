-- `words::four::read` meets its contract: where the sixteen bytes fit, where some do, and past the end.
use mathlib.Core.Path.{sym, ◌∙◌}
use native.Mathlib.Omega.{arith}
use Rattle.words.proofs.FourLaws.{four-at-rest, four-past}
use Rattle.words.proofs.four.read.Goals as goal

pub returns-then-at-s : goal.returns-then-at-s
returns-then-at-s c = let x = c.args in c.short.ensures ∙ four-at-rest x.at x.s.now

pub returns : goal.returns
returns c = let x = c.args in sym (four-past x.at x.s.now (omega arith))
