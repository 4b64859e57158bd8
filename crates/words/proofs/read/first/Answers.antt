-- `words::read::first` meets its contract: all N bytes are there.
use mathlib.Core.Path.{sym, ◌∙◌}
use Rattle.words.proofs.BytesLaws.{first-take}
use Rattle.words.proofs.read.first.Goals as goal

pub returns-in-Some : goal.returns-in-Some
returns-in-Some g c = let s = c.in-Some.ensures.cases in s.same ∙ sym (first-take g.row.N c.args.s.now s.enough)
