-- `words::equal::is_equal` meets its contract.
use mathlib.Core.Path.{sym}
use borrow.Author.Tests.{eq-eqb, ne_eqb}
use Rattle.words.proofs.ChoiceLaws.{and-true, and-false}
use Rattle.words.proofs.equal.is_equal.Goals as goal

pub returns-then-a-b : goal.returns-then-a-b
returns-then-a-b c = let x = c.args in rw (ne_eqb x.a x.b c.if-a-b.true) (sym (and-false x.all))

pub returns : goal.returns
returns c = let x = c.args in rw (eq-eqb x.a x.b c.if-a-b.false) (sym (and-true x.all))
