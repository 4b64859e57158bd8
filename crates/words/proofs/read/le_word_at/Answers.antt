-- `words::read::le_word_at` meets its contract: the bytes from the offset on, and none past the end.
use mathlib.Core.Path.{sym, ◌∙◌}
use native.Mathlib.Omega.{arith}
use Rattle.words.specs.Bytes.{little_endian_at}
use Rattle.words.proofs.BytesLaws.{little-at-rest, little-at-past}
use Rattle.words.proofs.StdLaws.{from-le-4}
use Rattle.words.proofs.read.le_word_at.Goals as goal

pub returns-then-at-s : goal.returns-then-at-s
unfolding little_endian_at
returns-then-at-s c = let x = c.args in rw c.first.ensures at c.from_le_bytes.ensures ∙ from-le-4 _ ∙ little-at-rest 4 x.at x.s.now

pub returns : goal.returns
returns c = let x = c.args in sym (little-at-past 4 x.at x.s.now (omega arith))
