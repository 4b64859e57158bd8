-- `compare::segment::fill_byte` meets its contract: the word's bytes.
use Rattle.words.proofs.BytesLaws.{word_bytes}
use Rattle.compare.proofs.segment.fill_byte.Goals as goal

pub returns : goal.returns
returns c = rw (word_bytes c.args.word, ← c.to_le_bytes.ensures)
