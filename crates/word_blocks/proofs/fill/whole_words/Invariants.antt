use mathlib.Core.Path.{◌≡◌}
use Rattle.word_blocks.specs.Repeat.{repeated}
use Rattle.words.specs.Store.{store}
use Rattle.word_blocks.proofs.fill.whole_words.Given as goal

abbrev pub invariant-loop-i : goal.invariant-loop-i
invariant-loop-i l = l.part ≡ store l.initial.part 0 (repeated l.i l.word)
