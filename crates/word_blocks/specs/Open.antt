-- A group of definitions that computed examples open together: `unfolding NAME` opens all in the line under NAME. Not needed for belief.
use Rattle.words.specs.Open.{stores}
use Rattle.word_blocks.specs.Repeat.{repeated, filling}
use Rattle.word_blocks.specs.Swap.{swap_words}

-- words in a row, stored
unfoldable pub rows : Unit {0}
unfolding stores repeated filling swap_words
rows = tt
