-- A group of definitions that computed examples open together: `unfolding NAME` opens all in the line under NAME. Not needed for belief.
use Rattle.words.specs.Open.{stores}
use Rattle.aplx_copy.specs.Copy.{copy_words, copied}

-- copies in memory
unfoldable pub copies : Unit {0}
unfolding stores copied copy_words
copies = tt
