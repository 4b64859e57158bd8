use Prim.Native.Nat.{◌*◌}
use mathlib.Core.Path.{◌≡◌}
use lib.ListN.{take}
use Rattle.words.specs.Store.{store}
use Rattle.word_blocks.specs.Swap.{swap_words}
use Rattle.word_blocks.proofs.swap.swap_whole.Given as goal

abbrev pub invariant-loop-i : goal.invariant-loop-i
invariant-loop-i l = l.part ≡ store l.initial.part 0 (swap_words (take (l.i * 4) l.source))
