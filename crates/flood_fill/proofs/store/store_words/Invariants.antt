use Rattle.std.proofs.Common.{◌≡◌, length, take}
use Rattle.words.specs.Store.{store}
use Rattle.flood_fill.specs.Receive.{word_bytes}
use Rattle.flood_fill.proofs.store.store_words.Given as goal

abbrev pub invariant-loop-i : goal.invariant-loop-i
invariant-loop-i l = (length l.image ≡ length l.initial.image) × (l.image ≡ store l.initial.image l.at (word_bytes (take l.i l.words)))
