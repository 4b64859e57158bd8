use Rattle.std.proofs.Common.{◌≡◌, List, length, take}
use Rattle.words.specs.Store.{store}
use Rattle.stretches.specs.Stretches.{Stretch}
use Rattle.compare.specs.Code.Listed.{Listed}
use Rattle.compare.specs.Compare.{stretch_bytes}
use Rattle.compare.proofs.listing.Listing.put.Given as goal

abbrev pub invariant-loop-i : goal.invariant-loop-i
invariant-loop-i l = ((t : List Stretch) → Listed l.self t → l.output ≡ store l.initial.output 0 (stretch_bytes (take l.i t))) × (length l.output ≡ length l.initial.output)
