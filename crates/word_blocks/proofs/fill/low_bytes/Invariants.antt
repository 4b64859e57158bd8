use mathlib.Core.Path.{◌≡◌}
use mathlib.Core.List.{◌++◌}
use Prim.Native.Nat.{◌-◌}
use lib.ListN.{length, take}
use Rattle.words.specs.Bytes.{little_endian}
use Rattle.word_blocks.proofs.fill.low_bytes.Given as goal

abbrev pub invariant-loop-byte : goal.invariant-loop-byte
invariant-loop-byte l = take l.byte-index l.part ++ little_endian (length l.initial.part - l.byte-index) l.rest ≡ little_endian (length l.initial.part) l.word
