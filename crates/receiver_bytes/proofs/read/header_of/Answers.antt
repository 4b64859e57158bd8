-- `receiver_bytes::read::header_of` meets its contract: each number is that of two bytes of the receiver.
use native.Mathlib.Omega.{arith}
use Rattle.words.proofs.BytesLaws.{little-at-part}
use Rattle.receiver_bytes.specs.Receiver.{header_in}
use Rattle.receiver_bytes.proofs.read.header_of.Goals as goal

pub returns : goal.returns
unfolding header_in
returns c = let d = c in
    let b = d in
    let a = b in
    let s = a.args.bytes.now in
    simp (
      c.opened.ensures,
      c.le_half-4.ensures,
      d.le_half-3.ensures,
      b.le_half-2.ensures,
      a.le_half.ensures,
      little-at-part 2 0 2 s (omega arith),
      little-at-part 2 2 2 s (omega arith),
      little-at-part 2 4 2 s (omega arith),
      little-at-part 2 6 2 s (omega arith),
    )
