-- `receiver_bytes::read::put_words` meets its contract: words as bytes are the bytes that they were read from.
use Rattle.words.specs.Bytes.{Bytes}
use native.Mathlib.Omega.{arith}
use mathlib.Core.Path.{◌≡◌}
use Prim.Native.Nat.{◌+◌, ◌*◌, ◌-◌}
use Rattle.words.proofs.ChoiceLaws.{all-elements}
use Rattle.receiver_bytes.specs.Receiver.{receiver_in}
use Rattle.receiver_bytes.proofs.ReceiverWords.{bytes-of-words}
use Rattle.receiver_bytes.proofs.read.put_words.Goals as goal

pub returns : goal.returns
unfolding receiver_in
returns c = let w = c in
    let x = w.args in
    let s = x.bytes.now in
    let are : Bytes s = all-elements _ 0 s w.fits-bytes in
    let e : 520 + 4 * x.used - 520 ≡ 4 * x.used = omega arith in
    rw (bytes-of-words s are x.used 256 520 (omega arith) (omega arith), ← e) w.bytes.ensures
