-- `receiver_bytes::write::close` meets its contract: the four bytes of the open block fit, and there is a byte for each of 256 blocks.
use native.Mathlib.Omega.{arith}
use mathlib.Core.Path.{◌≡◌, ◌∙◌, ap}
use mathlib.Core.List.{List}
use Prim.Native.Nat.{ℕ, ◌+◌, ◌≤◌}
use lib.ListN.{length, set, replicate}
use borrow.Author.Tests.{lt-ltb, le-ltb}
use Rattle.words.specs.Bytes.{little_endian}
use Rattle.words.specs.Store.{store, store_if_fits}
use Rattle.words.proofs.StoreLaws.{store-fits}
use Rattle.receiver_bytes.specs.Receiver.{written}
use Rattle.receiver_bytes.proofs.write.close.Goals as goal

closed : (s : List ℕ) → 8 ≤ length s → store_if_fits s 4 (little_endian 4 0) ≡ store s 4 (replicate 4 0)
unfolding little_endian
closed s h = store-fits s 4 (little_endian 4 0) h

pub returns-then-block-lt-PLACES : goal.returns-then-block-lt-PLACES
unfolding written
returns-then-block-lt-PLACES c = let x = c.args in
    rw (lt-ltb x.block 256 c.if-block-lt-PLACES.true) (ap (λ t. set t (8 + x.block) 1) (c.le_word.ensures ∙ closed x.bytes.now (omega arith)))

pub returns-else-block-lt-PLACES : goal.returns-else-block-lt-PLACES
unfolding written
returns-else-block-lt-PLACES c = let x = c.args in
    rw (le-ltb x.block 256 c.if-block-lt-PLACES.false) (c.le_word.ensures ∙ closed x.bytes.now (omega arith))
