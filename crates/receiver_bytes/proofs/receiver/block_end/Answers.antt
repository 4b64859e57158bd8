-- `receiver_bytes::receiver::block_end` meets its contract: words are missing, or the block is done.
use native.Mathlib.Omega.{arith}
use mathlib.Core.Path.{◌≡◌, refl}
use borrow.Author.Tests.{lt-ltb, le-ltb}
use Rattle.std.proofs.lemmas.Grind.{common_steps}
use Rattle.flood_fill.specs.declared.message.Message.TheVariants.{BlockEnd}
use Rattle.flood_fill.specs.Refusals.{passed}
use Rattle.receiver_bytes.proofs.ReceiverCases.{when-passed, end-missing, end-done}
use Rattle.receiver_bytes.proofs.receiver.block_end.Goals as goal

pub returns-then-number-gt0 : goal.returns-then-number-gt0
returns-then-number-gt0 c = let x = c.args in
    let s = x.bytes.now in
    let h = c.header_of-header.ensures in
    let q : c.test.result ≡ passed = grind (arith, common_steps) in
    let p = when-passed s x.image.now (BlockEnd x.block) h c.test.ensures q in
    let n = c.missing_words-number in
    let d = rw n.ensures at (lt-ltb 0 n.result c.if-number-gt0.true) in
    rw (end-missing s x.image.now x.block (omega arith) p c.open_words-used.result (rw h at c.open_words-used.ensures) d, n.ensures, c.lowest_missing-lowest.ensures)
    record { result_value = refl; bytes_after = refl; image_after = refl }

pub returns : goal.returns
returns c = let x = c.args in
    let s = x.bytes.now in
    let h = c.header_of-header.ensures in
    let q : c.test.result ≡ passed = grind (arith, common_steps) in
    let p = when-passed s x.image.now (BlockEnd x.block) h c.test.ensures q in
    let n = c.missing_words-number in
    let d = rw n.ensures at (le-ltb 0 n.result c.if-number-gt0.false) in
    rw (end-done s x.image.now x.block (omega arith) p c.open_words-used.result (rw h at c.open_words-used.ensures) d)
    record { result_value = refl; bytes_after = c.close.ensures; image_after = rw h at c.put_words.ensures }
