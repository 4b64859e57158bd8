-- `receiver_bytes::write::keep` meets its contract: the word fits behind its mark.
use lib.ListN.{set}
use native.Mathlib.Omega.{arith}
use mathlib.Core.Path.{◌∙◌}
use Prim.Native.Nat.{◌+◌, ◌*◌}
use Rattle.words.specs.Bytes.{little_endian}
use Rattle.words.proofs.BytesLaws.{length-little_endian}
use Rattle.words.proofs.StoreLaws.{store-fits}
use Rattle.receiver_bytes.proofs.write.keep.Goals as goal

pub returns : goal.returns
returns c = let x = c.args in
    c.le_word.ensures
    ∙ store-fits (set x.bytes.now (264 + x.word_id) 1) (520 + 4 * x.word_id) (little_endian 4 x.word) (omega (arith, length-little_endian 4 x.word))
