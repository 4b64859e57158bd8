-- `srom_pack::block::fill_block` meets its contract: the header and the turned word repeated adjoin.
use mathlib.Core.Path.{ap, sym, ◌∙◌}
use Prim.Native.Nat.{◌+◌}
use native.Mathlib.Omega.{arith}
use Rattle.words.specs.Bytes.{little_endian}
use Rattle.words.proofs.BytesLaws.{little_endian-turned}
use Rattle.word_blocks.specs.Repeat.{filling}
use Rattle.word_blocks.proofs.RepeatLaws.{length-filling, fill-part}
use Rattle.words.specs.Store.{store}
use Rattle.words.proofs.StoreLaws.{store-fits}
use Rattle.word_blocks.specs.Swap.{swap_words}
use Rattle.word_blocks.proofs.SwapLaws.{length-swap, swap-filling}
use Rattle.srom_pack.proofs.Writing.{block-put}
use Rattle.srom_pack.proofs.block.fill_block.Goals as goal

pub returns : goal.returns
returns c = let turn = c.word-little in
    let front = c in
    let start = front in
    let x = start.args in
    let m = front.put_header.new.output in
    let p = x.at + 7 in
    let body = c.fill in
    let d = filling x.size x.word in
    let n = length-filling x.size x.word in
    let e = sym (swap-filling x.word turn.result (ap (little_endian 4) turn.ensures ∙ little_endian-turned 4 x.word) x.size start.requires.1) in
    let f = fill-part m p x.size turn.result body.new.part (omega arith) body.ensures ∙ ap (store m p) e in
    let g = sym (store-fits m p (swap_words d) (omega (arith, length-swap d))) in
    block-put x.output.now x.at x.address m _ d (omega arith) (rw n front.put_header.ensures) (f ∙ g)
