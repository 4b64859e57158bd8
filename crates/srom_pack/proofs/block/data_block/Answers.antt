-- `srom_pack::block::data_block` meets its contract: the header and the swapped words adjoin.
use Rattle.srom_pack.proofs.Writing.{block-put}
use Rattle.srom_pack.proofs.block.data_block.Goals as goal

pub returns : goal.returns
returns c = let front = c in
    let start = front in
    let x = start.args in
    block-put x.output.now x.at x.address _ _ x.source.now start.requires.0 front.put_header.ensures c.put.ensures
