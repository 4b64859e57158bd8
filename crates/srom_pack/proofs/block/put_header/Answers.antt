-- `srom_pack::block::put_header` meets its contract: the start byte, the length and the address adjoin.
use Rattle.srom_pack.proofs.Writing.{header-put}
use Rattle.srom_pack.proofs.block.put_header.Goals as goal

pub returns : goal.returns
returns c = let half = c in
    let start = half in
    let x = start.args in
    header-put x.output.now x.at x.address _ _ x.words start.requires half.be_half.ensures c.be_word.ensures
