-- `srom::walk::next_item` meets its contract: no pad stands where the pads end.
use Rattle.srom.proofs.WalkLaws.{pads-end-other}
use Rattle.srom.proofs.walk.next_item.Goals as goal

pub item_at-requires : goal.item_at-requires
item_at-requires c = let x = c.args in rw c.pads_end.ensures (pads-end-other x.rom.now.bytes.now x.offset)
