-- `srom_pack::pack::SromPacker::size` meets its contract: the length of the image by what was counted.
use Rattle.std.proofs.Common.{arith}
use Rattle.plan.specs.Packed.{pieces_in}
use Rattle.srom_pack.proofs.ImageLaws.{length-srom_image}
use Rattle.srom_pack.proofs.pack.SromPacker.size.Goals as goal

pub returns : goal.returns
returns c = λ t k. omega (arith, length-srom_image (pieces_in t), k.count, k.puts, k.fills)
