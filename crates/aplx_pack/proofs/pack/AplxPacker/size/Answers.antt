-- `aplx_pack::pack::AplxPacker::size` meets its contract: the length of the image by what was counted.
use Rattle.std.proofs.Common.{arith}
use Rattle.plan.specs.Packed.{pieces_in}
use Rattle.aplx_pack.proofs.ImageLaws.{length-aplx_image}
use Rattle.aplx_pack.proofs.pack.AplxPacker.size.Goals as goal

pub returns : goal.returns
returns c = λ t k. omega (arith, length-aplx_image (pieces_in t), k.count, k.puts, k.fills)
