-- `aplx_read::read_back::PlanOfImagePacker::size` meets its contract: the length of the plan by what was counted.
use Rattle.std.proofs.Common.{arith}
use Rattle.plan.specs.Packed.{pieces_in}
use Rattle.aplx_read.proofs.PlanBytesLaws.{length-plan_bytes}
use Rattle.aplx_read.proofs.read_back.PlanOfImagePacker.size.Goals as goal

pub returns : goal.returns
returns c = λ t k. omega (arith, length-plan_bytes (pieces_in t), k.count, k.puts, k.fills)
