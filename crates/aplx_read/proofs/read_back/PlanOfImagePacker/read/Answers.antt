-- `aplx_read::read_back::PlanOfImagePacker::read` meets its contract: it is the reader of images.
use Rattle.aplx_read.proofs.CodeLaws.{counted}
use Rattle.aplx_read.proofs.read_back.PlanOfImagePacker.read.Goals as goal

pub returns-clause-counted : goal.returns-clause-counted
returns-clause-counted c = λ p e. counted c.args.image.now c.type_inv.image c.read.ensures e
