-- `aplx_pack::pack::AplxPacker::read` meets its contract: it is the reader of plans.
use Rattle.plan.proofs.CodeLaws.{counted}
use Rattle.aplx_pack.proofs.pack.AplxPacker.read.Goals as goal

pub returns-clause-counted : goal.returns-clause-counted
returns-clause-counted c = λ p e. counted 32 c.args.plan.now c.type_inv.plan c.read.ensures e
