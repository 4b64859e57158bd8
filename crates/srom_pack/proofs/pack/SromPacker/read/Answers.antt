-- `srom_pack::pack::SromPacker::read` meets its contract: it is the reader of plans.
use Rattle.plan.proofs.CodeLaws.{counted}
use Rattle.srom_pack.proofs.pack.SromPacker.read.Goals as goal

pub returns-clause-counted : goal.returns-clause-counted
returns-clause-counted c = λ p e. counted 4 c.args.plan.now c.type_inv.plan c.read.ensures e
