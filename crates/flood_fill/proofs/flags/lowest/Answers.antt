use Rattle.std.proofs.Common.{rules}
use Rattle.flood_fill.proofs.ReceiveFlags.{lowest_found}
use Rattle.flood_fill.proofs.flags.lowest.Goals as goal

pub returns-clause-place : goal.returns-clause-place
returns-clause-place g c = rw (lowest_found g.F.Flag.reads c.args.flags.now) (search rules)
