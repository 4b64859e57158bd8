-- `flood_fill::flags::missing` meets its contract: when the loop ends all flags are counted.
use Rattle.std.proofs.Common.{arith}
use Rattle.std.proofs.lemmas.Grind.{common_steps}
use Rattle.flood_fill.proofs.ReceiveFlags.{missing_counted}
use Rattle.flood_fill.proofs.flags.missing.Goals as goal

pub returns-clause-number : goal.returns-clause-number
returns-clause-number g c = rw (missing_counted g.F.Flag.reads c.args.flags.now) (grind (arith, common_steps))
