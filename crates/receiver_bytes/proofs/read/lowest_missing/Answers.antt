-- `receiver_bytes::read::lowest_missing` meets its contract: by the flags of the first words.
use mathlib.Core.Path.{ap, ◌∙◌}
use Rattle.flood_fill.specs.Receive.{lowest_in}
use Rattle.receiver_bytes.specs.Receiver.{receiver_in}
use Rattle.receiver_bytes.proofs.ReceiverFlags.{first_flags}
use Rattle.receiver_bytes.proofs.read.lowest_missing.Goals as goal

pub returns : goal.returns
unfolding receiver_in
returns c = c.lowest.ensures.place ∙ ap lowest_in (first_flags c.args.bytes.now 264 c.args.used c.requires)
