-- `receiver_bytes::read::missing_words` meets its contract: by the flags of the first words.
use mathlib.Core.Path.{ap, ◌∙◌}
use Rattle.flood_fill.specs.Receive.{missing_in}
use Rattle.receiver_bytes.specs.Receiver.{receiver_in}
use Rattle.receiver_bytes.proofs.ReceiverFlags.{first_flags}
use Rattle.receiver_bytes.proofs.read.missing_words.Goals as goal

pub returns : goal.returns
unfolding receiver_in
returns c = c.missing.ensures.number ∙ ap missing_in (first_flags c.args.bytes.now 264 c.args.used c.requires)
