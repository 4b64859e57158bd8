-- `receiver_bytes::receiver::block_data` meets its contract: a mark that is empty has a place.
use mathlib.Core.Path.{sym, ◌∙◌}
use Rattle.receiver_bytes.proofs.ReceiverCases.{unmarked-below}
use Rattle.receiver_bytes.proofs.receiver.block_data.Goals as goal

pub keep-requires : goal.keep-requires
keep-requires c = let x = c.args in unmarked-below x.bytes.now x.word_id (sym c.is_marked.ensures ∙ c.if-is_marked.false)
