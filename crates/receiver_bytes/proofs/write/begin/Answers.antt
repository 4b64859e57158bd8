-- `receiver_bytes::write::begin` meets its contract: two numbers before zeros.
use mathlib.Core.Path.{◌∙◌}
use native.Mathlib.Numerals.{add-one}
use Rattle.words.specs.Bytes.{little_endian}
use Rattle.words.specs.Store.{store, store_if_fits}
use Rattle.receiver_bytes.specs.Receiver.{written}
use Rattle.receiver_bytes.proofs.write.begin.Goals as goal

pub returns : goal.returns
unfolding written little_endian store store_if_fits
returns c = let h = c.le_half in c.le_half-2.ensures ∙ rw (h.ensures, add-one c.args.last_block)
