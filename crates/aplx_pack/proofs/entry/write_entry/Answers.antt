-- `aplx_pack::entry::write_entry` meets its contract: each arm writes the entry of its kind of piece.
use Rattle.words.specs.Four.{four_bytes}
use Rattle.words.proofs.BytesLaws.{little_endian-modulo}
use Rattle.aplx_pack.proofs.entry.write_entry.Goals as goal

pub returns-in-Put : goal.returns-in-Put
unfolding four_bytes
returns-in-Put c = rw (c.in-Put.is, c.put.ensures, little_endian-modulo 4 c.in-Put.length)

pub returns-in-Fill : goal.returns-in-Fill
unfolding four_bytes
returns-in-Fill c = rw (c.in-Fill.is, c.put-in-Fill.ensures, little_endian-modulo 4 c.in-Fill.length)
