-- Groups of definitions that computed examples open together: `unfolding NAME` opens all in the line under NAME. Not needed for belief.
use Rattle.words.specs.Open.{stores}
use Rattle.memory_map.specs.Open.{lookups}
use Rattle.scp.specs.Answer.{run_packet, load_packet, read_packet, write_packet, command, packet, reaction, scp_answer}
use Rattle.scp.specs.Reply.{header, version}
use Rattle.scp_packet.specs.Packet.{aligned}
use Rattle.scp_packet.specs.Transfer.{transfer}

-- the answer to a packet
unfoldable pub answers : Unit {0}
unfolding stores lookups scp_answer reaction packet command load_packet run_packet read_packet write_packet transfer header aligned version
answers = tt
