-- What the code's answers say, in the terms of paper 01.
use Rattle.std.specs.Prelude.{ℕ, Result, Ok, Err}
use Rattle.scp_packet.specs.declared.packet.ReturnCode.{ReturnCode}
use Rattle.scp_packet.specs.declared.packet.ReturnCode.TheVariants.{Okay, BadLength, BadCommand, BadArgument}
use Rattle.scp_packet.specs.Packet.{OK, LEN, CMD, ARG}
use Rattle.scp_packet.specs.Transfer.{Transfer, codes, moves}

-- the number of a return code
abbrev pub code_of : ReturnCode → ℕ
code_of Okay = OK
code_of BadLength = LEN
code_of BadCommand = CMD
code_of BadArgument = ARG

abbrev pub transfer_is : Result Unit ReturnCode → Transfer
transfer_is (Err c) = codes (code_of c)
transfer_is (Ok w) = moves
