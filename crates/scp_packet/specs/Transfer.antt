-- The tests of READ and WRITE packets that need no map (paper 01, "SCP").
use Rattle.std.specs.Prelude.{Bool, not, ◌&&◌, ◌||◌, List, ℕ, ◌+◌, ltb, eqb, length, if◌then◌else◌}
use Rattle.scp_packet.specs.Packet.{arg1, arg2, arg3, OK, LEN, ARG, aligned}

abbrev pub too_large : List ℕ → Bool
too_large s = ltb 256 (arg2 s) || ltb 2 (arg3 s)

abbrev pub other_length : List ℕ → Bool
other_length s = not (eqb (length s) (16 + arg2 s))

abbrev pub misaligned : List ℕ → Bool
misaligned s = not (aligned (arg3 s) (arg1 s) && aligned (arg3 s) (arg2 s))

-- what the tests of such a packet come to: a return code, or its range is transferred
pub data Transfer : Type 0 where
  codes : ℕ → Transfer
  moves : Transfer

-- "under .. 16 (READ, WRITE) bytes, LEN. READ and WRITE: arg2 over 256 or arg3 over 2, ARG; WRITE whose packet is not 16 + arg2 bytes, LEN;
-- address or length not a multiple of 1, 2 or 4 by type, ARG". "Length 0 touches nothing and is answered OK once aligned, at any address."
unfoldable pub transfer : Bool → List ℕ → Transfer
transfer write s =
    if ltb (length s) 16 then codes LEN
    else if too_large s then codes ARG
    else if write && other_length s then codes LEN
    else if misaligned s then codes ARG
    else if eqb (arg2 s) 0 then codes OK
    else moves
