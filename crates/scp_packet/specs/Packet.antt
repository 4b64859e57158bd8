-- The numbers of a packet, and the return codes (paper 01, "SCP").
use Rattle.std.specs.Prelude.{Bool, true, List, ℕ, ◌%◌, eqb, drop, if◌then◌else◌}
use Rattle.words.specs.Bytes.{little_endian_at}

-- "Packet: cmd_rc and seq (16 bits each), arg1 to arg3 (32 bits), data, Little Endian."
abbrev pub command_of : List ℕ → ℕ
command_of s = little_endian_at 2 s 0

abbrev pub arg1 : List ℕ → ℕ
arg1 s = little_endian_at 4 s 4

abbrev pub arg2 : List ℕ → ℕ
arg2 s = little_endian_at 4 s 8

abbrev pub arg3 : List ℕ → ℕ
arg3 s = little_endian_at 4 s 12

abbrev pub data_of : List ℕ → List ℕ
data_of s = drop 16 s

-- "OK 0x80, LEN 0x81, CMD 0x83, ARG 0x84"
abbrev pub OK : ℕ
OK = 0x80

abbrev pub LEN : ℕ
LEN = 0x81

abbrev pub CMD : ℕ
CMD = 0x83

abbrev pub ARG : ℕ
ARG = 0x84

-- "a multiple of 1, 2 or 4 by type"
unfoldable pub aligned : ℕ → ℕ → Bool
aligned type n =
    if eqb type 0 then true
    else if eqb type 1 then eqb (n % 2) 0
    else eqb (n % 4) 0
