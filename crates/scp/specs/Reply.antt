-- The bytes of a response (paper 01, "SCP").
use Rattle.std.specs.Prelude.{List, [], ◌∷◌, ◌++◌, ℕ, ◌+◌, ◌*◌, take, drop}
use Rattle.words.specs.Bytes.{little_endian}
use Rattle.scp_packet.specs.Packet.{OK}
use Rattle.scp.specs.declared.answer.Identity.{Identity}

-- "An error or a plain OK is 4 bytes: code, seq."
unfoldable pub header : ℕ → List ℕ → List ℕ
header code s = little_endian 2 code ++ take 2 (drop 2 s)

-- "`SARK/SpiNNaker` and a NUL"
abbrev pub name : List ℕ
name = 83 ∷ 65 ∷ 82 ∷ 75 ∷ 47 ∷ 83 ∷ 112 ∷ 105 ∷ 78 ∷ 78 ∷ 97 ∷ 107 ∷ 101 ∷ 114 ∷ 0 ∷ []

-- "VER answers 31 bytes: OK, seq, arg1 (point-to-point address in the top 16 bits, physical number in bits 15:8, virtual in 7:0), arg2
-- (version in the top 16 bits, 256 in the lower), arg3 (date), then" the name
unfoldable pub version : Identity → List ℕ → List ℕ
version id s =
    header OK s
    ++ (little_endian 4 (65536 * id.point_to_point + 256 * id.physical_cpu + id.virtual_cpu)
    ++ (little_endian 4 (65536 * id.version + 256)
    ++ (little_endian 4 id.date
    ++ name)))
