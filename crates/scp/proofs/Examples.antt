-- Computed examples of SCP answers (paper 01, "SCP" and "Bench pieces with known weight").
use Rattle.std.specs.Prelude.{◌≡◌, refl, true, List, [], ◌∷◌, ◌++◌, ℕ, take, replicate}
use Rattle.words.specs.Bytes.{little_endian}
use Rattle.outcome.specs.Outcome.{arm, thumb}
use Rattle.memory_map.specs.declared.map.Map.{Map}
use Rattle.memory_map.specs.Lookup.{Lookup, lookup_in}
use Rattle.scp.specs.declared.answer.Identity.{Identity}
use Rattle.scp.specs.Answer.{refused, silent, responds, runs, without, run_packet, read_packet, write_packet, packet, answered, scp_answer}
use Rattle.scp.specs.Open as group
use Rattle.scp.specs.Reply.{version}

-- 512 bytes at address 4096 with every right
find : Lookup
find =
    lookup_in
    (record { base = 4096; length = 512; place = 0; rights = record { read = true; write = true; run = true } } ∷ [])

abbrev memory : List ℕ
memory = replicate 512 7

identity : Identity
identity =
    record { point_to_point = 0x0102; physical_cpu = 3; virtual_cpu = 4; version = 129; date = 0x05060708 }

-- a packet with sequence number 0x2211 and its three arguments
asks : ℕ → ℕ → ℕ → ℕ → List ℕ
asks c x y z = little_endian 2 c ++ (0x11 ∷ 0x22 ∷ (little_endian 4 x ++ (little_endian 4 y ++ little_endian 4 z)))

record Reads : Type 0 where
  pub most : (read_packet find (asks 2 4096 256 0) memory).reply ≡ responds 260
  pub data-there : take 8 (read_packet find (asks 2 4096 256 0) memory).response ≡ 0x80 ∷ 0 ∷ 0x11 ∷ 0x22 ∷ 7 ∷ 7 ∷ 7 ∷ 7 ∷ []
  pub too_many : (read_packet find (asks 2 4096 257 0) memory).response ≡ 0x84 ∷ 0 ∷ 0x11 ∷ 0x22 ∷ []
  pub no-type : (read_packet find (asks 2 4096 4 3) memory).response ≡ 0x84 ∷ 0 ∷ 0x11 ∷ 0x22 ∷ []
  pub cut_short : (read_packet find (take 15 (asks 2 4096 4 0)) memory).response ≡ 0x81 ∷ 0 ∷ 0x11 ∷ 0x22 ∷ []
  pub odd-address : (read_packet find (asks 2 4097 4 1) memory).response ≡ 0x84 ∷ 0 ∷ 0x11 ∷ 0x22 ∷ []
  pub odd-length : (read_packet find (asks 2 4096 6 2) memory).response ≡ 0x84 ∷ 0 ∷ 0x11 ∷ 0x22 ∷ []
  pub bytes-anywhere : (read_packet find (asks 2 4097 3 0) memory).reply ≡ responds 7
  pub nowhere : (read_packet find (asks 2 0 4 0) memory).response ≡ 0x84 ∷ 0 ∷ 0x11 ∷ 0x22 ∷ []
  -- length 0 at an address in no region
  pub nothing : (read_packet find (asks 2 0 0 2) memory).response ≡ 0x80 ∷ 0 ∷ 0x11 ∷ 0x22 ∷ []
  pub nothing-odd : (read_packet find (asks 2 1 0 2) memory).response ≡ 0x84 ∷ 0 ∷ 0x11 ∷ 0x22 ∷ []

reads : Reads
unfolding find asks group.answers
reads = record {
  most = refl;
  data-there = refl;
  too_many = refl;
  no-type = refl;
  cut_short = refl;
  odd-address = refl;
  odd-length = refl;
  bytes-anywhere = refl;
  nowhere = refl;
  nothing = refl;
  nothing-odd = refl;
}

record Writes : Type 0 where
  pub bytes : take 6 (write_packet find (asks 3 4097 3 0 ++ 1 ∷ 2 ∷ 3 ∷ []) memory).memory ≡ 7 ∷ 1 ∷ 2 ∷ 3 ∷ 7 ∷ 7 ∷ []
  pub halfwords : take 6 (write_packet find (asks 3 4098 2 1 ++ 1 ∷ 2 ∷ []) memory).memory ≡ 7 ∷ 7 ∷ 1 ∷ 2 ∷ 7 ∷ 7 ∷ []
  pub words : take 6 (write_packet find (asks 3 4096 4 2 ++ 1 ∷ 2 ∷ 3 ∷ 4 ∷ []) memory).memory ≡ 1 ∷ 2 ∷ 3 ∷ 4 ∷ 7 ∷ 7 ∷ []
  pub answered-ok : (write_packet find (asks 3 4096 4 2 ++ 1 ∷ 2 ∷ 3 ∷ 4 ∷ []) memory).response ≡ 0x80 ∷ 0 ∷ 0x11 ∷ 0x22 ∷ []
  pub surplus : (write_packet find (asks 3 4096 3 0 ++ 1 ∷ 2 ∷ 3 ∷ 4 ∷ []) memory).response ≡ 0x81 ∷ 0 ∷ 0x11 ∷ 0x22 ∷ []
  pub surplus-stores : (write_packet find (asks 3 4096 3 0 ++ 1 ∷ 2 ∷ 3 ∷ 4 ∷ []) memory).memory ≡ memory
  -- LEN of the whole packet before ARG of its alignment, and ARG of a limit before both
  pub length-first : (write_packet find (asks 3 4097 4 2 ++ 1 ∷ 2 ∷ 3 ∷ []) memory).response ≡ 0x81 ∷ 0 ∷ 0x11 ∷ 0x22 ∷ []
  pub limit-first : (write_packet find (asks 3 4097 4 3 ++ 1 ∷ []) memory).response ≡ 0x84 ∷ 0 ∷ 0x11 ∷ 0x22 ∷ []
  pub nowhere : (write_packet find (asks 3 4606 4 0 ++ 1 ∷ 2 ∷ 3 ∷ 4 ∷ []) memory).response ≡ 0x84 ∷ 0 ∷ 0x11 ∷ 0x22 ∷ []
  pub nothing : (write_packet find (asks 3 0 0 2) memory).response ≡ 0x80 ∷ 0 ∷ 0x11 ∷ 0x22 ∷ []

writes : Writes
unfolding find asks group.answers
writes = record {
  bytes = refl;
  halfwords = refl;
  words = refl;
  answered-ok = refl;
  surplus = refl;
  surplus-stores = refl;
  length-first = refl;
  limit-first = refl;
  nowhere = refl;
  nothing = refl;
}

record Others : Type 0 where
  pub version-reply : version identity (0 ∷ 0 ∷ 0x11 ∷ 0x22 ∷ [])
      ≡ 0x80 ∷ 0 ∷ 0x11 ∷ 0x22 ∷ 4 ∷ 3 ∷ 2 ∷ 1 ∷ 0 ∷ 1 ∷ 129 ∷ 0 ∷ 8 ∷ 7 ∷ 6 ∷ 5
      ∷ 83 ∷ 65 ∷ 82 ∷ 75 ∷ 47 ∷ 83 ∷ 112 ∷ 105 ∷ 78 ∷ 78 ∷ 97 ∷ 107 ∷ 101 ∷ 114 ∷ 0 ∷ []
  pub run-arm : (run_packet find (asks 1 4096 0 0) memory).reply ≡ runs arm 4096
  pub run-thumb : (run_packet find (take 8 (asks 1 4099 0 0)) memory).reply ≡ runs thumb 4099
  pub run-silent : (run_packet find (asks 1 4096 0 0) memory).response ≡ []
  pub run-nowhere : (run_packet find (asks 1 4098 0 0) memory).response ≡ 0x84 ∷ 0 ∷ 0x11 ∷ 0x22 ∷ []
  pub run_short : (run_packet find (take 7 (asks 1 4096 0 0)) memory).response ≡ 0x81 ∷ 0 ∷ 0x11 ∷ 0x22 ∷ []
  pub under-four : packet find identity (take 3 (asks 0 0 0 0)) memory ≡ without silent memory
  pub over-most : (packet find identity (asks 0 0 0 0 ++ replicate 257 0) memory).response ≡ 0x81 ∷ 0 ∷ 0x11 ∷ 0x22 ∷ []
  pub unknown : (packet find identity (asks 5 0 0 0) memory).response ≡ 0x83 ∷ 0 ∷ 0x11 ∷ 0x22 ∷ []
  -- an output of 271 bytes is too small, whatever the map
  pub small-output : (map : Map) → scp_answer map identity (asks 0 0 0 0) memory (replicate 271 9)
      ≡ record { reply = refused 10 0; memory = memory; output = replicate 271 9 }
  -- the output past the response stays as it was
  pub past-response : (answered (packet find identity (asks 2 4096 4 0) memory) (replicate 10 9)).output ≡ 0x80 ∷ 0 ∷ 0x11 ∷ 0x22 ∷ 7 ∷ 7 ∷ 7 ∷ 7 ∷ 9 ∷ 9 ∷ []

others : Others
unfolding find asks identity group.answers
others = record {
  version-reply = refl;
  run-arm = refl;
  run-thumb = refl;
  run-silent = refl;
  run-nowhere = refl;
  run_short = refl;
  under-four = refl;
  over-most = refl;
  unknown = refl;
  small-output = λ map. refl;
  past-response = refl;
}
