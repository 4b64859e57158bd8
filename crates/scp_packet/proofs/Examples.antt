-- Computed examples of the tests of READ and WRITE packets (paper 01, "SCP" and "Bench pieces with known weight").
use Rattle.std.specs.Prelude.{◌≡◌, refl, true, false, List, [], ◌∷◌, ◌++◌, ℕ, take}
use Rattle.words.specs.Bytes.{little_endian}
use Rattle.words.specs.Open.{bytes}
use Rattle.scp_packet.specs.Packet.{OK, LEN, ARG, aligned}
use Rattle.scp_packet.specs.Transfer.{codes, moves, transfer}

-- a packet of 16 bytes with these three arguments
asks : ℕ → ℕ → ℕ → List ℕ
asks x y z = 0 ∷ 0 ∷ 0x11 ∷ 0x22 ∷ (little_endian 4 x ++ (little_endian 4 y ++ little_endian 4 z))

record Transfers : Type 0 where
  pub most : transfer false (asks 4096 256 0) ≡ moves
  pub too_many : transfer false (asks 4096 257 0) ≡ codes ARG
  pub no-type : transfer false (asks 4096 4 3) ≡ codes ARG
  pub cut_short : transfer false (take 15 (asks 4096 4 0)) ≡ codes LEN
  pub odd-address : transfer false (asks 4097 4 2) ≡ codes ARG
  pub odd-length : transfer false (asks 4096 3 1) ≡ codes ARG
  pub nothing : transfer false (asks 0 0 2) ≡ codes OK
  -- a READ may have more bytes than needed, a WRITE has exactly those that it says
  pub more : transfer false (asks 4096 2 0 ++ 1 ∷ []) ≡ moves
  pub exact : transfer true (asks 4096 2 0 ++ 1 ∷ 2 ∷ []) ≡ moves
  pub surplus : transfer true (asks 4096 2 0 ++ 1 ∷ 2 ∷ 3 ∷ []) ≡ codes LEN
  -- ARG of a limit before LEN of the whole packet, and that before ARG of its alignment
  pub limit-first : transfer true (asks 4097 4 3 ++ 1 ∷ []) ≡ codes ARG
  pub length-first : transfer true (asks 4097 4 2 ++ 1 ∷ 2 ∷ 3 ∷ []) ≡ codes LEN

transfers : Transfers
unfolding asks bytes transfer aligned
transfers = record {
  most = refl;
  too_many = refl;
  no-type = refl;
  cut_short = refl;
  odd-address = refl;
  odd-length = refl;
  nothing = refl;
  more = refl;
  exact = refl;
  surplus = refl;
  limit-first = refl;
  length-first = refl;
}
