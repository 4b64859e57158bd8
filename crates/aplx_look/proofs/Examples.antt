-- Computed examples of what APLX loads answer (paper 01, "APLX" and "Bench pieces with known weight").
use Rattle.std.specs.Prelude.{◌≡◌, refl, true, false, List, [], ◌∷◌, ◌++◌, ℕ, take, replicate}
use Rattle.words.specs.Four.{four_bytes}
use Rattle.memory_region.specs.declared.region.Region.{Region}
use Rattle.outcome.specs.Outcome.{Outcome, refused, accepted, end, unknown, run, arm, thumb}
use Rattle.memory_map.specs.Lookup.{Lookup, lookup_in}
use Rattle.aplx_look.specs.Look.{destinations, look, outcome_of_look}
use Rattle.aplx_look.specs.Open as group

-- 256 bytes at address 4096 with every right, then 64 bytes at 8192 that may only be read
abbrev ram : Region
ram = record { base = 4096; length = 256; place = 0; rights = record { read = true; write = true; run = true } }

abbrev rom : Region
rom = record { base = 8192; length = 64; place = 256; rights = record { read = true; write = false; run = false } }

unfoldable pub find : Lookup
find = lookup_in (ram ∷ rom ∷ [])

abbrev pub entry : ℕ → ℕ → ℕ → ℕ → List ℕ
entry c x y z = four_bytes c x y z

unfoldable pub last : List ℕ
last = entry 0xffffffff 0 0 0

-- these bytes at address 4096, and 7 in every byte behind them
unfoldable pub memory : List ℕ → List ℕ
memory l = take 320 (l ++ replicate 320 7)

-- what a load of these entries from 4096 on answers
outcome : List ℕ → Outcome
outcome l = outcome_of_look (look find (memory l) 4096)

record Lengths : Type 0 where
  pub zero : outcome (entry 3 4224 0 9 ++ last) ≡ refused 5 0
  pub one : outcome (entry 3 4224 1 9 ++ last) ≡ accepted (end 1) 1 32
  pub whole : outcome (entry 3 4224 32 9 ++ last) ≡ accepted (end 1) 1 32
  pub over : outcome (entry 3 4224 33 9 ++ last) ≡ accepted (end 1) 1 64
  pub longest : outcome (entry 3 4224 0xffffffff 9 ++ last) ≡ refused 4 0

lengths : Lengths
unfolding outcome memory last find group.looks
lengths = record { zero = refl; one = refl; whole = refl; over = refl; longest = refl }

-- a fill, a copy, and the fill again: a destination for each, in order
destinations-are :
    destinations (look find (memory (entry 3 4224 1 9 ++ (entry 1 4256 4096 33 ++ (entry 3 4224 1 9 ++ last)))) 4096).commands
    ≡ record { address = 4224; length = 32 } ∷ record { address = 4256; length = 64 } ∷ record { address = 4224; length = 32 } ∷ []
unfolding memory last find group.looks
destinations-are = refl

-- stops and refusals
record Stops : Type 0 where
  pub end-first : outcome last ≡ accepted (end 0) 0 0
  pub unknown-word : outcome (entry 3 4224 32 9 ++ entry 5 0 0 0) ≡ accepted (unknown 5 1) 1 32
  pub arm-run : outcome (entry 3 4224 32 9 ++ (entry 4 4096 0 0 ++ last)) ≡ accepted (run arm 4096 4128) 1 32
  pub thumb-run : outcome (entry 4 4097 0 0) ≡ accepted (run thumb 4097 4112) 0 0
  -- the load that goes on after the run
  pub resumed : outcome_of_look (look find (memory (entry 3 4224 32 9 ++ (entry 4 4096 0 0 ++ last))) 4128) ≡ accepted (end 0) 0 0
  pub run-nowhere : outcome (entry 4 8192 0 0) ≡ refused 9 0
  pub never-legal : outcome (entry 4 4098 0 0) ≡ refused 9 0
  pub unaligned-header : outcome_of_look (look find (memory last) 4098) ≡ refused 3 0
  pub no-entry : outcome_of_look (look find (memory last) 12288) ≡ refused 6 0
  pub cut-entry : outcome_of_look (look find (memory last) 4340) ≡ refused 6 0
  -- 5 before 3, 3 before 4
  pub zero-unaligned : outcome (entry 3 4225 0 9 ++ last) ≡ refused 5 0
  pub unaligned-nowhere : outcome (entry 3 12289 32 9 ++ last) ≡ refused 3 0
  pub unaligned-source : outcome (entry 1 4224 4129 32 ++ last) ≡ refused 3 0
  pub unaligned-not-writable : outcome (entry 1 8192 4129 32 ++ last) ≡ refused 3 0
  pub not-writable : outcome (entry 1 8192 4096 32 ++ last) ≡ refused 4 0
  pub not-readable : outcome (entry 1 4224 12288 32 ++ last) ≡ refused 4 0
  -- the lengths of both ranges are rounded: the region ends at 4352
  pub rounded-destination : outcome (entry 1 4336 4224 1 ++ last) ≡ refused 4 0
  pub rounded-source : outcome (entry 1 4224 4336 1 ++ last) ≡ refused 4 0
  -- a destination over the stop's entry
  pub meets-stop : outcome (entry 3 4224 32 9 ++ (entry 3 4140 32 9 ++ last)) ≡ refused 8 1
  pub misses-stop : outcome (entry 3 4224 32 9 ++ (entry 3 4144 32 9 ++ last)) ≡ accepted (end 2) 2 64
  -- 9 at the stop before 8
  pub nine-before-eight : outcome (entry 3 4096 32 9 ++ entry 4 4098 0 0) ≡ refused 9 1

stops : Stops
unfolding outcome memory last find group.looks
stops = record {
  end-first = refl;
  unknown-word = refl;
  arm-run = refl;
  thumb-run = refl;
  resumed = refl;
  run-nowhere = refl;
  never-legal = refl;
  unaligned-header = refl;
  no-entry = refl;
  cut-entry = refl;
  zero-unaligned = refl;
  unaligned-nowhere = refl;
  unaligned-source = refl;
  unaligned-not-writable = refl;
  not-writable = refl;
  not-readable = refl;
  rounded-destination = refl;
  rounded-source = refl;
  meets-stop = refl;
  misses-stop = refl;
  nine-before-eight = refl;
}
