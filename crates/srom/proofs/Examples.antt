-- Computed examples of the serial ROM (document 004; paper 01, "Bench pieces with known weight").
use Rattle.std.specs.Prelude.{◌≡◌, refl, true, false, List, [], ◌∷◌, ◌++◌, ℕ, zero, suc, take, drop, replicate}
use Rattle.words.specs.Bytes.{little_endian_at}
use Rattle.memory_region.specs.declared.region.Region.{Region}
use Rattle.outcome.specs.Outcome.{refused, accepted, end, run, arm, thumb}
use Rattle.memory_map.specs.Lookup.{Lookup, lookup_in}
use Rattle.srom.specs.Load.{destinations, look, load_with}
use Rattle.srom.specs.Open as group

-- the top 32 bytes of System RAM, to read and write; and 32 bytes from 0x7fe0 on, to run
abbrev ram : Region
ram = record { base = 0xf5007fe0; length = 32; place = 0; rights = record { read = true; write = true; run = false } }

abbrev code : Region
code = record { base = 0x00007fe0; length = 32; place = 32; rights = record { read = true; write = false; run = true } }

find : Lookup
find = lookup_in (ram ∷ code ∷ [])

abbrev memory : List ℕ
memory = replicate 64 7

-- the second dump of document 004
dump : List ℕ
dump =
    0x55 ∷ 0x3a ∷ 0x00 ∷ 0x08 ∷ 0xf5 ∷ 0x00 ∷ 0x7f ∷ 0xe0 ∷ 0x00 ∷ 0x00 ∷ 0x80 ∷ 0x81 ∷ 0x0e ∷ 0x3e ∷ 0x00 ∷ 0xa4
    ∷ 0x88 ∷ 0xc1 ∷ 0x58 ∷ 0x82 ∷ 0xfa ∷ 0xc0 ∷ 0x58 ∷ 0x82 ∷ 0x00 ∷ 0x00 ∷ 0xff ∷ 0xff ∷ 0x00 ∷ 0x00 ∷ 0x45 ∷ 0xe5
    ∷ 0x00 ∷ 0x00 ∷ 0x00 ∷ 0x00 ∷ 0x00 ∷ 0x00 ∷ 0x00 ∷ 0x00 ∷ 0x00 ∷ 0xaa ∷ []

record SecondDump : Type 0 where
  pub outcome : (load_with find dump 0 memory).outcome ≡ accepted (end 40) 1 32
  pub destination : destinations (look find dump 0).blocks ≡ record { address = 0xf5007fe0; length = 32 } ∷ []
  pub flags : little_endian_at 2 (load_with find dump 0 memory).memory 0 ≡ 0x8081
  pub ip-address : take 4 (drop 8 (load_with find dump 0 memory).memory) ≡ 0x82 ∷ 0x58 ∷ 0xc1 ∷ 0x88 ∷ []
  pub port : little_endian_at 2 (load_with find dump 0 memory).memory 20 ≡ 17893
  pub rest : drop 32 (load_with find dump 0 memory).memory ≡ replicate 32 7

second-dump : SecondDump
unfolding dump find group.load
second-dump = record { outcome = refl; destination = refl; flags = refl; ip-address = refl; port = refl; rest = refl }

-- the first dump of document 004: 7 words, then a run of 0x7fe0, then the end. Its data is not given: here each word is 0x01020304
words : ℕ → List ℕ
words zero = []
words (suc k) = 1 ∷ 2 ∷ 3 ∷ 4 ∷ words k

first-dump : List ℕ
first-dump =
    0x55 ∷ 0x3a ∷ 0x00 ∷ 0x07 ∷ 0xf5 ∷ 0x00 ∷ 0x7f ∷ 0xe0
    ∷ (words 7 ++ 0x55 ∷ 0x3a ∷ 0x00 ∷ 0x00 ∷ 0x00 ∷ 0x00 ∷ 0x7f ∷ 0xe0 ∷ 0xff ∷ [])

record FirstDump : Type 0 where
  pub outcome : (load_with find first-dump 0 memory).outcome ≡ accepted (run arm 0x7fe0 44) 1 28
  pub stored : take 8 (load_with find first-dump 0 memory).memory ≡ 4 ∷ 3 ∷ 2 ∷ 1 ∷ 4 ∷ 3 ∷ 2 ∷ 1 ∷ []
  pub rest : drop 28 (load_with find first-dump 0 memory).memory ≡ replicate 36 7
  -- the load that goes on after the run
  pub resumed : load_with find first-dump 44 memory ≡ record { outcome = accepted (end 44) 0 0; memory = memory }

first-dump-loads : FirstDump
unfolding first-dump words find group.load
first-dump-loads = record { outcome = refl; stored = refl; rest = refl; resumed = refl }

-- short slices and refusals, at any memory
module _ (m : List ℕ) where
  record Short : Type 0 where
    pub only_end : load_with find (0xff ∷ []) 0 m ≡ record { outcome = accepted (end 0) 0 0; memory = m }
    pub empty : load_with find [] 0 m ≡ record { outcome = refused 2 0; memory = m }
    pub past_end : load_with find (0xff ∷ []) 1 m ≡ record { outcome = refused 2 1; memory = m }
    pub only-pads : load_with find (0x55 ∷ 0x55 ∷ []) 0 m ≡ record { outcome = refused 2 2; memory = m }
    pub header-cut : load_with find (0x55 ∷ 0x3a ∷ 0 ∷ 0 ∷ 0 ∷ 0 ∷ 0x7f ∷ []) 0 m ≡ record { outcome = refused 2 1; memory = m }
    pub thumb-run : load_with find (0x3a ∷ 0 ∷ 0 ∷ 0 ∷ 0 ∷ 0x7f ∷ 0xe3 ∷ []) 0 m ≡ record { outcome = accepted (run thumb 0x7fe3 7) 0 0; memory = m }
    pub run-nowhere : load_with find (0x3a ∷ 0 ∷ 0 ∷ 0 ∷ 0 ∷ 0x7f ∷ 0xe2 ∷ []) 0 m ≡ record { outcome = refused 9 0; memory = m }
    -- an address that is not aligned is 3 before data that is cut short is 2
    pub unaligned : load_with find (0x3a ∷ 0 ∷ 1 ∷ 0xf5 ∷ 0 ∷ 0x7f ∷ 0xe2 ∷ []) 0 m ≡ record { outcome = refused 3 0; memory = m }
    pub data-cut : load_with find (0x3a ∷ 0 ∷ 1 ∷ 0xf5 ∷ 0 ∷ 0x7f ∷ 0xe0 ∷ 1 ∷ 2 ∷ 3 ∷ []) 0 m ≡ record { outcome = refused 2 0; memory = m }
    -- the second block is not permitted: the first one stores nothing
    pub not-permitted : load_with find (0x3a ∷ 0 ∷ 1 ∷ 0xf5 ∷ 0 ∷ 0x7f ∷ 0xe0 ∷ 1 ∷ 2 ∷ 3 ∷ 4 ∷ 0x3a ∷ 0 ∷ 1 ∷ 0 ∷ 0 ∷ 0x7f ∷ 0xe0 ∷ 1 ∷ 2 ∷ 3 ∷ 4 ∷ 0xff ∷ []) 0 m
        ≡ record { outcome = refused 4 11; memory = m }

  short : Short
  unfolding find group.load
  short = record {
    only_end = refl;
    empty = refl;
    past_end = refl;
    only-pads = refl;
    header-cut = refl;
    thumb-run = refl;
    run-nowhere = refl;
    unaligned = refl;
    data-cut = refl;
    not-permitted = refl;
  }
