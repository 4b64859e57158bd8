-- What the table of worked examples speaks of: maps, memory, a serial ROM, plans, entries and a packet (paper 01, "Bench pieces with
-- known weight").
use Rattle.std.specs.Prelude.{true, List, [], ◌∷◌, ◌++◌, ℕ, ◌-◌, take, drop, replicate}
use Rattle.words.specs.Bytes.{little_endian}
use Rattle.words.specs.Store.{store}
use Rattle.memory_region.specs.declared.region.Right.TheVariants.{Read}
use Rattle.memory_map.specs.declared.map.Map.{Map}
use Rattle.outcome.specs.Outcome.{Loaded}
use Rattle.memory_map.specs.Map.{empty_map, add}
use Rattle.memory_map.specs.Lookup as map
use Rattle.memory_map.specs.Lookup.{Found, lookup}
use Rattle.srom.specs.Load.{srom_load}
use Rattle.aplx.specs.Load.{aplx_load}
use Rattle.scp.specs.declared.answer.Identity.{Identity}
use Rattle.scp.specs.Answer.{Answered, scp_answer}
use Rattle.plan.specs.Packed.{Packed, refuses, packs}

-- these words, Little Endian
unfoldable pub words : List ℕ → List ℕ
words [] = []
words (w ∷ ws) = little_endian 4 w ++ words ws

-- ---- maps and memory
-- a map of one region with every right: base, length, place
unfoldable pub map_of : ℕ → ℕ → ℕ → Map
map_of b l p = (add empty_map (record { base = b; length = l; place = p; rights = record { read = true; write = true; run = true } })).map

-- the n bytes at address a of memory m; none where the map does not permit to read them
abbrev pub bytes_found : Found → List ℕ → ℕ → List ℕ
bytes_found (map.at p) m n = take n (drop p m)
bytes_found (map.refused x) m n = []

abbrev pub bytes_at : Map → List ℕ → ℕ → ℕ → List ℕ
bytes_at map m a n = bytes_found (lookup map Read a n) m n

-- ---- serial ROM
-- the top 48 bytes of System RAM, at place 8 of a memory of 64 bytes
abbrev pub system_ram : Map
system_ram = map_of 0xf5007fd0 48 8

-- that memory with the bytes d at place 24, which is address 0xf5007fe0, and 7 in every other byte
abbrev pub holding : List ℕ → List ℕ
holding d = store (replicate 64 7) 24 d

-- what the load of a slice leaves, from offset 0 on
abbrev pub slice_loaded : List ℕ → Loaded
slice_loaded s = srom_load system_ram s 0 (holding [])

-- the second dump of document 004
unfoldable pub dump : List ℕ
dump =
    0x55 ∷ 0x3a ∷ 0x00 ∷ 0x08 ∷ 0xf5 ∷ 0x00 ∷ 0x7f ∷ 0xe0 ∷ 0x00 ∷ 0x00 ∷ 0x80 ∷ 0x81 ∷ 0x0e ∷ 0x3e ∷ 0x00 ∷ 0xa4
    ∷ 0x88 ∷ 0xc1 ∷ 0x58 ∷ 0x82 ∷ 0xfa ∷ 0xc0 ∷ 0x58 ∷ 0x82 ∷ 0x00 ∷ 0x00 ∷ 0xff ∷ 0xff ∷ 0x00 ∷ 0x00 ∷ 0x45 ∷ 0xe5
    ∷ 0x00 ∷ 0x00 ∷ 0x00 ∷ 0x00 ∷ 0x00 ∷ 0x00 ∷ 0x00 ∷ 0x00 ∷ 0x00 ∷ 0xaa ∷ []

-- its data words
abbrev pub dump_words : List ℕ
dump_words = 0x00008081 ∷ 0x0e3e00a4 ∷ 0x88c15882 ∷ 0xfac05882 ∷ 0x0000ffff ∷ 0x000045e5 ∷ 0x00000000 ∷ 0x00000000 ∷ []

-- ---- plans as bytes: the header, then the pieces, then data. The table says what is read from each
abbrev pub fill_plan : List ℕ
fill_plan = words (2 ∷ 16 ∷ 48 ∷ 0 ∷ 2 ∷ 0x00400000 ∷ 32 ∷ 0 ∷ 3 ∷ 0 ∷ 0 ∷ 0 ∷ [])

abbrev pub put_plan : List ℕ → List ℕ
put_plan d = words (2 ∷ 16 ∷ 48 ∷ 32 ∷ 1 ∷ 0 ∷ 32 ∷ 0 ∷ 3 ∷ 0 ∷ 0 ∷ 0 ∷ []) ++ d

abbrev pub word_plan : List ℕ
word_plan = words (1 ∷ 16 ∷ 32 ∷ 0 ∷ 2 ∷ 0xf5007fe0 ∷ 4 ∷ 0x01020304 ∷ [])

abbrev pub empty_plan : List ℕ
empty_plan = words (0 ∷ 16 ∷ 16 ∷ 0 ∷ [])

-- the image that was packed; none where the plan was refused
abbrev pub image_of : Packed → List ℕ
image_of (refuses x i) = []
image_of (packs image) = image

-- ---- APLX
-- memory from address 4096 on: an entry, the end entry, 64 bytes of 5, and 96 bytes of 7 of which the first n are 5
abbrev pub around : List ℕ → ℕ → List ℕ
around entry n = entry ++ (words (0xffffffff ∷ 0 ∷ 0 ∷ 0 ∷ []) ++ (replicate 64 5 ++ (replicate n 5 ++ replicate (96 - n) 7)))

abbrev pub entry_loaded : List ℕ → Loaded
entry_loaded entry = aplx_load (map_of 4096 192 0) (around entry 0) 4096

-- entries of length n that store 5 from address 4192 on, where the 96 bytes begin
abbrev pub acopy_entry : ℕ → List ℕ
acopy_entry n = words (1 ∷ 4192 ∷ 4128 ∷ n ∷ [])

abbrev pub rcopy_entry : ℕ → List ℕ
rcopy_entry n = words (2 ∷ 4192 ∷ 32 ∷ n ∷ [])

abbrev pub fill_entry : ℕ → List ℕ
fill_entry n = words (3 ∷ 4192 ∷ n ∷ 0x05050505 ∷ [])

-- ---- SCP
-- a READ of n bytes from address 4096 on, where 260 bytes may be read
abbrev pub read_packet_of : ℕ → List ℕ
read_packet_of n = 0x02 ∷ 0x00 ∷ 0x11 ∷ 0x22 ∷ words (4096 ∷ n ∷ 0 ∷ [])

-- its answer, in an output of 272 bytes
abbrev pub read_answered : Identity → ℕ → Answered
read_answered id n = scp_answer (map_of 4096 260 0) id (read_packet_of n) (replicate 260 7) (replicate 272 0)
