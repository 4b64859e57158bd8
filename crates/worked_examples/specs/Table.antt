-- The pieces marked P (paper 01, "Bench pieces with known weight"), said of the definitions as a single table. Only the statement stands
-- here; proofs/TableProved.antt has the proof. Setting.antt has the inputs.
use Rattle.std.specs.Prelude.{◌≡◌, true, List, [], ◌∷◌, ◌++◌, ℕ, length, replicate}
use Rattle.words.specs.Bytes.{from_little_endian}
use Rattle.memory_map.specs.declared.map.Map.{Map}
use Rattle.outcome.specs.Outcome.{refused, accepted, end}
use Rattle.memory_map.specs.Map.{sound}
use Rattle.srom.specs.Load.{srom_load}
use Rattle.scp.specs.declared.answer.Identity.{Identity}
use Rattle.scp.specs.Answer.{responds}
use Rattle.plan.specs.Plan.{put, fill, run, pieces, read_plan}
use Rattle.plan.specs.Packed.{packs}
use Rattle.srom_pack.specs.Image.{pack_srom}
use Rattle.aplx_pack.specs.Image.{pack_aplx}
use Rattle.worked_examples.specs.Setting.{words, bytes_at, system_ram, holding, slice_loaded, dump, dump_words, fill_plan, put_plan, word_plan, empty_plan, image_of, around, entry_loaded, acopy_entry, rcopy_entry, fill_entry, read_answered}

-- "APLX length 1 stores 32 bytes; 32 stores 32; 33 stores 64; 0 is 5.": outcome and memory of the load of an entry with such a length
pub record Lengths (entry : ℕ → List ℕ) : Type 0 where
  pub one : entry_loaded (entry 1) ≡ record { outcome = accepted (end 1) 1 32; memory = around (entry 1) 32 }
  pub whole : entry_loaded (entry 32) ≡ record { outcome = accepted (end 1) 1 32; memory = around (entry 32) 32 }
  pub over : entry_loaded (entry 33) ≡ record { outcome = accepted (end 1) 1 64; memory = around (entry 33) 64 }
  pub none : entry_loaded (entry 0) ≡ record { outcome = refused 5 0; memory = around (entry 0) 0 }

pub record Table : Type 0 where
  -- "Document 004's second dump stores 8 words at 0xf5007fe0 and ends at the byte at offset 40: flags 0x8081, IP bytes 82 58 c1 88, port
  -- 17893." One block of 32 bytes; no other byte of memory changes. The fields lie in memory as in the note's `srom_data`: 2 bytes of
  -- flags, 6 of MAC address, 4 each of IP address, gateway and mask, 2 of port
  pub dump-loads : slice_loaded dump ≡ record { outcome = accepted (end 40) 1 32; memory = holding (words dump_words) }
  pub dump-count : length dump_words ≡ 8
  pub dump-stored : bytes_at system_ram (slice_loaded dump).memory 0xf5007fe0 32 ≡ words dump_words
  pub dump-flags : from_little_endian (bytes_at system_ram (slice_loaded dump).memory 0xf5007fe0 2) ≡ 0x8081
  pub dump-address : bytes_at system_ram (slice_loaded dump).memory 0xf5007fe8 4 ≡ 0x82 ∷ 0x58 ∷ 0xc1 ∷ 0x88 ∷ []
  pub dump-port : from_little_endian (bytes_at system_ram (slice_loaded dump).memory 0xf5007ff4 2) ≡ 17893
  -- "Plan of one fill, 32 bytes of 0 at 0x00400000, then run 0. Whole image, 48 bytes: `03000000 00004000 20000000 00000000 04000000
  -- 00000000 00000000 00000000 ffffffff 00000000 00000000 00000000`." The output holds 65,536 bytes, as in the rows below
  pub fill-plan : read_plan 32 fill_plan ≡ pieces (fill 0x00400000 32 0 ∷ run 0 ∷ [])
  pub fill-image : pack_aplx fill_plan 65536
      ≡ packs
      (0x03 ∷ 0x00 ∷ 0x00 ∷ 0x00 ∷ 0x00 ∷ 0x00 ∷ 0x40 ∷ 0x00 ∷ 0x20 ∷ 0x00 ∷ 0x00 ∷ 0x00 ∷ 0x00 ∷ 0x00 ∷ 0x00 ∷ 0x00
      ∷ 0x04 ∷ 0x00 ∷ 0x00 ∷ 0x00 ∷ 0x00 ∷ 0x00 ∷ 0x00 ∷ 0x00 ∷ 0x00 ∷ 0x00 ∷ 0x00 ∷ 0x00 ∷ 0x00 ∷ 0x00 ∷ 0x00 ∷ 0x00
      ∷ 0xff ∷ 0xff ∷ 0xff ∷ 0xff ∷ 0x00 ∷ 0x00 ∷ 0x00 ∷ 0x00 ∷ 0x00 ∷ 0x00 ∷ 0x00 ∷ 0x00 ∷ 0x00 ∷ 0x00 ∷ 0x00 ∷ 0x00 ∷ [])
  pub fill-size : length (image_of (pack_aplx fill_plan 65536)) ≡ 48
  -- "Put of 32 bytes at 0, then run 0: first entry `02000000 00000000 30000000 20000000`, image 80 bytes." For any 32 bytes
  pub put-plan : (d : List ℕ) → length d ≡ 32 → read_plan 32 (put_plan d) ≡ pieces (put 0 d ∷ run 0 ∷ [])
  pub put_image : (d : List ℕ) → length d ≡ 32 → pack_aplx (put_plan d) 65536
      ≡ packs
      (0x02 ∷ 0x00 ∷ 0x00 ∷ 0x00 ∷ 0x00 ∷ 0x00 ∷ 0x00 ∷ 0x00 ∷ 0x30 ∷ 0x00 ∷ 0x00 ∷ 0x00 ∷ 0x20 ∷ 0x00 ∷ 0x00 ∷ 0x00
      ∷ (words (4 ∷ 0 ∷ 0 ∷ 0 ∷ 0xffffffff ∷ 0 ∷ 0 ∷ 0 ∷ []) ++ d))
  pub put-size : (d : List ℕ) → length d ≡ 32 → length (image_of (pack_aplx (put_plan d) 65536)) ≡ 80
  -- "SROM of one fill, 4 bytes of 0x01020304 at 0xf5007fe0: `55 3a 00 01 f5 00 7f e0 01 02 03 04 ff`; memory gets 04 03 02 01."
  pub word-plan : read_plan 4 word_plan ≡ pieces (fill 0xf5007fe0 4 0x01020304 ∷ [])
  pub word-image : pack_srom word_plan 65536
      ≡ packs (0x55 ∷ 0x3a ∷ 0x00 ∷ 0x01 ∷ 0xf5 ∷ 0x00 ∷ 0x7f ∷ 0xe0 ∷ 0x01 ∷ 0x02 ∷ 0x03 ∷ 0x04 ∷ 0xff ∷ [])
  pub word-loads : slice_loaded (image_of (pack_srom word_plan 65536))
      ≡ record { outcome = accepted (end 12) 1 4; memory = holding (0x04 ∷ 0x03 ∷ 0x02 ∷ 0x01 ∷ []) }
  pub word-stored : bytes_at system_ram (slice_loaded (image_of (pack_srom word_plan 65536))).memory 0xf5007fe0 4 ≡ 0x04 ∷ 0x03 ∷ 0x02 ∷ 0x01 ∷ []
  -- "Empty plan: APLX 16 bytes, SROM `55 ff`."
  pub empty-plan : read_plan 32 empty_plan ≡ pieces []
  pub empty-aplx : pack_aplx empty_plan 65536 ≡ packs (0xff ∷ 0xff ∷ 0xff ∷ 0xff ∷ replicate 12 0x00)
  pub empty-size : length (image_of (pack_aplx empty_plan 65536)) ≡ 16
  pub empty-srom : pack_srom empty_plan 65536 ≡ packs (0x55 ∷ 0xff ∷ [])
  -- "APLX length 1 stores 32 bytes; 32 stores 32; 33 stores 64; 0 is 5."
  pub acopy-lengths : Lengths acopy_entry
  pub rcopy-lengths : Lengths rcopy_entry
  pub fill-lengths : Lengths fill_entry
  -- "SROM `ff`: ends, nothing stored; empty slice: 2." With any map that is sound for the memory
  pub end-only : (map : Map) (m : List ℕ) → sound map (length m) ≡ true → srom_load map (0xff ∷ []) 0 m
      ≡ record { outcome = accepted (end 0) 0 0; memory = m }
  pub empty-slice : (map : Map) (m : List ℕ) → sound map (length m) ≡ true → srom_load map [] 0 m
      ≡ record { outcome = refused 2 0; memory = m }
  -- "READ length 256 answers 260 bytes; 257 is ARG." OK is 0x80 and ARG is 0x84; then come the sequence number and the data
  pub read-256 : (id : Identity) → read_answered id 256
      ≡ record { reply = responds 260; memory = replicate 260 7; output = 0x80 ∷ 0x00 ∷ 0x11 ∷ 0x22 ∷ (replicate 256 7 ++ replicate 12 0) }
  pub read-257 : (id : Identity) → read_answered id 257
      ≡ record { reply = responds 4; memory = replicate 260 7; output = 0x84 ∷ 0x00 ∷ 0x11 ∷ 0x22 ∷ replicate 268 0 }
