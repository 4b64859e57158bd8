-- The table of worked examples, proved by computation. `lookup` is shut: what is asked of a map is first said with what lookup finds.
use Rattle.std.specs.Prelude.{◌≡◌, refl, true, List, [], ◌∷◌, ◌++◌, ℕ, replicate}
use Rattle.std.proofs.Common.{◌∙◌, append-nil, arith}
use Rattle.std.proofs.Math.Path.{ap}
use Rattle.std.proofs.Math.ListN.{length}
use Rattle.std.proofs.Math.Seq.{take_all}
use Rattle.words.specs.Bytes.{from_little_endian}
use Rattle.words.specs.Four.{four_bytes}
use Rattle.words.specs.Open as WordsGroup
use Rattle.memory_region.specs.declared.region.Right.TheVariants.{Read}
use Rattle.memory_map.specs.declared.map.Map.{Map}
use Rattle.outcome.specs.Outcome.{Loaded}
use Rattle.memory_map.specs.Map.{sound}
use Rattle.memory_map.specs.Lookup.{Lookup, lookup_in, lookup}
use Rattle.memory_map.proofs.LookupLaws.{lookup-is}
use Rattle.memory_map.specs.Open as MapGroup
use Rattle.srom.specs.Load as SromLoad
use Rattle.srom.specs.Load.{srom_look, srom_load}
use Rattle.srom.specs.Open as SromGroup
use Rattle.aplx_look.specs.Look.{aplx_look}
use Rattle.aplx.specs.Load as AplxLoad
use Rattle.aplx.specs.Load.{aplx_load}
use Rattle.aplx.specs.Open as AplxGroup
use Rattle.scp.specs.Answer.{answered, read_packet}
use Rattle.scp.specs.Open as ScpGroup
use Rattle.plan.specs.Plan.{put, run, pieces, read_plan}
use Rattle.plan.specs.Packed.{packs, packed_as}
use Rattle.srom_pack.specs.Image.{pack_srom}
use Rattle.srom_pack.specs.Open as SromPackGroup
use Rattle.aplx_pack.specs.Image.{aplx_image, pack_aplx}
use Rattle.aplx_pack.specs.Open as AplxPackGroup
use Rattle.worked_examples.specs.Setting.{words, map_of, bytes_found, bytes_at, system_ram, holding, slice_loaded, dump, put_plan, word_plan, image_of, around, entry_loaded, acopy_entry, rcopy_entry, fill_entry, read_packet_of}
use Rattle.worked_examples.specs.Table.{Table}

-- ---- a load with a map is the load with what its lookup finds
module _ (map : Map) (find : Lookup) (finds : lookup map ≡ find) (m : List ℕ) (good : sound map (length m) ≡ true) where
  srom-with : (s : List ℕ) (o : ℕ) → srom_load map s o m ≡ SromLoad.load_with find s o m
  unfolding srom_load srom_look SromLoad.load_with
  srom-with s o = rw (good, finds)

  aplx-with : (h : ℕ) → aplx_load map m h ≡ AplxLoad.load_with find m h
  unfolding aplx_load aplx_look AplxLoad.load_with
  aplx-with h = rw (good, finds)

-- ---- what the map of one region finds
abbrev find_of : ℕ → ℕ → ℕ → Lookup
find_of b l p = lookup_in (record { base = b; length = l; place = p; rights = record { read = true; write = true; run = true } } ∷ [])

record Finds : Type 0 where
  pub system : lookup system_ram ≡ find_of 0xf5007fd0 48 8
  pub entries : lookup (map_of 4096 192 0) ≡ find_of 4096 192 0
  pub packets : lookup (map_of 4096 260 0) ≡ find_of 4096 260 0

finds : Finds
unfolding map_of MapGroup.maps
finds = record {
  system = lookup-is system_ram;
  entries = lookup-is (map_of 4096 192 0);
  packets = lookup-is (map_of 4096 260 0);
}

-- ---- the loads of the table
abbrev slice_found : List ℕ → Loaded
slice_found s = SromLoad.load_with (find_of 0xf5007fd0 48 8) s 0 (holding [])

slice-load : (s : List ℕ) → slice_loaded s ≡ slice_found s
unfolding map_of MapGroup.maps WordsGroup.stores
slice-load s = srom-with system_ram (find_of 0xf5007fd0 48 8) finds.system (holding []) refl s 0

slice-bytes :
    (s : List ℕ) (a n : ℕ)
    → bytes_at system_ram (slice_loaded s).memory a n ≡ bytes_found (find_of 0xf5007fd0 48 8 Read a n) (slice_found s).memory n
slice-bytes s a n = rw (finds.system, slice-load s)

entry-load :
    (entry : List ℕ) → sound (map_of 4096 192 0) (length (around entry 0)) ≡ true
    → entry_loaded entry ≡ AplxLoad.load_with (find_of 4096 192 0) (around entry 0) 4096
entry-load entry good = aplx-with (map_of 4096 192 0) (find_of 4096 192 0) finds.entries (around entry 0) good 4096

-- ---- the plan of a put
module _ (d : List ℕ) (e : length d ≡ 32) where
  put_reads : read_plan 32 (put_plan d) ≡ pieces (put 0 d ∷ run 0 ∷ [])
  unfolding words AplxPackGroup.image
  put_reads = simp (e, take_all 32 d (omega arith))

  put-packs : pack_aplx (put_plan d) 65536 ≡ packs (four_bytes 2 0 48 32 ++ (four_bytes 4 0 0 0 ++ (four_bytes 0xffffffff 0 0 0 ++ d)))
  unfolding words AplxPackGroup.image
  put-packs = ap (λ r. packed_as aplx_image r 65536) put_reads ∙ simp (append-nil d, e)

  put-size : length (image_of (pack_aplx (put_plan d) 65536)) ≡ 80
  unfolding words AplxPackGroup.image
  put-size = ap (λ p. length (image_of p)) put-packs ∙ simp e

-- ---- the table
pub table : Table
unfolding words map_of dump MapGroup.maps SromGroup.load AplxGroup.load ScpGroup.answers SromPackGroup.image AplxPackGroup.image
table = record {
  dump-loads = slice-load dump;
  dump-count = refl;
  dump-stored = slice-bytes dump 0xf5007fe0 32;
  dump-flags = ap from_little_endian (slice-bytes dump 0xf5007fe0 2);
  dump-address = slice-bytes dump 0xf5007fe8 4;
  dump-port = ap from_little_endian (slice-bytes dump 0xf5007ff4 2);
  fill-plan = refl;
  fill-image = refl;
  fill-size = refl;
  put-plan = put_reads;
  put_image = put-packs;
  put-size = put-size;
  word-plan = refl;
  word-image = refl;
  word-loads = slice-load (image_of (pack_srom word_plan 65536));
  word-stored = slice-bytes (image_of (pack_srom word_plan 65536)) 0xf5007fe0 4;
  empty-plan = refl;
  empty-aplx = refl;
  empty-size = refl;
  empty-srom = refl;
  acopy-lengths = record {
    one = entry-load (acopy_entry 1) refl;
    whole = entry-load (acopy_entry 32) refl;
    over = entry-load (acopy_entry 33) refl;
    none = entry-load (acopy_entry 0) refl;
  };
  rcopy-lengths = record {
    one = entry-load (rcopy_entry 1) refl;
    whole = entry-load (rcopy_entry 32) refl;
    over = entry-load (rcopy_entry 33) refl;
    none = entry-load (rcopy_entry 0) refl;
  };
  fill-lengths = record {
    one = entry-load (fill_entry 1) refl;
    whole = entry-load (fill_entry 32) refl;
    over = entry-load (fill_entry 33) refl;
    none = entry-load (fill_entry 0) refl;
  };
  end-only = λ map m good. srom-with map (lookup map) refl m good (0xff ∷ []) 0;
  empty-slice = λ map m good. srom-with map (lookup map) refl m good [] 0;
  read-256 = λ id. ap (λ (find : Lookup). answered (read_packet find (read_packet_of 256) (replicate 260 7)) (replicate 272 0)) finds.packets;
  read-257 = λ id. refl;
}
