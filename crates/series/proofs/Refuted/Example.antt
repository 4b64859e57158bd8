-- A small setting in which demand 3 is put to the test (paper 01, "Plans"): a map of two regions, 256 bytes of memory, and one load.
use Rattle.std.specs.Prelude.{◌≡◌, refl, true, false, ℕ, ◌-◌, ◌≤◌, ltb, length, take, replicate}
use Rattle.std.proofs.Common.{◌∙◌, ap}
use mathlib.Core.List.{List, [], ◌∷◌, ◌++◌}
use native.Mathlib.Omega.{arith}
use Rattle.std.proofs.Math.ListN.{get_or}
use Rattle.words.specs.Choice.{All, every}
use Rattle.words.proofs.BytesLaws.{all-bytes}
use Rattle.memory_region.specs.declared.region.Region.{Region}
use Rattle.memory_region.specs.declared.region.Right.TheVariants.{Read}
use Rattle.memory_map.specs.declared.map.Map.{Map}
use Rattle.outcome.specs.Outcome.{end, stops, Loaded}
use Rattle.memory_map.specs.Map.{sound, empty_map, add}
use Rattle.memory_map.specs.Lookup.{at, Lookup, lookup_in, lookup}
use Rattle.memory_map.proofs.LookupLaws.{lookup-is}
use Rattle.memory_map.specs.Open as MapGroup
use Rattle.srom.specs.Walk.{Walk}
use Rattle.srom.specs.Load as SromLoad
use Rattle.srom.specs.Load.{srom_look, srom_load}
use Rattle.aplx_look.specs.Look.{Look, look, aplx_look}
use Rattle.aplx.specs.Load as AplxLoad
use Rattle.aplx.specs.Load.{aplx_load}
use Rattle.plan.specs.Plan as format
use Rattle.plan.specs.Plan.{Piece, read_plan}
use Rattle.plan.specs.Packed.{Packed, packs}
use Rattle.plan.specs.Meaning.{meaning}
use Rattle.srom_pack.specs.Image.{pack_srom}
use Rattle.aplx_pack.specs.Image.{pack_aplx}
use Rattle.series.specs.Series.{Step, Left, series}
use Rattle.series.specs.Medium.{Medium, srom, aplx, Misses, Intact, Spares}
use Rattle.series.specs.Software.{Software, packed}
use Rattle.series.specs.Demand.{loads, means, Granted, Demand3}

-- ---- the map
-- 128 bytes to read, for the image
abbrev image_region : Region
image_region = record { base = 4096; length = 128; place = 0; rights = record { read = true; write = false; run = false } }

-- 128 bytes to write and run, for what is loaded
abbrev load_region : Region
load_region = record { base = 8192; length = 128; place = 128; rights = record { read = true; write = true; run = true } }

unfoldable pub example : Map
example = (add (add empty_map image_region).map load_region).map

pub example-sound : sound example 256 ≡ true
unfolding example MapGroup.maps
example-sound = refl

-- its lookup, which computes
unfoldable pub find : Lookup
find = lookup_in (image_region ∷ load_region ∷ [])

pub finds : lookup example ≡ find
unfolding find example MapGroup.maps
finds = lookup-is example

-- ---- the plan and the image
-- a plan with these pieces
pub record Reads (plan : List ℕ) (ps : List Piece) : Type 0 where
  pub bytes : every (λ b. ltb b 256) plan ≡ true
  pub read : read_plan 1 plan ≡ format.pieces ps

-- memory with the image in it, and 7 in every byte behind it
unfoldable pub memory_with : List ℕ → List ℕ
memory_with image = image ++ replicate (256 - length image) 7

-- an image of these pieces that is intact
pub record Lies (k : Medium) (ps : List Piece) (image : List ℕ) : Type 0 where
  pub sized : length (memory_with image) ≡ 256
  pub intact : Intact k example ps image (memory_with image)

pub in-slice : {ps : List Piece} {image : List ℕ} → length (memory_with image) ≡ 256 → Lies srom ps image
in-slice e = record { sized = e; intact = tt }

pub in_memory :
    {ps : List Piece} {image : List ℕ}
    → length (memory_with image) ≡ 256 → find Read 4096 (length image) ≡ at 0 → take (length image) (memory_with image) ≡ image
    → All (Misses 4096 (length image)) ps → Lies (aplx 4096) ps image
in_memory {image} e f g h = record {
  sized = e;
  intact = record {
    aligned = refl;
    place = 0;
    readable = ap (λ (l : Lookup). l Read 4096 (length image)) finds ∙ f;
    intact = g;
    clear = h;
  };
}

-- ---- loads
-- what the first of some loads left
abbrev pub first_left : List Left → Left
first_left [] = record { memory = []; ending = stops (end 0) }
first_left (l ∷ ls) = l

-- under demand 3, the loads of a series leave what the plan means
module _ (s : Software) (demand : Demand3 s) (k : Medium) {plan image : List ℕ} {ps : List Piece} where
  pub same-series :
      Reads plan ps → Lies k ps image → packed s k plan 256 ≡ packs image → (steps : List Step) → All (λ t. t.index ≤ length ps) steps
      → All (λ t. All (Spares k example image) t.changes) steps
      → series (loads s k example ps image) steps (memory_with image) ≡ series (means k example ps) steps (memory_with image)
  same-series reads lies e steps indices alone =
      let h = demand k plan 256 image (all-bytes plan reads.bytes) e in
      let r = h.read in
      let t = reads.read in
      let q : ps ≡ h.pieces = cc in
      let granted : Granted k example ps image (memory_with image) steps = record {
        sound-map = rw lies.sized example-sound;
        intact = lies.intact;
        indices = indices;
        alone = alone;
      } in
      rw (← q) at (h.same example (memory_with image) steps (rw q at granted))

  -- one load of the whole plan: the byte at place p
  left :
      Reads plan ps → Lies k ps image → packed s k plan 256 ≡ packs image → (p : ℕ)
      → get_or (loads s k example ps image 0 (memory_with image)).memory p 0 ≡ get_or (meaning find ps 0 (memory_with image)).memory p 0
  unfolding series
  left reads lies e p =
      rw finds at (ap (λ (l : List Left). get_or (first_left l).memory p 0) (same-series reads lies e (record { index = 0; changes = [] } ∷ []) (omega arith, tt) (tt, tt)))

-- ---- software with one part replaced
abbrev pub packing_srom : (List ℕ → ℕ → Packed) → Software
packing_srom pack = record { pack_srom = pack; pack_aplx = pack_aplx; load_srom = srom_load; load_aplx = aplx_load }

abbrev pub packing_aplx : (List ℕ → ℕ → Packed) → Software
packing_aplx pack = record { pack_srom = pack_srom; pack_aplx = pack; load_srom = srom_load; load_aplx = aplx_load }

-- a loader that makes our tests, and then does `act`
abbrev pub loading_srom : (Walk → List ℕ → Loaded) → Software
loading_srom act = record {
  pack_srom = pack_srom;
  pack_aplx = pack_aplx;
  load_srom = λ map s o m. act (srom_look map (length m) s o) m;
  load_aplx = aplx_load;
}

abbrev pub loading_aplx : (Lookup → Look → List ℕ → Loaded) → Software
loading_aplx act = record {
  pack_srom = pack_srom;
  pack_aplx = pack_aplx;
  load_srom = srom_load;
  load_aplx = λ map m h. act (lookup map) (aplx_look map m h) m;
}

module _ {plan image : List ℕ} {ps : List Piece} (reads : Reads plan ps) where
  srom-look : Lies srom ps image → srom_look example (length (memory_with image)) image 0 ≡ SromLoad.look find image 0
  unfolding srom_look
  srom-look lies = rw (lies.sized, example-sound, finds)

  aplx-look : Lies (aplx 4096) ps image → aplx_look example (memory_with image) 4096 ≡ look find (memory_with image) 4096
  unfolding aplx_look
  aplx-look lies = rw (lies.sized, example-sound, finds)

  -- the bytes that a loader leaves
  pub srom-loaded :
      (act : Walk → List ℕ → Loaded) → Demand3 (loading_srom act) → Lies srom ps image → pack_srom plan 256 ≡ packs image → (p : ℕ)
      → get_or (act (SromLoad.look find image 0) (memory_with image)).memory p 0 ≡ get_or (meaning find ps 0 (memory_with image)).memory p 0
  srom-loaded act demand lies e p = rw (srom-look lies) at (left (loading_srom act) demand srom reads lies e p)

  pub aplx-loaded :
      (act : Lookup → Look → List ℕ → Loaded) → Demand3 (loading_aplx act) → Lies (aplx 4096) ps image → pack_aplx plan 256 ≡ packs image
      → (p : ℕ)
      → get_or (act find (look find (memory_with image) 4096) (memory_with image)).memory p 0
      ≡ get_or (meaning find ps 0 (memory_with image)).memory p 0
  aplx-loaded act demand lies e p = rw (aplx-look lies, finds) at (left (loading_aplx act) demand (aplx 4096) reads lies e p)

  -- the bytes that the image of a packer leaves
  pub srom-packed :
      (pack : List ℕ → ℕ → Packed) → Demand3 (packing_srom pack) → Lies srom ps image → pack plan 256 ≡ packs image → (p : ℕ)
      → get_or (SromLoad.loaded (SromLoad.look find image 0) (memory_with image)).memory p 0
      ≡ get_or (meaning find ps 0 (memory_with image)).memory p 0
  unfolding srom_load
  srom-packed pack demand lies e p = rw (srom-look lies) at (left (packing_srom pack) demand srom reads lies e p)

  pub aplx-packed :
      (pack : List ℕ → ℕ → Packed) → Demand3 (packing_aplx pack) → Lies (aplx 4096) ps image → pack plan 256 ≡ packs image → (p : ℕ)
      → get_or (AplxLoad.loaded find (look find (memory_with image) 4096) (memory_with image)).memory p 0
      ≡ get_or (meaning find ps 0 (memory_with image)).memory p 0
  unfolding aplx_load
  aplx-packed pack demand lies e p = rw (aplx-look lies, finds) at (left (packing_aplx pack) demand (aplx 4096) reads lies e p)
